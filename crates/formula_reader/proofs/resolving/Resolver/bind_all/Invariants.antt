use Rattle.formula_reader.proofs.Vocabulary.{◌≡◌, ◌++◌, length, drop, pass, binder_points, binding_names, bound_variables_from}
use Rattle.formula_reader.proofs.resolving.Resolver.bind_all.Given as goal

abbrev pub invariant-loop-binding : goal.invariant-loop-binding
invariant-loop-binding l = record {
  bound : bound_variables_from (length l.fn.variables.names.items) l.bindings
      ≡ l.bound.items ++ bound_variables_from (length l.variables.names.items) (drop l.binding-index l.bindings);
  names : l.fn.variables.names.items ++ binding_names l.bindings ≡ l.variables.names.items ++ binding_names (drop l.binding-index l.bindings);
  scope : l.fn.variables.scope.items ++ bound_variables_from (length l.fn.variables.names.items) l.bindings
      ≡ l.variables.scope.items ++ bound_variables_from (length l.variables.names.items) (drop l.binding-index l.bindings);
  sorts : pass l.self.signature.now l.fn.variables.sorts.items (binder_points l.fn.variables.names.items l.fn.variables.scope.items l.bindings)
      ≡ pass l.self.signature.now l.variables.sorts.items (binder_points l.variables.names.items l.variables.scope.items (drop l.binding-index l.bindings));
}
