use Rattle.formula_reader.proofs.Vocabulary.{◌≡◌, ◌++◌, drop, option_map, pass, argument_points, terms_in}
use Rattle.formula_reader.proofs.resolving.Resolver.resolve_arguments.Given as goal

abbrev pub invariant-loop-index : goal.invariant-loop-index
invariant-loop-index l = record {
  names : l.variables.names.items ≡ l.fn.variables.names.items;
  scope : l.variables.scope.items ≡ l.fn.variables.scope.items;
  resolved : terms_in l.fn.variables.names.items l.fn.variables.scope.items l.terms
      ≡ option_map (λ rest. l.resolved.items ++ rest) (terms_in l.fn.variables.names.items l.fn.variables.scope.items (drop l.index l.terms));
  sorts : pass l.self.signature.now l.fn.variables.sorts.items (argument_points l.fn.variables.names.items l.fn.variables.scope.items l.sorts l.terms)
      ≡ pass l.self.signature.now l.variables.sorts.items (argument_points l.fn.variables.names.items l.fn.variables.scope.items (drop l.index l.sorts) (drop l.index l.terms));
}
