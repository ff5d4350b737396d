use Rattle.formula_reader.proofs.Vocabulary.{rules}
use Rattle.formula_reader.proofs.BindersInTurn.{bind_refused}
use Rattle.formula_reader.proofs.resolving.Resolver.bind_all.Goals as goal

pub returns-in_err-bind-clause-err : goal.returns-in_err-bind-clause-err
returns-in_err-bind-clause-err c =
    let h = bind_refused c.args.self.now.signature.now c.loop-binding.variables.sorts.items c.loop-binding.variables.names.items c.loop-binding.variables.scope.items
    c.args.bindings.now c.loop-binding.binding-index c.binding-item.result _ c.in_err-bind.field-0.0 c.loop-binding.invariant.sorts c.loop-binding-test.true c.binding-item.is
    (c.in_err-bind.ensures).refused in
    search (rules, h)
