use Rattle.monitorable_guard.proofs.Vocabulary.{Contains, take, Var, AddsVariables}
use Rattle.monitorable_guard.proofs.scopes.add_terms.Given as goal

abbrev pub invariant-loop-term : goal.invariant-loop-term
invariant-loop-term l = AddsVariables (λ y. Contains (take l.term-index l.terms) (Var y)) l.fn.all.items l.all.items
