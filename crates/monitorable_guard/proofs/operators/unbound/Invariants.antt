use Rattle.monitorable_guard.proofs.Vocabulary.{◌≡◌, take, is_none, filter, value_at, bound_in}
use Rattle.monitorable_guard.proofs.operators.unbound.Given as goal

abbrev pub invariant-loop-variable : goal.invariant-loop-variable
invariant-loop-variable l = l.found.items ≡ filter (λ x. is_none (value_at (bound_in l.scope) x)) (take l.variable-index l.variables)
