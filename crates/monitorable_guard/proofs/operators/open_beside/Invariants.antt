use Rattle.monitorable_guard.proofs.Vocabulary.{◌≡◌, take, columns_unshared}
use Rattle.monitorable_guard.proofs.operators.open_beside.Given as goal

abbrev pub invariant-loop-variable : goal.invariant-loop-variable
invariant-loop-variable l = l.found.items ≡ columns_unshared l.bound (take l.variable-index l.variable-items)
