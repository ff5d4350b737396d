use Rattle.monitorable_guard.proofs.Vocabulary.{◌≡◌, map, take, Var}
use Rattle.monitorable_guard.proofs.guard_rows.are_variables.Given as goal

abbrev pub invariant-loop-place : goal.invariant-loop-place
invariant-loop-place l = take l.place l.terms ≡ map Var (take l.place l.variables)
