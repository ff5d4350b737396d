use Rattle.monitorable_guard.proofs.Vocabulary.{take, All, Contains}
use Rattle.monitorable_guard.proofs.scopes.are_all_in.Given as goal

abbrev pub invariant-loop-x : goal.invariant-loop-x
invariant-loop-x l = All (Contains l.others) (take l.x-index l.xs)
