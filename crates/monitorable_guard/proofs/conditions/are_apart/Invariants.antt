use Rattle.monitorable_guard.proofs.Vocabulary.{take, All, Contains}
use Rattle.monitorable_guard.proofs.conditions.are_apart.Given as goal

abbrev pub invariant-loop-x : goal.invariant-loop-x
invariant-loop-x l = All (λ x. Contains l.others x → ⊥) (take l.x-index l.xs)
