use Rattle.monitorable_guard.proofs.Vocabulary.{length}
use Rattle.monitorable_guard.specs.machine.AskingOrder.{placed_conjuncts}
use Rattle.monitorable_guard.proofs.TurnLemmas.{TurnSoFar}
use Rattle.monitorable_guard.proofs.order.in_turn.Given as goal

abbrev pub invariant-loop-alloc : goal.invariant-loop-alloc
invariant-loop-alloc l = TurnSoFar l.bound l.scope.items (placed_conjuncts l.fn.conjuncts.items) (placed_conjuncts l.turn.items) (placed_conjuncts l.left.items)

abbrev pub decreases-loop-alloc : goal.decreases-loop-alloc
decreases-loop-alloc l = length l.left.items
