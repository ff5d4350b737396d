use Rattle.monitorable_guard.proofs.Vocabulary.{◌<◌, length, get_or, Contains, Safe, tree_of}
use Rattle.monitorable_guard.specs.declared.order.Conjunct.{Conjunct}
use Rattle.monitorable_guard.proofs.order.next_place.Given as goal

abbrev pub invariant-loop-step : goal.invariant-loop-step
invariant-loop-step l = (l.next < length l.left) × ((other : Conjunct) → Safe (tree_of (get_or l.left l.next other).formula.now) (Contains l.scope))
