use Rattle.monitorable_guard.proofs.Vocabulary.{◌≡◌, length, take, shown_events}
use Rattle.monitorable_guard.proofs.events.few_in_order.Given as goal

abbrev pub invariant-loop-place : goal.invariant-loop-place
invariant-loop-place l = (length l.places ≡ 4) × (shown_events (take l.place l.places) ≡ take l.place l.events)
