use Rattle.monitorable_guard.proofs.Vocabulary.{◌≡◌, take, shown_events}
use Rattle.monitorable_guard.proofs.events.many_in_order.Given as goal

abbrev pub invariant-loop-event : goal.invariant-loop-event
invariant-loop-event l = shown_events l.order.items ≡ take l.event-index l.events
