use Rattle.monitorable_guard.proofs.Vocabulary.{◌≡◌, take, Contains, Event}
use Rattle.monitorable_guard.proofs.needed_events.has_named.Given as goal

abbrev pub invariant-loop-event : goal.invariant-loop-event
invariant-loop-event l = (event : Event) → Contains (take l.event-index l.events) event → event.name ≡ l.name → ⊥
