use Rattle.sleepers.proofs.Vocabulary.{◌≡◌, Contains, take, Event, Shape}
use Rattle.sleepers.proofs.wake_index.has_name_of.Given as goal

abbrev pub invariant-loop-event : goal.invariant-loop-event
invariant-loop-event l = (shape : Shape) → Contains l.shapes shape → (event : Event) → Contains (take l.event-index l.events) event
    → event.name ≡ shape.name → ⊥
