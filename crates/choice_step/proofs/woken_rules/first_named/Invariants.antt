use Rattle.choice_step.proofs.Vocabulary.{◌≡◌, ◌≤◌, All, Contains, take, Event, Woken}
use Rattle.choice_step.proofs.woken_rules.first_named.Given as goal

abbrev pub invariant-loop-event : goal.invariant-loop-event
invariant-loop-event l = (l.from ≤ l.first) × (l.first ≤ l.last)
    × All (λ (event : Event). (entry : Woken) → Contains l.woken entry → entry.name ≡ event.name → l.from ≤ entry.rule
    → l.first ≤ entry.rule) (take l.event-index l.events)
