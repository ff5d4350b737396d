use Rattle.choice_step.proofs.Vocabulary.{◌≡◌, All, take, Event}
use Rattle.choice_step.proofs.rule_triggers.none_named.Given as goal

abbrev pub invariant-loop-event : goal.invariant-loop-event
invariant-loop-event l = All (λ (event : Event). event.name ≡ l.name → ⊥) (take l.event-index l.events)
