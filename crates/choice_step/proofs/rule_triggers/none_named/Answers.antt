use Rattle.choice_step.proofs.Vocabulary.{◌≡◌, All, subst, take_all, Event}
use Rattle.choice_step.proofs.rule_triggers.none_named.Goals as goal

pub returns : goal.returns
returns c none = subst (All (λ (event : Event). event.name ≡ c.args.name → ⊥)) (take_all c.loop-event.event-index c.args.events.now c.loop-event-test.false) c.loop-event.invariant
