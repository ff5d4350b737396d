use Rattle.sleepers.proofs.Vocabulary.{◌∙◌, List, Contains, ap, ⊎_elim, sym, subst, none_in_nil, take_all, Event}
use Rattle.sleepers.proofs.LoopLemmas.{in_next}
use Rattle.sleepers.proofs.wake_index.has_name_of.Goals as goal

pub loop-event-init : goal.loop-event-init
loop-event-init c = λ shape on event there same. absurd (none_in_nil event there)

pub loop-event-preserved : goal.loop-event-preserved
loop-event-preserved c = λ shape on event there same. ⊎_elim
    (λ before. c.loop-event.invariant shape on event before same)
    (λ is. c.is_named_in.ensures c.if-is_named_in.false shape on (ap (λ (e : Event). e.name) is ∙ same))
    (in_next c.args.events.now c.loop-event.event-index c.event-item.result event c.loop-event-test.true c.event-item.is there)

pub returns : goal.returns
returns c = λ none shape on event there.
    c.loop-event.invariant shape on event
    (subst (λ (l : List Event). Contains l event) (sym (take_all c.loop-event.event-index c.args.events.now c.loop-event-test.false)) there)
