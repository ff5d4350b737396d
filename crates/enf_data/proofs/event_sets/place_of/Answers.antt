use Rattle.enf_data.proofs.Vocabulary.{⊎_elim, Contains, Some, ap, arith, get_or, subst, sym, take, true≢false, ◌∙◌, take_more, Contains-push_cases, slice_get-get_or}
use Rattle.std.proofs.lemmas.List.{take_all}
use Rattle.enf_data.proofs.EventEquality.{derived_event_eq-Decides}
use Rattle.enf_data.proofs.event_sets.place_of.Goals as goal

pub returns-then-eq-clause-some : goal.returns-then-eq-clause-some
returns-then-eq-clause-some c =
    let same = (derived_event_eq-Decides c.index-events-place.result c.args.event.now).0 (sym c.eq.ensures ∙ c.if-eq.true) in
    slice_get-get_or c.args.events.now c.loop-place.place c.index-events-place.result c.loop-place-test.true
    ∙ ap Some (sym c.index-events-place.is ∙ same)

pub loop-place-preserved : goal.loop-place-preserved
loop-place-preserved c = λ there.
    let events = c.args.events.now in
    let event = c.args.event.now in
    let place = c.loop-place.place in
    let other = c.index-events-place.result in
    ⊎_elim c.loop-place.invariant
    (λ same. true≢false (sym ((derived_event_eq-Decides other event).1 (c.index-events-place.is ∙ same)) ∙ (sym c.eq.ensures ∙ c.if-eq.false)))
    (Contains-push_cases (take place events) (get_or events place other) event (subst (λ l. Contains l event) (take_more events place other c.loop-place-test.true) there))

pub returns-clause-none : goal.returns-clause-none
returns-clause-none c = λ there.
    c.loop-place.invariant (subst (λ l. Contains l c.args.event.now) (sym (take_all c.loop-place.place c.args.events.now (omega (arith, c.loop-place-test.false)))) there)
