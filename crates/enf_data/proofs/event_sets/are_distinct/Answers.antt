use Rattle.enf_data.proofs.Vocabulary.{Contains, get_or, subst, sym, take, true≢false, ◌∙◌, take_more, HasNoRepeats}
use Rattle.enf_data.proofs.Lists.{HasNoRepeats-push}
use Rattle.enf_data.proofs.TableKeys.{not_before}
use Rattle.enf_data.proofs.event_sets.are_distinct.Goals as goal

pub returns-then-is_among : goal.returns-then-is_among
returns-then-is_among c =
    let events = c.args.events.now in
    let place = c.loop-place.place in
    let event = c.index-events-place.result in (
      λ no. absurd (true≢false (sym no)),
      λ distinct. absurd (not_before events place event distinct c.loop-place-test.true
          (subst (Contains (take place events)) c.index-events-place.is (c.is_among.ensures.0 c.if-is_among.true))),
    )

pub loop-place-preserved : goal.loop-place-preserved
loop-place-preserved c =
    let events = c.args.events.now in
    let place = c.loop-place.place in
    let event = c.index-events-place.result in
    subst HasNoRepeats (sym (take_more events place event c.loop-place-test.true))
    (HasNoRepeats-push (take place events) (get_or events place event) c.loop-place.invariant
    (λ there. true≢false (sym (c.is_among.ensures.1 (subst (Contains (take place events)) (sym c.index-events-place.is) there)) ∙ c.if-is_among.false)))
