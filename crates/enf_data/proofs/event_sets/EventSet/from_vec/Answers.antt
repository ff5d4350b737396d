use Rattle.enf_data.proofs.Vocabulary.{[], ◌∷◌, ◌++◌, ap, append_assoc, subst, sym, ◌∙◌, IfOk-at_ok, HasNoRepeats}
use Rattle.enf_data.proofs.TableKeys.{distinct_kept, firsts_more, ok_through}
use Rattle.enf_data.proofs.event_sets.EventSet.from_vec.Goals as goal

pub returns-then-do_rise : goal.returns-then-do_rise
returns-then-do_rise c = distinct_kept [] c.args.events.items (subst HasNoRepeats c.as_slice.ensures.value (c.do_rise.ensures.distinct c.if-do_rise.true))

pub returns-then-are_distinct : goal.returns-then-are_distinct
returns-then-are_distinct c =
    distinct_kept [] c.args.events.items (subst HasNoRepeats c.as_slice-then-len-le-MOST_SEARCHED.ensures.value (c.are_distinct.ensures.0 c.if-are_distinct.true))

pub loop-event-preserved : goal.loop-event-preserved
loop-event-preserved c =
    let yielded = c.loop-event.yielded in
    let event = c.in-Some.event in
    let rest = c.next.new.self.rest.items in
    let inserted = IfOk-at_ok _ c.in_ok-map_err.was (ok_through _ _ c.insert_by.result c.map_err.result c.map_err.ensures.cases c.insert_by.ensures.inserted) in (
      tt,
      tt,
      c.loop-event.invariant.2 ∙ ap (λ l. yielded ++ l) c.in-Some.ensures.steps.0 ∙ sym (append_assoc yielded (event ∷ []) rest),
      firsts_more [] yielded c.loop-event.set c.insert_by.new.self event c.in_ok-map_err.field-0 c.loop-event.invariant.3 inserted,
    )
