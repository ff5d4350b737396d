use Rattle.enf_data.proofs.Vocabulary.{sym, subst, ◌∙◌, IfOk-at_ok, HasNoRepeats}
use Rattle.enf_data.proofs.TableKeys.{after_insert, ok_through}
use Rattle.enf_data.proofs.event_sets.copy_table.Goals as goal

pub loop-event-preserved : goal.loop-event-preserved
loop-event-preserved c =
    let events = c.as_slice-event-items.result.now in
    let inserted = IfOk-at_ok _ c.in_ok-map_err.was (ok_through _ _ c.insert_in_table.result c.map_err.result c.map_err.ensures.cases c.insert_in_table.ensures.inserted) in
    after_insert events _ _ c.loop-event.event-index c.event-item.result _ _ (subst HasNoRepeats (sym c.as_slice-event-items.ensures.keys) c.requires)
    c.loop-event-test.true c.loop-event.invariant (c.in_ok-duplicate.ensures ∙ c.event-item.is) inserted
