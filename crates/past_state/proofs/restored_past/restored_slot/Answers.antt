use Rattle.past_state.proofs.Vocabulary.{◌∙◌, subst, sym}
use Rattle.past_state.specs.machine.RestoredMemories.{IsRestoredSlot}
use Rattle.past_state.proofs.restored_past.restored_slot.Goals as goal

pub returns : goal.returns
returns c = subst (IsRestoredSlot c.args.slot.now c.args.last c.args.pairs.items) (sym c.of.ensures) (record {
  interval_is = c.in_ok-restored.ensures.interval ∙ c.interval.ensures;
  columns_are = c.in_ok-restored.ensures.columns ∙ c.in_ok-columns.ensures ∙ c.columns.ensures;
  last_is = c.in_ok-restored.ensures.last;
  is_slot = c.in_ok-restored.ensures.slot;
  stores = c.in_ok-restored.ensures.exact;
})
