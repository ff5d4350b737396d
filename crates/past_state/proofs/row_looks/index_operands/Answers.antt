use Rattle.past_state.proofs.Vocabulary.{◌∙◌}
use Rattle.past_state.proofs.row_looks.index_operands.Goals as goal

pub loop-place-preserved : goal.loop-place-preserved
loop-place-preserved c = c.index_denied.ensures ∙ c.index_each.ensures ∙ c.loop-place.invariant
