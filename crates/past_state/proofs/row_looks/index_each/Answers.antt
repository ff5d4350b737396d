use Rattle.past_state.proofs.Vocabulary.{◌∙◌, refl}
use Rattle.past_state.proofs.row_looks.index_each.Goals as goal

pub loop-look-init : goal.loop-look-init
loop-look-init c = (tt, tt, refl)

pub loop-look-preserved : goal.loop-look-preserved
loop-look-preserved c = (tt, tt, c.index_one.ensures ∙ c.loop-look.invariant.2)

pub returns : goal.returns
returns c = c.loop-look.invariant.2

pub returns-in_err-index_one : goal.returns-in_err-index_one
returns-in_err-index_one c = c.index_one.ensures ∙ c.loop-look.invariant.2
