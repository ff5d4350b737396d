use Rattle.past_state.proofs.GrowthLemmas.{prev_grows}
use Rattle.past_state.proofs.laws.prev_grows.Goals as goal

pub returns : goal.returns
returns c = prev_grows c.dependence.ensures.steps c.prev.ensures.goes_on
