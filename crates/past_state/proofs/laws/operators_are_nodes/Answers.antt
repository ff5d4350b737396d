use Rattle.past_state.proofs.CountLemmas.{no_more}
use Rattle.past_state.proofs.laws.operators_are_nodes.Goals as goal

pub returns : goal.returns
returns c = no_more
