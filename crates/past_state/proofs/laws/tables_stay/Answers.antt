use Rattle.past_state.proofs.PastLemmas.{tables_stay}
use Rattle.past_state.proofs.laws.tables_stay.Goals as goal

pub returns : goal.returns
returns c = tables_stay
