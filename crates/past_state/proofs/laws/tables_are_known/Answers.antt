use Rattle.past_state.proofs.KnownLemmas.{are_known}
use Rattle.past_state.proofs.laws.tables_are_known.Goals as goal

pub returns : goal.returns
returns c = are_known
