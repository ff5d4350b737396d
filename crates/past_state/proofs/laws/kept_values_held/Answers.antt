use Rattle.past_state.proofs.KeptValueLemmas.{can_be_kept, held}
use Rattle.past_state.proofs.laws.kept_values_held.Goals as goal

pub returns : goal.returns
returns c = record { operators = can_be_kept; rows = held }
