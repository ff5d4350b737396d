use Rattle.past_state.proofs.BoundsLemmas.{kept_are_within}
use Rattle.past_state.proofs.laws.kept_can_be_restored.Goals as goal

pub returns : goal.returns
returns c = record { within = kept_are_within c.last_time_of_trace.ensures.none_later }
