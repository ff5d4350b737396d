use Rattle.obligations.proofs.UnmetGoalLemmas.{pending_is_unmet}
use Rattle.obligations.proofs.laws.pending_is_unmet.Goals as goal

pub returns : goal.returns
returns c = pending_is_unmet c.nodes_have_scopes.ensures.found c.triggers_are_met.ensures c.last_time_of_trace.ensures.at_the_end
