use Rattle.obligations.proofs.TraceLemmas.{nothing_is_pending, pending_is_enough, step_is_enough}
use Rattle.obligations.proofs.laws.pending_is_enough.Goals as goal

pub returns-clause-enough : goal.returns-clause-enough
returns-clause-enough c = pending_is_enough c.dependence.ensures.steps c.nodes_have_scopes.ensures.found c.last_time_of_trace.ensures.at_the_end

pub returns-clause-step : goal.returns-clause-step
returns-clause-step c = step_is_enough c.dependence.ensures.steps c.nodes_have_scopes.ensures.found c.last_time_of_trace.ensures.at_the_end

pub returns-clause-nothing : goal.returns-clause-nothing
returns-clause-nothing c = nothing_is_pending
