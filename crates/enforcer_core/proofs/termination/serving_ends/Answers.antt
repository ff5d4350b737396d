use Rattle.enforcer_core.proofs.CountLemmas.{served_counts_fall}
use Rattle.enforcer_core.proofs.ReachLemmas.{deadlines_are_within_reach, goes_over, highs_are_near, reach_is_within_horizon, served_deadlines_fall, windows_are_in_order}
use Rattle.enforcer_core.proofs.termination.serving_ends.Goals as goal

pub returns-clause-fall : goal.returns-clause-fall
returns-clause-fall c =
    served_deadlines_fall c.serving_ends_anywhere.ensures.fall
    (windows_are_in_order c.nodes_stand_in_plans.ensures.nodes c.steps_reach.ensures.inside c.steps_reach.ensures.named c.steps_reach.ensures.begun c.missing_is_one.ensures.missing
    c.well_formed_can_be_asked.ensures.stand c.pending_was_begun.ensures.begun)
    c.pending_was_begun.ensures.came c.pending_is_one.ensures.pending

pub returns-clause-counts : goal.returns-clause-counts
returns-clause-counts c =
    served_counts_fall c.serving_ends_anywhere.ensures.counts
    (goes_over c.nodes_stand_in_plans.ensures.nodes c.steps_reach.ensures.inside c.steps_reach.ensures.named c.steps_reach.ensures.begun c.missing_is_one.ensures.missing)
    (windows_are_in_order c.nodes_stand_in_plans.ensures.nodes c.steps_reach.ensures.inside c.steps_reach.ensures.named c.steps_reach.ensures.begun c.missing_is_one.ensures.missing
    c.well_formed_can_be_asked.ensures.stand c.pending_was_begun.ensures.begun)
    c.pending_was_begun.ensures.came c.pending_is_one.ensures.pending

pub returns-clause-horizon : goal.returns-clause-horizon
returns-clause-horizon c =
    reach_is_within_horizon c.nodes_stand_in_plans.ensures.nodes c.steps_reach.ensures.inside c.steps_reach.ensures.named c.steps_reach.ensures.begun c.missing_is_one.ensures.missing
    c.well_formed_can_be_asked.ensures.stand c.pending_was_begun.ensures.begun c.last_time_of_trace.ensures.at_the_end

pub returns-clause-reach : goal.returns-clause-reach
returns-clause-reach c = deadlines_are_within_reach

pub returns-clause-over : goal.returns-clause-over
returns-clause-over c =
    goes_over c.nodes_stand_in_plans.ensures.nodes c.steps_reach.ensures.inside c.steps_reach.ensures.named c.steps_reach.ensures.begun c.missing_is_one.ensures.missing

pub returns-clause-windows : goal.returns-clause-windows
returns-clause-windows c =
    windows_are_in_order c.nodes_stand_in_plans.ensures.nodes c.steps_reach.ensures.inside c.steps_reach.ensures.named c.steps_reach.ensures.begun c.missing_is_one.ensures.missing
    c.well_formed_can_be_asked.ensures.stand c.pending_was_begun.ensures.begun

pub returns-clause-near : goal.returns-clause-near
returns-clause-near c = highs_are_near c.well_formed_can_be_asked.ensures.stand c.pending_was_begun.ensures.begun c.last_time_of_trace.ensures.at_the_end
