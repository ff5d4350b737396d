use Rattle.enforcer_core.proofs.CountLemmas.{any_counts_fall}
use Rattle.enforcer_core.proofs.ReachLemmas.{any_deadlines_fall}
use Rattle.enforcer_core.proofs.termination.serving_ends_anywhere.Goals as goal

pub returns-clause-fall : goal.returns-clause-fall
returns-clause-fall c =
    any_deadlines_fall c.nodes_stand_in_plans.ensures.nodes c.steps_reach.ensures.inside c.steps_reach.ensures.named c.steps_reach.ensures.begun c.missing_is_one.ensures.missing
    c.ranks_by_recursion.ensures.rise c.steps_reach.ensures.missed c.decided_misses_nothing.ensures

pub returns-clause-counts : goal.returns-clause-counts
returns-clause-counts c =
    any_counts_fall c.nodes_stand_in_plans.ensures.nodes c.steps_reach.ensures.inside c.steps_reach.ensures.named c.steps_reach.ensures.begun c.missing_is_one.ensures.missing
    c.ranks_by_recursion.ensures.rise c.steps_reach.ensures.missed c.decided_misses_nothing.ensures
