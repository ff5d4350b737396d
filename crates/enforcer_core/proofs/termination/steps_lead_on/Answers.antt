use Rattle.enforcer_core.proofs.LeadLemmas.{led_deadlines_fall, led_stays_in_reach}
use Rattle.enforcer_core.proofs.termination.steps_lead_on.Goals as goal

pub returns-clause-fall : goal.returns-clause-fall
returns-clause-fall c =
    led_deadlines_fall c.steps_reach.ensures.inside c.steps_reach.ensures.named c.nodes_stand_in_plans.ensures.nodes c.ranks_by_recursion.ensures.rise c.actions_are_lawful.ensures.causes_alone

pub returns-clause-stays : goal.returns-clause-stays
returns-clause-stays c =
    led_stays_in_reach c.steps_reach.ensures.inside c.steps_reach.ensures.named c.nodes_stand_in_plans.ensures.nodes c.ranks_by_recursion.ensures.rise
