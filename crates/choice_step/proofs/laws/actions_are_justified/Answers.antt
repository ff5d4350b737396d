use Rattle.choice_step.proofs.JustificationLemmas.{decided_are_justified, least_deadline_is_needed}
use Rattle.choice_step.proofs.laws.actions_are_justified.Goals as goal

pub returns-clause-actions : goal.returns-clause-actions
returns-clause-actions c =
    decided_are_justified c.trace_grows.ensures.trace c.something_missed_is_lost.ensures c.pending_is_owed.ensures.lost c.lost_stays_lost.ensures
    c.pending_is_owed.ensures.owed c.owed_stays_owed.ensures.owed c.pending_is_owed.ensures.earlier c.missed_is_served.ensures.begun
    c.missed_is_served.ensures.pending c.well_formed_can_be_asked.ensures.stand c.well_formed_can_be_asked.ensures.founded
    c.pending_can_be_asked.ensures.pending c.pending_is_one.ensures.pending

pub returns-clause-steps : goal.returns-clause-steps
returns-clause-steps c =
    least_deadline_is_needed c.pending_is_owed.ensures.needed c.well_formed_can_be_asked.ensures.stand
