use Rattle.obligations.proofs.LawLemmas.{something_missed_is_lost}
use Rattle.obligations.proofs.LossLemmas.{deadline_is_needed, missed_is_lost, pending_is_earlier, pending_is_owed}
use Rattle.obligations.proofs.laws.pending_is_owed.Goals as goal

pub returns-clause-owed : goal.returns-clause-owed
returns-clause-owed c plans trace clock pending i node stand is_trace clean pend there named =
    pending_is_owed (something_missed_is_lost c.dependence.ensures.steps) c.lost_stays_lost.ensures c.owed_stays_owed.ensures.owed c.owed_stays_owed.ensures.more
    c.nodes_have_scopes.ensures.found c.last_time_of_trace.ensures.at_the_end plans stand trace clock pending i node is_trace clean pend there named

pub returns-clause-earlier : goal.returns-clause-earlier
returns-clause-earlier c plans trace pending i node stand is_trace pend there named =
    pending_is_earlier (something_missed_is_lost c.dependence.ensures.steps) c.lost_stays_lost.ensures c.owed_stays_owed.ensures.owed c.owed_stays_owed.ensures.more
    c.nodes_have_scopes.ensures.found c.last_time_of_trace.ensures.at_the_end plans stand trace pending i node is_trace pend there named

pub returns-clause-needed : goal.returns-clause-needed
returns-clause-needed c plans trace pending i deadline stand is_trace clean pend there has =
    deadline_is_needed (something_missed_is_lost c.dependence.ensures.steps) c.lost_stays_lost.ensures c.owed_stays_owed.ensures.owed c.owed_stays_owed.ensures.more
    c.nodes_have_scopes.ensures.found c.last_time_of_trace.ensures.at_the_end plans stand trace pending i deadline is_trace clean pend there has

pub returns-clause-lost : goal.returns-clause-lost
returns-clause-lost c plans trace step pending i node forced first rest stand is_trace pend there named due misses =
    missed_is_lost (something_missed_is_lost c.dependence.ensures.steps) c.lost_stays_lost.ensures c.owed_stays_owed.ensures.owed c.owed_stays_owed.ensures.more
    c.nodes_have_scopes.ensures.found c.last_time_of_trace.ensures.at_the_end plans stand trace step pending i node forced first rest is_trace pend there named due misses
