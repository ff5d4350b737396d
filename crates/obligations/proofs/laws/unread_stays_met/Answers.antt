use Rattle.obligations.proofs.UnreadNameLemmas.{unread_stays_met}
use Rattle.obligations.proofs.UnreadInstanceLemmas.{unread_instance_stays_met}
use Rattle.obligations.proofs.UnreadRestLemmas.{unread_leaves_rest}
use Rattle.obligations.proofs.laws.unread_stays_met.Goals as goal

pub returns-clause-plans : goal.returns-clause-plans
returns-clause-plans c = unread_stays_met c.polarity.ensures c.missing_exists.ensures.missing

pub returns-clause-instances : goal.returns-clause-instances
returns-clause-instances c = unread_instance_stays_met c.polarity.ensures c.missing_exists.ensures.missing

pub returns-clause-rest : goal.returns-clause-rest
returns-clause-rest c = unread_leaves_rest c.dependence.ensures.names
