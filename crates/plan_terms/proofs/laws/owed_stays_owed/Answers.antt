use Rattle.plan_terms.proofs.OwedLemmas.{leads_on, owed_leads_on, owed_stays_owed}
use Rattle.plan_terms.proofs.laws.owed_stays_owed.Goals as goal

pub returns-clause-leads : goal.returns-clause-leads
returns-clause-leads c = leads_on c.dependence.ensures.steps

pub returns-clause-owed : goal.returns-clause-owed
returns-clause-owed c = owed_stays_owed c.dependence.ensures.steps

pub returns-clause-more : goal.returns-clause-more
returns-clause-more c = owed_leads_on
