use Rattle.plan_terms.proofs.OwedLemmas.{lost_stays_lost}
use Rattle.plan_terms.proofs.laws.lost_stays_lost.Goals as goal

pub returns : goal.returns
returns c = lost_stays_lost
