use Rattle.obligations.proofs.LawLemmas.{something_missed_is_lost}
use Rattle.obligations.proofs.laws.something_missed_is_lost.Goals as goal

pub returns : goal.returns
returns c = something_missed_is_lost c.dependence.ensures.steps
