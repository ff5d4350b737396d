use Rattle.obligations.proofs.WellFormedLemmas.{now_stands}
use Rattle.obligations.proofs.laws.now_stands.Goals as goal

pub returns : goal.returns
returns c = now_stands
