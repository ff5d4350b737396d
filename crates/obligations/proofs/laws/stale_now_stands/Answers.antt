use Rattle.obligations.proofs.FreshGuardLemmas.{stale_now_stands}
use Rattle.obligations.proofs.laws.stale_now_stands.Goals as goal

pub returns : goal.returns
returns c = stale_now_stands c.dependence.ensures.names
