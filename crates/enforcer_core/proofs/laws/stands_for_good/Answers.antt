use Rattle.enforcer_core.proofs.CourseLemmas.{stands_good}
use Rattle.enforcer_core.proofs.laws.stands_for_good.Goals as goal

pub returns : goal.returns
returns c = stands_good c.drain_laws.ensures
