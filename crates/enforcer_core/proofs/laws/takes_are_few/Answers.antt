use Rattle.enforcer_core.proofs.FewStepLemmas.{takes_are_few}
use Rattle.enforcer_core.proofs.laws.takes_are_few.Goals as goal

pub returns : goal.returns
returns c = takes_are_few
