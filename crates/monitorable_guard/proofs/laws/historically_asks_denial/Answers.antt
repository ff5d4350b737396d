use Rattle.monitorable_guard.proofs.Vocabulary.{Contains}
use Rattle.monitorable_guard.proofs.SafetyLemmas.{historically_denial}
use Rattle.monitorable_guard.proofs.laws.historically_asks_denial.Goals as goal

pub returns : goal.returns
returns c = λ place interval g bound. historically_denial place interval g (Contains bound)
