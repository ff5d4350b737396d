use Rattle.wake_patterns.proofs.PlanLemmas.{unmet_fails, unmissed_holds}
use Rattle.wake_patterns.proofs.laws.plans_wait.Goals as goal

pub returns-clause-unmet_fail : goal.returns-clause-unmet_fail
returns-clause-unmet_fail c = λ trace i v plan patterns there fresh is none. unmet_fails v trace i plan patterns there fresh is none

pub returns-clause-unmissed_hold : goal.returns-clause-unmissed_hold
returns-clause-unmissed_hold c = λ trace i v plan patterns fresh is none. unmissed_holds v trace i plan patterns fresh is none
