use Rattle.enforce_types.proofs.PlanLimits.{plans_within}
use Rattle.enforce_types.proofs.laws.plans_are_within_limits.Goals as goal

pub returns : goal.returns
returns c = plans_within
