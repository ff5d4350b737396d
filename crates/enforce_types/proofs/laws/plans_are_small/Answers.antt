use Rattle.enforce_types.proofs.Vocabulary.{Up}
use Rattle.enforce_types.proofs.PlanSizes.{plan_fits, guards_are_nodes}
use Rattle.enforce_types.proofs.laws.plans_are_small.Goals as goal

pub returns : goal.returns
returns c = λ causable suppressible f scope plan made. (plan_fits causable suppressible Up f scope plan made, guards_are_nodes plan)
