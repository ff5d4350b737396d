use Rattle.enforcer_core.proofs.CourseLemmas.{planned_satisfied}
use Rattle.enforcer_core.proofs.laws.planned.Goals as goal

pub returns : goal.returns
returns c = planned_satisfied c.policy_plans_keep_meaning.ensures.meaning
