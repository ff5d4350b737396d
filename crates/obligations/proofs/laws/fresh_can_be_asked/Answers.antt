use Rattle.obligations.proofs.FreshGuardLemmas.{fresh_instance, fresh_plan}
use Rattle.obligations.proofs.laws.fresh_can_be_asked.Goals as goal

pub returns-clause-plans : goal.returns-clause-plans
returns-clause-plans c = fresh_plan

pub returns-clause-instances : goal.returns-clause-instances
returns-clause-instances c = fresh_instance
