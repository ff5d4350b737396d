use Rattle.obligations.proofs.ValueSourceLemmas.{instance_misses_its_own, plan_misses_its_own}
use Rattle.obligations.proofs.laws.missed_are_own.Goals as goal

pub returns-clause-plans : goal.returns-clause-plans
returns-clause-plans c = plan_misses_its_own c.safe_values_are_known.ensures

pub returns-clause-instances : goal.returns-clause-instances
returns-clause-instances c = instance_misses_its_own c.safe_values_are_known.ensures
