use Rattle.enf_run.proofs.TwoRunLemmas.{owed_is_one, owed_joins}
use Rattle.enf_run.proofs.two_run_laws.owed_joins.Goals as goal

pub returns-clause-joins : goal.returns-clause-joins
returns-clause-joins c = owed_joins c.joins.ensures

pub returns-clause-one : goal.returns-clause-one
returns-clause-one c = owed_is_one
