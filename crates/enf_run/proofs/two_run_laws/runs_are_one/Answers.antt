use Rattle.enf_run.proofs.TwoRunLemmas.{gives_joins, runs_are_one}
use Rattle.enf_run.proofs.two_run_laws.runs_are_one.Goals as goal

pub returns-clause-gives : goal.returns-clause-gives
returns-clause-gives c = gives_joins c.joins.ensures

pub returns-clause-runs : goal.returns-clause-runs
returns-clause-runs c = runs_are_one c.one_answer.ensures c.one_log.ensures c.joins.ensures
