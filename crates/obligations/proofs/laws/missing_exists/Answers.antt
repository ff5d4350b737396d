use Rattle.obligations.proofs.ExistenceLemmas.{plan_begins, plan_misses}
use Rattle.obligations.proofs.laws.missing_exists.Goals as goal

pub returns-clause-missing : goal.returns-clause-missing
returns-clause-missing c = plan_misses c.safe_has_rows.ensures.decided c.safe_has_rows.ensures.rows

pub returns-clause-begun : goal.returns-clause-begun
returns-clause-begun c = plan_begins c.safe_has_rows.ensures.decided c.safe_has_rows.ensures.rows
