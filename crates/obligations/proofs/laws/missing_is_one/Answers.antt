use Rattle.obligations.proofs.UniquenessLemmas.{missing_is_one}
use Rattle.obligations.proofs.RowsLemmas.{rows_are_one}
use Rattle.obligations.proofs.laws.missing_is_one.Goals as goal

pub returns-clause-rows : goal.returns-clause-rows
returns-clause-rows c = rows_are_one

pub returns-clause-missing : goal.returns-clause-missing
returns-clause-missing c = missing_is_one rows_are_one
