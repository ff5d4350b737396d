use Rattle.obligations.proofs.UniquenessLemmas.{after_is_one, begun_is_one, missing_of_is_one, pend_is_one}
use Rattle.obligations.proofs.RowsLemmas.{rows_are_one}
use Rattle.obligations.proofs.laws.pending_is_one.Goals as goal

pub returns-clause-begun : goal.returns-clause-begun
returns-clause-begun c = begun_is_one rows_are_one

pub returns-clause-missing : goal.returns-clause-missing
returns-clause-missing c = missing_of_is_one rows_are_one

pub returns-clause-after : goal.returns-clause-after
returns-clause-after c = after_is_one rows_are_one

pub returns-clause-pending : goal.returns-clause-pending
returns-clause-pending c = pend_is_one rows_are_one
