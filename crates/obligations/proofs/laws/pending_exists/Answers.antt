use Rattle.obligations.proofs.PendingListLemmas.{after_exists, goes_exists, missing_of_exists, pend_exists}
use Rattle.obligations.proofs.laws.pending_exists.Goals as goal

pub returns-clause-missing : goal.returns-clause-missing
returns-clause-missing c = missing_of_exists c.missing_exists.ensures.missing c.missing_exists.ensures.begun

pub returns-clause-after : goal.returns-clause-after
returns-clause-after c = after_exists c.missing_exists.ensures.missing c.missing_exists.ensures.begun

pub returns-clause-goes : goal.returns-clause-goes
returns-clause-goes c = goes_exists c.missing_exists.ensures.missing c.missing_exists.ensures.begun

pub returns-clause-pending : goal.returns-clause-pending
returns-clause-pending c =
    pend_exists (goes_exists c.missing_exists.ensures.missing c.missing_exists.ensures.begun) c.pending_can_be_asked.ensures.goes
