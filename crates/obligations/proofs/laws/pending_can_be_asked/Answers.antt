use Rattle.obligations.proofs.PendingListLemmas.{begun_can_be_asked, goes_can_be_asked, pend_can_be_asked}
use Rattle.obligations.proofs.laws.pending_can_be_asked.Goals as goal

pub returns-clause-begun : goal.returns-clause-begun
returns-clause-begun c = begun_can_be_asked

pub returns-clause-goes : goal.returns-clause-goes
returns-clause-goes c = goes_can_be_asked c.nodes_have_scopes.ensures.found

pub returns-clause-pending : goal.returns-clause-pending
returns-clause-pending c = pend_can_be_asked c.nodes_have_scopes.ensures.found
