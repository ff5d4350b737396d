use Rattle.obligations.proofs.PendingBoundLemmas.{pend_can_be_pending}
use Rattle.obligations.proofs.laws.pending_can_be.Goals as goal

pub returns : goal.returns
returns c = pend_can_be_pending c.nodes_have_scopes.ensures.found c.nodes_have_scopes.ensures.nodes
