use Rattle.obligations.proofs.TriggeredNodeLemmas.{pend_came, pending_was_begun}
use Rattle.obligations.proofs.laws.pending_was_begun.Goals as goal

pub returns-clause-came : goal.returns-clause-came
returns-clause-came c = pend_came

pub returns-clause-begun : goal.returns-clause-begun
returns-clause-begun c = pending_was_begun c.nodes_have_scopes.ensures.found c.triggers_are_met.ensures
