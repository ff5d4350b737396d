use Rattle.obligations.proofs.RightLiteralLemmas.{missed_of_right, missed_right}
use Rattle.obligations.proofs.RightValueLemmas.{pending_right}
use Rattle.obligations.proofs.laws.pending_is_right.Goals as goal

pub returns-clause-pending : goal.returns-clause-pending
returns-clause-pending c = pending_right c.nodes_have_scopes.ensures.found c.nodes_have_scopes.ensures.nodes

pub returns-clause-missed : goal.returns-clause-missed
returns-clause-missed c = missed_right

pub returns-clause-missed_pending : goal.returns-clause-missed_pending
returns-clause-missed_pending c = missed_of_right c.nodes_have_scopes.ensures.found c.nodes_have_scopes.ensures.nodes
