use Rattle.obligations.proofs.TraceLemmas.{clean_grows, pend_grows}
use Rattle.obligations.proofs.laws.traces_grow.Goals as goal

pub returns-clause-pending : goal.returns-clause-pending
returns-clause-pending c = pend_grows

pub returns-clause-clean : goal.returns-clause-clean
returns-clause-clean c = clean_grows
