use Rattle.obligations.proofs.LawLemmas.{nothing_missed_is_enough, nothing_missed_is_enough_pending}
use Rattle.obligations.proofs.laws.nothing_missed_is_enough.Goals as goal

pub returns-clause-begun : goal.returns-clause-begun
returns-clause-begun c = nothing_missed_is_enough c.dependence.ensures.steps

pub returns-clause-pending : goal.returns-clause-pending
returns-clause-pending c = nothing_missed_is_enough_pending c.dependence.ensures.steps
