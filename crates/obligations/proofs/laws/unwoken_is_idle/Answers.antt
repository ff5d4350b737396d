use Rattle.obligations.proofs.WakingLemmas.{unwoken_begins_nothing, unwoken_misses_nothing}
use Rattle.obligations.proofs.laws.unwoken_is_idle.Goals as goal

pub returns-clause-missed : goal.returns-clause-missed
returns-clause-missed c = unwoken_misses_nothing c.triggers_are_met.ensures c.missing_exists.ensures.missing

pub returns-clause-begun : goal.returns-clause-begun
returns-clause-begun c = unwoken_begins_nothing c.triggers_are_met.ensures c.missing_exists.ensures.begun
