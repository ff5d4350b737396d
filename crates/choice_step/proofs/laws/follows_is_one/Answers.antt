use Rattle.choice_step.proofs.UniquenessLemmas.{decides_is_one, drain_is_one, follows_is_one}
use Rattle.choice_step.proofs.laws.follows_is_one.Goals as goal

pub returns-clause-step : goal.returns-clause-step
returns-clause-step c = decides_is_one c.missing_is_one.ensures.missing c.pending_is_one.ensures.missing

pub returns-clause-records : goal.returns-clause-records
returns-clause-records c =
    follows_is_one c.missing_is_one.ensures.missing c.pending_is_one.ensures.missing c.pending_is_one.ensures.pending

pub returns-clause-drain : goal.returns-clause-drain
returns-clause-drain c =
    drain_is_one c.missing_is_one.ensures.missing c.pending_is_one.ensures.missing c.pending_is_one.ensures.pending
