use Rattle.choice_step.proofs.FittingEventLemmas.{decided_fit, drain_fits, followed_fit}
use Rattle.choice_step.proofs.laws.what_is_emitted_fits.Goals as goal

pub returns-clause-step : goal.returns-clause-step
returns-clause-step c = decided_fit c.pending_is_right.ensures.missed c.pending_is_right.ensures.missed_pending

pub returns-clause-records : goal.returns-clause-records
returns-clause-records c = followed_fit c.pending_is_right.ensures.missed c.pending_is_right.ensures.missed_pending

pub returns-clause-drain : goal.returns-clause-drain
returns-clause-drain c = drain_fits c.pending_is_right.ensures.missed c.pending_is_right.ensures.missed_pending
