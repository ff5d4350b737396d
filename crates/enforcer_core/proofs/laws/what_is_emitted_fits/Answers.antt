use Rattle.enforcer_core.proofs.SignatureLemmas.{follows_fits}
use Rattle.enforcer_core.proofs.laws.what_is_emitted_fits.Goals as goal

pub returns : goal.returns
returns c =
    follows_fits c.what_is_emitted_fits.ensures.records c.read_is_sorted.ensures c.plans_keep_sorts.ensures.policy
    c.read_is_well_formed.ensures c.plans_are_well_formed.ensures.kept
