use Rattle.enforcer_core.proofs.SnapshotLemmas.{kept_taken_up}
use Rattle.enforcer_core.proofs.laws.kept_can_be_taken_up.Goals as goal

pub returns : goal.returns
returns c = kept_taken_up c.pending_can_be.ensures c.kept_can_be_restored.ensures.within c.pending_is_one.ensures.pending c.serving_ends.ensures.near
