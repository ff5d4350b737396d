use Rattle.slices.proofs.PolicyTruth.{holds_by_keys, holds_for_other_keys, holds_where_left_out, truth_stays}
use Rattle.slices.proofs.laws.truth.Goals as goal

pub returns : goal.returns
returns c = record { by_keys = holds_by_keys; stays = truth_stays; left_out = holds_where_left_out; others = holds_for_other_keys }
