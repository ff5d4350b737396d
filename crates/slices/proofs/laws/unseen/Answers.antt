use Rattle.slices.proofs.Unseen.{missing_is_unseen, order_is_unseen, split_is_unseen}
use Rattle.slices.proofs.laws.unseen.Goals as goal

pub returns : goal.returns
returns c = record { missing = missing_is_unseen; order = order_is_unseen; split = split_is_unseen }
