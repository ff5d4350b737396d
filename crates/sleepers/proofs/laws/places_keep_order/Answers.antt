use Rattle.sleepers.proofs.OrderLemmas.{steps_keep_order}
use Rattle.sleepers.proofs.laws.places_keep_order.Goals as goal

pub returns : goal.returns
returns c = steps_keep_order
