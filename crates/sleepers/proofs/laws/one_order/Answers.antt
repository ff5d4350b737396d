use Rattle.sleepers.proofs.OrderLemmas.{one_order}
use Rattle.sleepers.proofs.laws.one_order.Goals as goal

pub returns : goal.returns
returns c = one_order
