use Rattle.slices.proofs.HindranceLaws.{nothing_is_in_the_way}
use Rattle.slices.proofs.laws.hindrances.Goals as goal

pub returns : goal.returns
returns c = nothing_is_in_the_way
