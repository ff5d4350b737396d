use Rattle.windows.proofs.LeastLemmas.{least_is_chosen}
use Rattle.windows.proofs.laws.rows_are_chosen.Goals as goal

pub returns : goal.returns
returns c = least_is_chosen
