use Rattle.count_guard.proofs.CountMeaning.{counts_hold}
use Rattle.count_guard.proofs.laws.counts.Goals as goal

pub returns : goal.returns
returns c = counts_hold
