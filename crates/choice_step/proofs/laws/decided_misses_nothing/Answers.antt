use Rattle.choice_step.proofs.UniquenessLemmas.{decided_misses_nothing}
use Rattle.choice_step.proofs.laws.decided_misses_nothing.Goals as goal

pub returns : goal.returns
returns c = decided_misses_nothing
