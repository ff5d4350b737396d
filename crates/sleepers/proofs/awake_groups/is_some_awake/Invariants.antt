use Rattle.sleepers.proofs.Vocabulary.{ℕ, ◌<◌, StandsAsleep}
use Rattle.sleepers.proofs.awake_groups.is_some_awake.Given as goal

abbrev pub invariant-loop-number : goal.invariant-loop-number
invariant-loop-number g l = (n : ℕ) → n < l.number → StandsAsleep l.events l.time l.groups n
