use Rattle.sleepers.proofs.Vocabulary.{ℕ, [], ◌∷◌, ◌⊎◌, Contains, take, IsContainedIn, StandsAsleep, StandsAwake}
use Rattle.sleepers.proofs.awake_groups.push_awake_of.Given as goal

abbrev pub invariant-loop-number : goal.invariant-loop-number
invariant-loop-number g l = record {
  kept : IsContainedIn l.fn.numbers.items l.numbers.items;
  awake : (n : ℕ) → Contains l.numbers.items n → Contains l.fn.numbers.items n ⊎ StandsAwake (l.event ∷ []) l.time l.groups n;
  looked : (n : ℕ) → Contains (take l.number-index l.found) n → Contains l.numbers.items n ⊎ StandsAsleep (l.event ∷ []) l.time l.groups n;
}
