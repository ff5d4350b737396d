use Rattle.sleepers.proofs.Vocabulary.{ℕ, Contains, shown, IsContainedIn}
use Rattle.sleepers.proofs.pairs.Pairs.find.Given as goal

abbrev pub invariant-loop-pair : goal.invariant-loop-pair
invariant-loop-pair l = record {
  has : (pair : ℕ × ℕ) → Contains (shown l.yielded) pair → Contains l.found.items pair.1;
  kept : IsContainedIn l.fn.found.items l.found.items;
}
