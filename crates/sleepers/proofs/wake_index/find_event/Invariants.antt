use Rattle.sleepers.proofs.Vocabulary.{ℕ, Contains, take, shape_of, IsContainedIn, MatchesPattern, Pattern}
use Rattle.sleepers.specs.machine.PatternKeys.{pattern_key}
use Rattle.sleepers.proofs.wake_index.find_event.Given as goal

abbrev pub invariant-loop-shape : goal.invariant-loop-shape
invariant-loop-shape l = record {
  has : (group : ℕ) (pattern : Pattern) → Contains (take l.shape-index l.shapes) (shape_of pattern)
      → Contains l.by_pattern (pattern_key l.seed pattern.name pattern.args, group) → MatchesPattern pattern l.event → Contains l.found.items group;
  kept : IsContainedIn l.fn.found.items l.found.items;
}
