use Rattle.sleepers.proofs.Vocabulary.{ℕ, Contains, take, Event, IsNoted, IsContainedIn, MatchesPattern, Pattern}
use Rattle.sleepers.proofs.wake_index.Index.find_each.Given as goal

abbrev pub invariant-loop-event : goal.invariant-loop-event
invariant-loop-event l = record {
  has : (group : ℕ) (pattern : Pattern) → IsNoted l.self group pattern → (event : Event)
      → Contains (take l.event-index l.events) event → MatchesPattern pattern event → Contains l.found.items group;
  kept : IsContainedIn l.fn.found.items l.found.items;
}
