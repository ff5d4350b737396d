use Rattle.sleepers.proofs.Vocabulary.{take, AllByRecursion, IsNoted, KeepsAll}
use Rattle.sleepers.proofs.wake_index.Index.note_each.Given as goal

abbrev pub invariant-loop-pattern : goal.invariant-loop-pattern
invariant-loop-pattern l = record {
  each : AllByRecursion (IsNoted l.self l.group) (take l.pattern-index l.patterns);
  kept : KeepsAll l.fn.self l.self;
}
