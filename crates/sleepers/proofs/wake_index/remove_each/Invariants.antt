use Rattle.sleepers.proofs.Vocabulary.{IsWithinBut}
use Rattle.sleepers.proofs.wake_index.remove_each.Given as goal

abbrev pub invariant-loop-pattern : goal.invariant-loop-pattern
invariant-loop-pattern l = IsWithinBut l.group l.fn.by_pattern l.by_pattern
