use Rattle.windows.proofs.Vocabulary.{◌≤◌, ◌+◌, count_pairs, count_times}
use Rattle.windows.proofs.compaction.count.Given as goal

abbrev pub invariant-loop-times : goal.invariant-loop-times
invariant-loop-times l = l.pairs + count_times l.times-iterator ≤ count_pairs l.entries.entries
