use Rattle.std.proofs.Common.{◌≡◌, map}
use Rattle.count_guard.proofs.Vocabulary.{equal_pairs, numbered_variables, tree_of}
use Rattle.count_guard.proofs.counting.Counter.differ.Given as goal

abbrev pub invariant-loop-number : goal.invariant-loop-number
invariant-loop-number l = map tree_of l.pairs.items ≡ equal_pairs l.self.at (numbered_variables l.one l.number) (numbered_variables l.other l.number)
