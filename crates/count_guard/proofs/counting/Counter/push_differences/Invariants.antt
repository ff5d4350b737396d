use Rattle.std.proofs.Common.{◌≡◌, ◌++◌, map}
use Rattle.count_guard.proofs.Vocabulary.{differs_from, tree_of}
use Rattle.count_guard.proofs.counting.Counter.push_differences.Given as goal

abbrev pub invariant-loop-earlier : goal.invariant-loop-earlier
invariant-loop-earlier l = map tree_of l.parts.items ≡ map tree_of l.fn.parts.items ++ differs_from l.self.at l.first l.self.counted.now l.copy l.earlier
