use Rattle.std.proofs.Common.{◌≡◌, ◌+◌, ◌*◌, map}
use Rattle.count_guard.proofs.Vocabulary.{bound_count, different_copies, tree_of}
use Rattle.count_guard.proofs.counting.Counter.different.Given as goal

abbrev pub invariant-loop-copy : goal.invariant-loop-copy
invariant-loop-copy l = record {
  made : map tree_of l.parts.items ≡ different_copies l.self.at l.first l.fn.next l.self.counted.now (tree_of l.self.body.now) l.copy;
  used : l.next ≡ l.fn.next + l.copy * bound_count (tree_of l.self.body.now);
}
