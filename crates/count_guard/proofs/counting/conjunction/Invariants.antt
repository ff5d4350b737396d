use Rattle.std.proofs.Common.{◌≡◌, ◌++◌, ◌∷◌, [], map, vec_len}
use Rattle.count_guard.proofs.Vocabulary.{all_of, tree_of}
use Rattle.count_guard.proofs.counting.conjunction.Given as goal

abbrev pub invariant-loop-part : goal.invariant-loop-part
invariant-loop-part l = all_of l.at (map tree_of l.fn.parts.items) ≡ all_of l.at (map tree_of l.parts.items ++ tree_of l.whole ∷ [])

abbrev pub decreases-loop-part : goal.decreases-loop-part
decreases-loop-part l = vec_len l.parts
