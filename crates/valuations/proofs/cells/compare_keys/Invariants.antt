use Rattle.valuations.proofs.Vocabulary.{◌≡◌, length, drop, row_key, key_cmp}
use Rattle.valuations.proofs.cells.compare_keys.Given as goal

abbrev pub invariant-loop-at : goal.invariant-loop-at
invariant-loop-at l = key_cmp (row_key l.a l.left) (row_key l.b l.right) ≡ key_cmp (row_key l.a (drop (length l.yielded) l.left)) (row_key l.b (drop (length l.yielded) l.right))
