use Rattle.valuations.proofs.Vocabulary.{◌≡◌, map, length, drop, option_copied, is_row_as_bound}
use Rattle.valuations.proofs.comparing.is_as_bound.Given as goal

abbrev pub invariant-loop-bound : goal.invariant-loop-bound
invariant-loop-bound l = is_row_as_bound (map option_copied l.bounds) l.row ≡ is_row_as_bound (map option_copied (drop (length l.yielded) l.bounds)) (drop (length l.yielded) l.row)
