use Rattle.valuations.proofs.Vocabulary.{◌≡◌, length, drop, filled_from_row}
use Rattle.valuations.proofs.filling.fill.Given as goal

abbrev pub invariant-loop-column : goal.invariant-loop-column
invariant-loop-column l =
    filled_from_row l.fn.filling l.columns l.row ≡ filled_from_row l.filling (drop (length l.yielded) l.columns) (drop (length l.yielded) l.row)
