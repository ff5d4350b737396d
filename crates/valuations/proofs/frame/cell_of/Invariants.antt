use Rattle.valuations.proofs.Vocabulary.{◌≡◌, length, drop, row_cell}
use Rattle.valuations.proofs.frame.cell_of.Given as goal

abbrev pub invariant-loop-column : goal.invariant-loop-column
invariant-loop-column l = row_cell l.columns l.row l.variable ≡ row_cell (drop (length l.yielded) l.columns) (drop (length l.yielded) l.row) l.variable
