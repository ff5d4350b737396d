use Rattle.valuations.proofs.Vocabulary.{take, AreSingleRows, shown_rows}
use Rattle.valuations.proofs.joining.single_rows.Given as goal

abbrev pub invariant-loop-row : goal.invariant-loop-row
invariant-loop-row l = AreSingleRows l.left l.right (take l.row-index l.rows) (shown_rows l.order) l.single.items
