use Rattle.valuations.proofs.Vocabulary.{take, AreJoinedRows, shown_rows}
use Rattle.valuations.proofs.joining.joined_rows.Given as goal

abbrev pub invariant-loop-row : goal.invariant-loop-row
invariant-loop-row l = AreJoinedRows l.left l.right l.rest (take l.row-index l.rows) (shown_rows l.order) l.joined.items
