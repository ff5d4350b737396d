use Rattle.valuations.proofs.Vocabulary.{◌≡◌, take, shown_rows}
use Rattle.valuations.proofs.joining.in_order.Given as goal

abbrev pub invariant-loop-row : goal.invariant-loop-row
invariant-loop-row l = shown_rows l.order.items ≡ take l.row-index l.rows
