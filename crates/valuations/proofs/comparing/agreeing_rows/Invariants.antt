use Rattle.valuations.proofs.Vocabulary.{◌≡◌, take, map, filter, option_copied, is_row_as_bound}
use Rattle.valuations.proofs.comparing.agreeing_rows.Given as goal

abbrev pub invariant-loop-row : goal.invariant-loop-row
invariant-loop-row l = l.out.items ≡ filter (λ row. is_row_as_bound (map option_copied l.bounds) row) (take l.row-index l.rows)
