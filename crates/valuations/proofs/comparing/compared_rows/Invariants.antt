use Rattle.valuations.proofs.Vocabulary.{◌≡◌, take, filter, compares_values, operand_value}
use Rattle.valuations.proofs.comparing.compared_rows.Given as goal

abbrev pub invariant-loop-row : goal.invariant-loop-row
invariant-loop-row l = l.out.items ≡ filter (λ row. compares_values l.kind (operand_value l.left row) (operand_value l.right row)) (take l.row-index l.rows)
