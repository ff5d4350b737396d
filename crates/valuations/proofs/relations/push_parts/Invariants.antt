use Rattle.valuations.proofs.Vocabulary.{◌≡◌, ◌++◌, map, take, row_part}
use Rattle.valuations.proofs.relations.push_parts.Given as goal

abbrev pub invariant-loop-row : goal.invariant-loop-row
invariant-loop-row l = l.out.items ≡ l.initial.out.items ++ map (λ row. row_part row l.places) (take l.row-index l.rows)
