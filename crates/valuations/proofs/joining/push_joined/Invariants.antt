use Rattle.valuations.proofs.Vocabulary.{◌≡◌, ◌++◌, map, take, row_part, shown_rows}
use Rattle.valuations.proofs.joining.push_joined.Given as goal

abbrev pub invariant-loop-other : goal.invariant-loop-other
invariant-loop-other l = l.out.items ≡ l.initial.out.items ++ map (λ other. l.row ++ row_part other l.rest) (shown_rows (take l.other-index l.partners))
