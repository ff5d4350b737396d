use Rattle.valuations.proofs.Vocabulary.{◌≡◌, ◌++◌, take, row_part}
use Rattle.valuations.proofs.cells.append_part.Given as goal

abbrev pub invariant-loop-place : goal.invariant-loop-place
invariant-loop-place l = l.out ≡ l.initial.out ++ row_part l.row (take l.place-index l.places)
