use Rattle.valuations.proofs.Vocabulary.{◌≡◌, ◌++◌, take}
use Rattle.valuations.proofs.relations.push_copies.Given as goal

abbrev pub invariant-loop-row : goal.invariant-loop-row
invariant-loop-row l = l.out.items ≡ l.initial.out.items ++ take l.row-index l.rows
