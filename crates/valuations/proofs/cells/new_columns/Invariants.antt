use Rattle.valuations.proofs.Vocabulary.{◌≡◌, take, columns_unshared}
use Rattle.valuations.proofs.cells.new_columns.Given as goal

abbrev pub invariant-loop-other : goal.invariant-loop-other
invariant-loop-other l = l.found.items ≡ columns_unshared l.columns (take l.other-index l.others)
