use Rattle.valuations.proofs.Vocabulary.{◌≡◌, take, columns_shared}
use Rattle.valuations.proofs.cells.shared_columns.Given as goal

abbrev pub invariant-loop-other : goal.invariant-loop-other
invariant-loop-other l = l.found.items ≡ columns_shared l.columns (take l.other-index l.others)
