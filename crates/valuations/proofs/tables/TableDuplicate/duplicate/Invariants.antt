use Rattle.valuations.proofs.Vocabulary.{◌≡◌, take}
use Rattle.valuations.proofs.tables.TableDuplicate.duplicate.Given as goal

abbrev pub invariant-loop-row : goal.invariant-loop-row
invariant-loop-row l = l.rows.items ≡ take l.row-index l.row-items
