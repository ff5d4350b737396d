use Rattle.windows.proofs.Vocabulary.{◌≡◌, map, take, Some, cells}
use Rattle.windows.proofs.row_query.row_of.Given as goal

abbrev pub invariant-loop-column : goal.invariant-loop-column
invariant-loop-column g l = cells (take l.column-index l.columns) (g.V.Lookup.valuation l.v) ≡ map Some l.values.items
