use Rattle.windows.proofs.Vocabulary.{IsTrue, take, are_cells_as_bound, cells}
use Rattle.windows.proofs.IndexLemmas.{NonePasses}
use Rattle.windows.proofs.row_searches.has_row_under.Given as goal

abbrev pub invariant-loop-row : goal.invariant-loop-row
invariant-loop-row g l = NonePasses (λ row. IsTrue (are_cells_as_bound (cells l.query.columns.now (g.V.Lookup.valuation l.query.values.now)) row)) l.rows.rows
    (take l.row-index l.rows.rows)
