use Rattle.windows.proofs.Vocabulary.{◌↔◌, ◌⊎◌, IsTrue, List, take, Contains, Value, are_cells_as_bound, cells}
use Rattle.windows.proofs.bound_answers.push_rows_under.Given as goal

abbrev pub invariant-loop-row : goal.invariant-loop-row
invariant-loop-row g l = (row : List Value) → Contains l.out.items row ↔ (Contains l.fn.out.items row
    ⊎ (Contains (take l.row-index l.rows.rows) row × IsTrue (are_cells_as_bound (cells l.query.columns.now (g.V.Lookup.valuation l.query.values.now)) row)))
