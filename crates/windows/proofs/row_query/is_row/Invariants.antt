use Rattle.windows.proofs.Vocabulary.{◌≡◌, drop, map, Some, cells, cells_eq}
use Rattle.windows.proofs.row_query.is_row.Given as goal

abbrev pub invariant-loop-place : goal.invariant-loop-place
invariant-loop-place g l = cells_eq (cells l.columns (g.V.Lookup.valuation l.v)) (map Some l.row)
    ≡ cells_eq (drop l.place (cells l.columns (g.V.Lookup.valuation l.v))) (drop l.place (map Some l.row))
