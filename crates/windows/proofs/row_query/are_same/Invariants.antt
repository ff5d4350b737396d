use Rattle.windows.proofs.Vocabulary.{◌≡◌, drop, cells, cells_eq}
use Rattle.windows.proofs.row_query.are_same.Given as goal

abbrev pub invariant-loop-place : goal.invariant-loop-place
invariant-loop-place g l = cells_eq (cells l.columns (g.V.Lookup.valuation l.v)) (cells l.others (g.V.Lookup.valuation l.w))
    ≡ cells_eq (drop l.place (cells l.columns (g.V.Lookup.valuation l.v))) (drop l.place (cells l.others (g.V.Lookup.valuation l.w)))
