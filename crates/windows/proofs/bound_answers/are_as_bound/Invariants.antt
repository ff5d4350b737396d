use Rattle.windows.proofs.Vocabulary.{◌≡◌, length, drop, are_cells_as_bound, cells}
use Rattle.windows.proofs.bound_answers.are_as_bound.Given as goal

abbrev pub invariant-loop-column : goal.invariant-loop-column
invariant-loop-column g l = are_cells_as_bound (cells l.columns (g.V.Lookup.valuation l.v)) l.row
    ≡ are_cells_as_bound (cells (drop (length l.yielded) l.columns) (g.V.Lookup.valuation l.v)) (drop (length l.yielded) l.row)
