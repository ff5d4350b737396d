use Rattle.windows.proofs.Vocabulary.{◌≡◌, drop, flat_map, fold, cell_fed, cells}
use Rattle.windows.proofs.row_query.RowQueryHash.hash.Given as goal

abbrev pub invariant-loop-column : goal.invariant-loop-column
invariant-loop-column g l = fold g.H.Hasher.write l.state (flat_map cell_fed (drop l.column-index (cells l.self.columns.now (g.V.Lookup.valuation l.self.values.now))))
    ≡ fold g.H.Hasher.write l.initial.state (flat_map cell_fed (cells l.self.columns.now (g.V.Lookup.valuation l.self.values.now)))
