use Rattle.windows.proofs.Vocabulary.{◌∙◌, arith, length-map, option_copied, value_at, cells}
use Rattle.windows.proofs.QueryLemmas.{cell_at, fed_next}
use Rattle.windows.proofs.row_query.RowQueryHash.hash.Goals as goal

pub loop-column-preserved : goal.loop-column-preserved
loop-column-preserved g c =
    let v = g.V.Lookup.valuation c.args.self.now.values.now in
    fed_next g.H.Hasher.write (cells c.args.self.now.columns.now v) c.loop-column.column-index (option_copied c.value.result) c.loop-column.state c.hash_cell.new.state
    (omega (arith, c.loop-column-test.true, length-map c.args.self.now.columns.now (value_at v)))
    (cell_at c.args.self.now.columns.now v c.loop-column.column-index _ _ c.loop-column-test.true c.value.ensures) c.hash_cell.ensures
    ∙ c.loop-column.invariant
