use Rattle.windows.proofs.Vocabulary.{◌<◌, length, map, Some, arith, length-map, option_copied, value_at, Value, cells}
use Rattle.std.specs.Prelude.{Option}
use Rattle.windows.proofs.QueryLemmas.{alike, apart, cell_at, some_at}
use Rattle.windows.proofs.row_query.is_row.Goals as goal

pub returns-then-not-is_same : goal.returns-then-not-is_same
returns-then-not-is_same g c =
    let v = g.V.Lookup.valuation c.args.v.now in
    let within : c.loop-place.place < length c.args.row.now = omega (arith, c.loop-place-test.true, c.if-columns-row.false) in
    apart _ (cells c.args.columns.now v) (map Some c.args.row.now) c.loop-place.place (option_copied c.value.result) (Some c.index-row-place.result) c.is_same.result c.loop-place.invariant
    (omega (arith, c.loop-place-test.true, length-map c.args.columns.now (value_at v))) (omega (arith, within, length-map {B = Option Value} c.args.row.now Some))
    (cell_at c.args.columns.now v c.loop-place.place _ _ c.loop-place-test.true c.value.ensures)
    (some_at c.args.row.now c.loop-place.place c.index-row-place.result within c.index-row-place.is) c.is_same.ensures c.if-not-is_same.true

pub loop-place-preserved : goal.loop-place-preserved
loop-place-preserved g c =
    let v = g.V.Lookup.valuation c.args.v.now in
    let within : c.loop-place.place < length c.args.row.now = omega (arith, c.loop-place-test.true, c.if-columns-row.false) in
    alike _ (cells c.args.columns.now v) (map Some c.args.row.now) c.loop-place.place (option_copied c.value.result) (Some c.index-row-place.result) c.is_same.result c.loop-place.invariant
    (omega (arith, c.loop-place-test.true, length-map c.args.columns.now (value_at v))) (omega (arith, within, length-map {B = Option Value} c.args.row.now Some))
    (cell_at c.args.columns.now v c.loop-place.place _ _ c.loop-place-test.true c.value.ensures)
    (some_at c.args.row.now c.loop-place.place c.index-row-place.result within c.index-row-place.is) c.is_same.ensures c.if-not-is_same.false
