use Rattle.windows.proofs.Vocabulary.{◌<◌, length, arith, length-map, option_copied, value_at, cells}
use Rattle.windows.proofs.QueryLemmas.{alike, apart, cell_at}
use Rattle.windows.proofs.row_query.are_same.Goals as goal

pub returns-then-not-is_same : goal.returns-then-not-is_same
returns-then-not-is_same g c =
    let v = g.V.Lookup.valuation c.args.v.now in
    let w = g.V.Lookup.valuation c.args.w.now in
    let within : c.loop-place.place < length c.args.others.now = omega (arith, c.loop-place-test.true, c.if-columns-others.false) in
    apart _ (cells c.args.columns.now v) (cells c.args.others.now w) c.loop-place.place (option_copied c.value.result) (option_copied c.value-in-loop-place.result) c.is_same.result
    c.loop-place.invariant
    (omega (arith, c.loop-place-test.true, length-map c.args.columns.now (value_at v))) (omega (arith, within, length-map c.args.others.now (value_at w)))
    (cell_at c.args.columns.now v c.loop-place.place _ _ c.loop-place-test.true c.value.ensures) (cell_at c.args.others.now w c.loop-place.place _ _ within c.value-in-loop-place.ensures)
    c.is_same.ensures c.if-not-is_same.true

pub loop-place-preserved : goal.loop-place-preserved
loop-place-preserved g c =
    let v = g.V.Lookup.valuation c.args.v.now in
    let w = g.V.Lookup.valuation c.args.w.now in
    let within : c.loop-place.place < length c.args.others.now = omega (arith, c.loop-place-test.true, c.if-columns-others.false) in
    alike _ (cells c.args.columns.now v) (cells c.args.others.now w) c.loop-place.place (option_copied c.value.result) (option_copied c.value-in-loop-place.result) c.is_same.result
    c.loop-place.invariant
    (omega (arith, c.loop-place-test.true, length-map c.args.columns.now (value_at v))) (omega (arith, within, length-map c.args.others.now (value_at w)))
    (cell_at c.args.columns.now v c.loop-place.place _ _ c.loop-place-test.true c.value.ensures) (cell_at c.args.others.now w c.loop-place.place _ _ within c.value-in-loop-place.ensures)
    c.is_same.ensures c.if-not-is_same.false
