use Rattle.windows.proofs.Vocabulary.{◌∙◌, ◌<◌, ◌≤◌, IsTrue, length, get_or, sym, ap, subst, false≢true, take_all, are_cells_as_bound, cells}
use Rattle.windows.proofs.IndexLemmas.{NonePasses, none_of_all, none_passes_more, none_passes_yet, one_passes}
use Rattle.windows.proofs.row_searches.has_row_under.Goals as goal

pub loop-row-init : goal.loop-row-init
loop-row-init g c = none_passes_yet (λ row. IsTrue (are_cells_as_bound (cells c.args.query.columns.now (g.V.Lookup.valuation c.args.query.values.now)) row)) c.args.rows.now.rows

pub loop-row-preserved : goal.loop-row-preserved
loop-row-preserved g c = none_passes_more (λ row. IsTrue (are_cells_as_bound (cells c.args.query.columns.now (g.V.Lookup.valuation c.args.query.values.now)) row)) c.args.rows.now.rows c.loop-row.row-index c.row-item.result
    (subst (λ l. c.loop-row.row-index < length l) c.rows-row-items.ensures.rows c.loop-row-test.true)
    (c.row-item.is ∙ ap (λ l. get_or l c.loop-row.row-index c.row-item.result) c.rows-row-items.ensures.rows) c.loop-row.invariant
    (λ passes. false≢true (sym c.if-are_as_bound.false ∙ c.are_as_bound.ensures
    ∙ ap (are_cells_as_bound (cells c.args.query.columns.now (g.V.Lookup.valuation c.args.query.values.now))) c.as_slice.ensures ∙ passes))

pub returns-then-are_as_bound-clause-some : goal.returns-then-are_as_bound-clause-some
returns-then-are_as_bound-clause-some g c = one_passes (λ row. IsTrue (are_cells_as_bound (cells c.args.query.columns.now (g.V.Lookup.valuation c.args.query.values.now)) row)) c.args.rows.now.rows c.loop-row.row-index c.row-item.result
    (subst (λ l. c.loop-row.row-index < length l) c.rows-row-items.ensures.rows c.loop-row-test.true)
    (c.row-item.is ∙ ap (λ l. get_or l c.loop-row.row-index c.row-item.result) c.rows-row-items.ensures.rows)
    (sym (ap (are_cells_as_bound (cells c.args.query.columns.now (g.V.Lookup.valuation c.args.query.values.now))) c.as_slice.ensures) ∙ sym c.are_as_bound.ensures ∙ c.if-are_as_bound.true)

pub returns-clause-some : goal.returns-clause-some
returns-clause-some g c = none_of_all (λ row. IsTrue (are_cells_as_bound (cells c.args.query.columns.now (g.V.Lookup.valuation c.args.query.values.now)) row)) c.args.rows.now.rows
    (subst (NonePasses (λ row. IsTrue (are_cells_as_bound (cells c.args.query.columns.now (g.V.Lookup.valuation c.args.query.values.now)) row)) c.args.rows.now.rows)
    (take_all c.loop-row.row-index c.args.rows.now.rows (subst (λ l. length l ≤ c.loop-row.row-index) c.rows-row-items.ensures.rows c.loop-row-test.false)) c.loop-row.invariant)
