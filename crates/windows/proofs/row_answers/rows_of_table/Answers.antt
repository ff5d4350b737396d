use Rattle.windows.proofs.Vocabulary.{◌≡◌, ◌∙◌, ◌↔◌, IsTrue, map, Some, subst, IfSome, IfOk-weaker, Valuation, AgreesWithRow, AgreesWhereBound, HasValuation, cells, ap, length, sym}
use Rattle.windows.proofs.QueryLemmas.{cells_long}
use Rattle.windows.proofs.RowAnswerLemmas.{rows_of_table}
use Rattle.windows.proofs.row_answers.rows_of_table.Goals as goal

pub row_where-requires-clause-fits : goal.row_where-requires-clause-fits
row_where-requires-clause-fits g c =
    let v = g.V.Lookup.valuation c.args.v.now in
    cells_long c.as_slice.result.now v c.in-Some.row
    (subst (λ o. IfSome o (λ row. cells c.as_slice.result.now v ≡ map Some row)) c.in-Some.is c.in_ok-row.ensures.some)
    ∙ ap length (c.as_slice.ensures ∙ c.columns.ensures.columns ∙ sym c.columns-in-Some.ensures.columns)

pub returns-in-Some-clause-rows : goal.returns-in-Some-clause-rows
returns-in-Some-clause-rows g c =
    let v = g.V.Lookup.valuation c.args.v.now in
    let is : cells c.args.rows.now.columns v ≡ map Some c.in-Some.row =
    subst (λ l. cells l v ≡ map Some c.in-Some.row) (c.as_slice.ensures ∙ c.columns.ensures.columns)
    (subst (λ o. IfSome o (λ row. cells c.as_slice.result.now v ≡ map Some row)) c.in-Some.is c.in_ok-row.ensures.some) in
    IfOk-weaker c.row_where.result _ (λ t. (w : Valuation) → HasValuation t w ↔ (HasValuation c.args.rows.now w × AgreesWhereBound c.args.rows.now.columns v w))
    (λ t rows. rows_of_table c.args.rows.now v c.in-Some.row c.has_valuation-is_there.result t c.columns.ensures.table.distinct is c.has_valuation-is_there.ensures.has
    (subst (λ l. (w : Valuation) → HasValuation t w ↔ (IsTrue c.has_valuation-is_there.result × AgreesWithRow w l c.in-Some.row)) c.columns-in-Some.ensures.columns rows)) c.row_where.ensures.rows
