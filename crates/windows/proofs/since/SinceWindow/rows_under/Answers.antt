use Rattle.windows.proofs.Vocabulary.{◌≡◌, ◌∙◌, ◌↔◌, IsTrue, map, Some, ap, subst, IfSome, HasNoRepeats, Valuation, ok_both, AgreesWithRow, AgreesWhereBound, HasValuation, cells, AnswersBy}
use Rattle.windows.proofs.Vocabulary.{SurvivesFor}
use Rattle.windows.proofs.RowAnswerLemmas.{rows_of_one}
use Rattle.windows.proofs.since.SinceWindow.rows_under.Goals as goal

pub returns-in-Some-clause-rows : goal.returns-in-Some-clause-rows
returns-in-Some-clause-rows g c =
    let v = g.V.Lookup.valuation c.args.v.now in
    let same = ap (λ w. w.columns) c.self.view_is in
    let is : cells c.args.self.now.columns v ≡ map Some c.in-Some.row =
    subst (λ l. cells l v ≡ map Some c.in-Some.row) (c.as_slice.ensures ∙ same) (subst (λ o. IfSome o (λ row. cells c.as_slice.result.now v ≡ map Some row)) c.in-Some.is c.in_ok-row.ensures.some) in
    ok_both c.row_where.result _ _ (λ t. (w : Valuation) → HasValuation t w ↔ (AnswersBy c.args.self.now c.args.time (SurvivesFor c.args.surviving.now) c.args.right.now w
    × AgreesWhereBound c.args.self.now.columns v w))
    c.row_where.ensures.columns c.row_where.ensures.rows
    (λ t columns rows. rows_of_one c.args.self.now c.args.time c.args.surviving.now c.args.right.now v c.in-Some.row c.answers-is_there.result t (subst HasNoRepeats same c.self.invariant.distinct)
    c.requires.surviving_columns c.requires.right_columns is c.answers-is_there.ensures
    (subst (λ l. (w : Valuation) → HasValuation t w ↔ (IsTrue c.answers-is_there.result × AgreesWithRow w l c.in-Some.row)) same rows))
