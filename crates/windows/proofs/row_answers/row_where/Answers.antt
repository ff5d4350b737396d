use Rattle.windows.proofs.Vocabulary.{◌≡◌, ◌∙◌, ◌⊎◌, ◌↔◌, ◌++◌, ◌∷◌, [], true, false, inl, inr, IsTrue, ap, Valuation, ok_both, AgreesWithRow, HasValuation}
use Rattle.windows.proofs.RowAnswerLemmas.{row_has}
use Rattle.windows.proofs.row_answers.row_where.Goals.{then-is_there+in_ok-push, else-is_there}
use Rattle.windows.proofs.row_answers.row_where.Goals as goal

pub returns-clause-rows : goal.returns-clause-rows
returns-clause-rows c =
    let one_or_none : ((c.args.is_there ≡ true) × (c.if-is_there.rows.items ≡ c.args.row ∷ [])) ⊎ ((c.args.is_there ≡ false) × (c.if-is_there.rows.items ≡ [])) = elim c.if-is_there.branch [
      | then-is_there+in_ok-push w ↦ inl (w.if-is_there.true, ap (λ r. r.items) w.rows-is ∙ w.in_ok-push.ensures.items ∙ ap (λ l. l ++ c.args.row ∷ []) c.new-rows.ensures.items)
      | else-is_there w ↦ inr (w.if-is_there.false, ap (λ r. r.items) w.rows-is ∙ c.new-rows.ensures.items)
    ] in
    ok_both c.from_rows.result _ _ (λ t. (v : Valuation) → HasValuation t v ↔ (IsTrue c.args.is_there × AgreesWithRow v c.args.columns.now c.args.row)) c.from_rows.ensures.columns
    c.from_rows.ensures.rows
    (λ t columns rows. row_has c.args.columns.now c.args.row c.args.is_there c.if-is_there.rows.items t one_or_none (columns ∙ c.in_ok-duplicate.ensures) rows)
