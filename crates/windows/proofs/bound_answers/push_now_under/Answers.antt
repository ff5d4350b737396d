use Rattle.windows.proofs.Vocabulary.{inl, inr, ⊎_elim}
use Rattle.windows.proofs.bound_answers.push_now_under.Goals as goal

pub returns-in_ok-push_rows_under-clause-rows : goal.returns-in_ok-push_rows_under-clause-rows
returns-in_ok-push_rows_under-clause-rows g c = λ row. (
  λ there. ⊎_elim (λ before. inl before) (λ now. inr (c.has.ensures.0 c.if-has.true, now)) ((c.in_ok-push_rows_under.ensures.rows row).0 there),
  λ either. (c.in_ok-push_rows_under.ensures.rows row).1 (⊎_elim (λ before. inl before) (λ now. inr now.1) either),
)
