use Rattle.windows.proofs.Vocabulary.{inl, inr, ⊎_elim}
use Rattle.windows.proofs.entries.push_now.Goals as goal

pub returns-in_ok-push_rows-clause-rows : goal.returns-in_ok-push_rows-clause-rows
returns-in_ok-push_rows-clause-rows c = λ row. (
  λ there. ⊎_elim (λ before. inl before) (λ now. inr (c.has.ensures.0 c.if-has.true, now)) ((c.in_ok-push_rows.ensures.rows row).0 there),
  λ either. (c.in_ok-push_rows.ensures.rows row).1 (⊎_elim (λ before. inl before) (λ now. inr now.1) either),
)
