-- Formulas of two parts, whose second part asks the tables after those of the first.
use Rattle.monitorable_guard.proofs.Vocabulary.{◌≡◌, ℕ, ◌+◌, Bool, ◌⊎◌, inl, inr, ⊎_elim, List, length, drop, IsTrue, Contains, ◌↔◌, sym, ap, subst, ◌∙◌, Valuation, Event, VarId, Value, Formula, And}
use Rattle.monitorable_guard.proofs.Vocabulary.{Or, Implies, Forall, filled_from_row, Relation, IsTable, AddsRows, AreBoundOrFree, AreOpenUnder, CanAskFormula, HasAnswers, IsGuardAnswer, IsBoundBy}
use Rattle.monitorable_guard.proofs.Vocabulary.{FitOperators, HoldsNow, outermost, tables_beyond, FreeWithin, FreeUnder}
use Rattle.monitorable_guard.proofs.AgreementLemmas.{fit_front, fit_back}
use Rattle.monitorable_guard.proofs.PartLemmas.{ask_and_right, ask_or_right, ask_each}
use Rattle.monitorable_guard.proofs.CycleLemmas.{behind_at}
use Rattle.monitorable_guard.proofs.EvaluationLemmas.{bound_or_not, not_bound, binds_more, both_to, both_from, either_to, either_from, each_to, each_from}
use Rattle.monitorable_guard.proofs.RowsLemmas.{adds_as, adds_both}

module _ (events : List Event) (tables : List Relation) (first next : ℕ) (v : Valuation) (g h : Formula) (at : next ≡ first + length (outermost g)) where
  pub next_tables : drop next tables ≡ tables_beyond g (drop first tables)
  next_tables = ap (λ n. drop n tables) at ∙ behind_at g tables first

  module _ (place : ℕ) (ask : CanAskFormula v (drop first tables) (And place g h)) (t : Relation) (table : IsTable t) (opens : AreOpenUnder v g t.columns)
      (rows : HasAnswers events (drop first tables) v g t) where
    fit : FitOperators (outermost g) (drop first tables)
    fit = fit_front (outermost g) (outermost h) (drop first tables) ask.tabled

    pub both_ask : (row : List Value) → Contains t.rows row → CanAskFormula (filled_from_row v t.columns row) (drop next tables) h
    both_ask row there = subst (λ l. CanAskFormula (filled_from_row v t.columns row) l h) (sym next_tables)
        (ask_and_right v (drop first tables) place g h (filled_from_row v t.columns row) (binds_more events (drop first tables) v g t table opens rows fit row there) ask)

    pub both_scope : (columns : List VarId) → AreBoundOrFree columns v (And 0 g h) → (row : List Value) → Contains t.rows row → AreBoundOrFree columns (filled_from_row v t.columns row) h
    both_scope columns scope row there x column =
        let more = binds_more events (drop first tables) v g t table opens rows fit row there x in
        ⊎_elim (λ bound. inl (more.1 (inl bound))) (λ free. ⊎_elim (λ left. inl (more.1 (inr left))) (λ right. inr right) free) (scope x column)

    pub adds_both_parts : (columns : List VarId) (before after : List (List Value)) → AddsRows columns before after
        (λ w. (row : List Value) × Contains t.rows row × IsGuardAnswer events (drop next tables) (filled_from_row v t.columns row) h columns w)
        → AddsRows columns before after (IsGuardAnswer events (drop first tables) v (And place g h) columns)
    adds_both_parts columns before after adds =
        adds_as columns before after (λ w. (row : List Value) × Contains t.rows row × IsGuardAnswer events (tables_beyond g (drop first tables)) (filled_from_row v t.columns row) h
        columns w) (IsGuardAnswer events (drop first tables) v (And place g h) columns)
        (both_to events (drop first tables) v g t table opens rows fit place h columns)
        (λ w answer none. none (both_from events (drop first tables) v g t table opens rows fit place h columns w answer))
        (subst (λ l. AddsRows columns before after (λ w. (row : List Value) × Contains t.rows row × IsGuardAnswer events l (filled_from_row v t.columns row) h columns w)) next_tables adds)

  module _ (place : ℕ) (ask : CanAskFormula v (drop first tables) (Or place g h)) where
    pub either_ask : CanAskFormula v (drop next tables) h
    either_ask = subst (λ l. CanAskFormula v l h) (sym next_tables) (ask_or_right v (drop first tables) place g h ask)

    -- what is in the scope of both is in that of each
    pub either_scope : (columns : List VarId) → AreBoundOrFree columns v (Or 0 g h) → AreBoundOrFree columns v g × AreBoundOrFree columns v h
    either_scope columns scope = (
      λ x column. ⊎_elim inl (λ free. ⊎_elim inr (λ right. ⊎_elim inl (λ none. inr ((ask.safe.2 x (not_bound v x none)).1 right)) (bound_or_not v x)) free) (scope x column),
      λ x column. ⊎_elim inl (λ free. ⊎_elim (λ left. ⊎_elim inl (λ none. inr ((ask.safe.2 x (not_bound v x none)).0 left)) (bound_or_not v x)) inr free) (scope x column),
    )

    pub adds_either_part : (columns : List VarId) (before between after : List (List Value)) → AddsRows columns before between (IsGuardAnswer events (drop first tables) v g columns)
        → AddsRows columns between after (IsGuardAnswer events (drop next tables) v h columns)
        → AddsRows columns before after (IsGuardAnswer events (drop first tables) v (Or place g h) columns)
    adds_either_part columns before between after left right =
        adds_as columns before after (λ w. IsGuardAnswer events (drop first tables) v g columns w ⊎ IsGuardAnswer events (tables_beyond g (drop first tables)) v h columns w)
        (IsGuardAnswer events (drop first tables) v (Or place g h) columns)
        (either_to events (drop first tables) v place g h ask.safe.2 columns)
        (either_from events (drop first tables) v place g h ask.safe.2 columns)
        (adds_both columns before between after (IsGuardAnswer events (drop first tables) v g columns) (IsGuardAnswer events (tables_beyond g (drop first tables)) v h columns) left
        (subst (λ l. AddsRows columns between after (IsGuardAnswer events l v h columns)) next_tables right))

  -- a condition on each row of a range
  module _ (t : Relation) (table : IsTable t) (opens : AreOpenUnder v g t.columns) (rows : HasAnswers events (drop first tables) v g t) (p q : ℕ) (xs : List VarId)
      (ask : CanAskFormula v (drop first tables) (Forall p xs (Implies q g h))) where
    fit_range : FitOperators (outermost g) (drop first tables)
    fit_range = fit_front (outermost g) (outermost h) (drop first tables) ask.tabled

    pub each_ask : (row : List Value) → Contains t.rows row → CanAskFormula (filled_from_row v t.columns row) (drop next tables) h
    each_ask row there = subst (λ l. CanAskFormula (filled_from_row v t.columns row) l h) (sym next_tables)
        (ask_each v (drop first tables) p q xs g h (filled_from_row v t.columns row) (binds_more events (drop first tables) v g t table opens rows fit_range row there) ask)

    pub each_closed : (row : List Value) → Contains t.rows row → FreeWithin h (IsBoundBy (filled_from_row v t.columns row))
    each_closed row there x free = (binds_more events (drop first tables) v g t table opens rows fit_range row there x).1 (ask.safe.4 x free)

    pub each_decided : (b : Bool) → IsTrue b ↔ ((row : List Value) → Contains t.rows row → HoldsNow events (drop next tables) (filled_from_row v t.columns row) h)
        → IsTrue b ↔ HoldsNow events (drop first tables) v (Forall p xs (Implies q g h))
    each_decided b told =
        let under : FreeUnder xs g (IsBoundBy v) = λ x free absent. ask.safe.0 x (inl free) absent in
        let under_right : FreeUnder xs h (IsBoundBy v) = λ x free absent. ask.safe.0 x (inr free) absent in
        let apart = λ (x : VarId) (there : Contains xs x) (bound : IsBoundBy v x). ask.fresh.0 x there (inl bound) in
        let fit_right = fit_back (outermost g) (outermost h) (drop first tables) ask.tabled in (
          λ b. each_to events (drop first tables) v g t table opens rows fit_range xs h under under_right ask.safe.1 apart ask.safe.4 fit_right p q
              (λ row there. subst (λ l. HoldsNow events l (filled_from_row v t.columns row) h) next_tables (told.0 b row there)),
          λ holds. told.1 (λ row there. subst (λ l. HoldsNow events l (filled_from_row v t.columns row) h) (sym next_tables)
              (each_from events (drop first tables) v g t table opens rows fit_range xs h under under_right ask.safe.1 apart ask.safe.4 fit_right p q holds row there)),
        )
