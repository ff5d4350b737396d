-- What held on a trace, with one step more.
use Rattle.past_state.proofs.Vocabulary.{◌≡◌, ◌↔◌, ◌⊎◌, inl, inr, ⊎_elim, ℕ, suc, ◌-◌, ◌<◌, List, [], ◌∷◌, ◌++◌, length, sym, subst, arith, length-append, cases_lt, get_or_append_left, step_at}
use Rattle.past_state.proofs.Vocabulary.{no_step, IsIn, Valuation, Interval, Step, step_at_end, Relation, HasValuation, HeldAt, HeldWhere, ValuationSurvives, Survivors}
use Rattle.past_state.proofs.Decided.{IsDecided, in_interval, in_table, survives_stable}

pub earlier_at : (trace : List Step) (step : Step) (i : ℕ) → i < length trace → step_at (trace ++ step ∷ []) i ≡ step_at trace i
earlier_at trace step i below = get_or_append_left trace (step ∷ []) no_step i below

-- what holds at each position of the trace, and at the new one
module _ (trace : List Step) (step : Step) (Counts : ℕ → Type 0) (F G F' G' : ℕ → Type 0)
    (same_F : (k : ℕ) → k < length trace → F k ↔ F' k) (same_G : (k : ℕ) → k < length trace → G k ↔ G' k) where
  longer : length (trace ++ step ∷ []) ≡ suc (length trace)
  longer = omega (arith, length-append trace (step ∷ []))

  pub held_now : Counts step.time → G' (length trace) → HeldWhere (trace ++ step ∷ []) Counts F' G'
  held_now within g = λ no. no (
    length trace,
    omega (arith, longer),
    subst (λ s. Counts s.time) (sym (step_at_end trace step)) within,
    g,
    λ k behind below. absurd (omega (arith, longer)),
  )

  pub held_on : HeldWhere trace Counts F G → F' (length trace) → HeldWhere (trace ++ step ∷ []) Counts F' G'
  held_on held f = λ no. held (λ h. no (
    h.0,
    omega (arith, longer, h.1),
    subst (λ s. Counts s.time) (sym (earlier_at trace step h.0 h.1)) h.2,
    (same_G h.0 h.1).0 h.3,
    λ k behind below. ⊎_elim (λ earlier. (same_F k earlier).0 (h.4 k behind earlier)) (λ from.
        let is : length trace ≡ k = omega (arith, longer) in subst F' is f) (cases_lt k (length trace)),
  ))

  pub held_from : HeldWhere (trace ++ step ∷ []) Counts F' G'
      → (((Counts step.time × G' (length trace)) ⊎ (HeldWhere trace Counts F G × F' (length trace))) → ⊥) → ⊥
  held_from held refused = held (λ h. ⊎_elim
      (λ earlier. refused (inr (
        (λ none. none (
          h.0,
          earlier,
          subst (λ s. Counts s.time) (earlier_at trace step h.0 earlier) h.2,
          (same_G h.0 earlier).1 h.3,
          λ k behind below. (same_F k below).1 (h.4 k behind (omega (arith, longer))),
        )),
        h.4 (length trace) earlier (omega (arith, longer)),
      )))
      (λ from.
      let is : h.0 ≡ length trace = omega (arith, longer, h.1) in
      refused (inl (
        subst (λ s. Counts s.time) (step_at_end trace step) (subst (λ j. Counts (step_at (trace ++ step ∷ []) j).time) is h.2),
        subst G' is h.3,
      )))
      (cases_lt h.0 (length trace)))

-- what was remembered, and goes on by one step, is what held on the longer trace
pub goes_on : (trace : List Step) (step : Step) (interval : Interval) (time : ℕ) (F G F' G' : ℕ → Type 0)
    → ((k : ℕ) → k < length trace → F k ↔ F' k) → ((k : ℕ) → k < length trace → G k ↔ G' k)
    → (survivors : Survivors) (right : Relation) (v : Valuation) (Before Kept Now : Type 0) → (Before → Kept)
    → Now ↔ ((IsIn interval (time - step.time) × HasValuation right v) ⊎ (Before × ValuationSurvives survivors v))
    → Before ↔ HeldAt trace interval time F G
    → (Kept → ValuationSurvives survivors v ↔ F' (length trace))
    → HasValuation right v ↔ G' (length trace)
    → Now ↔ HeldAt (trace ++ step ∷ []) interval time F' G'
goes_on trace step interval time F G F' G' same_F same_G survivors right v Before Kept Now is_kept unfolded answers survives is_right = (
  λ h. ⊎_elim
      (λ n. held_now trace step (λ earlier. IsIn interval (time - earlier)) F G F' G' same_F same_G n.0 (is_right.0 n.1))
      (λ e. held_on trace step (λ earlier. IsIn interval (time - earlier)) F G F' G' same_F same_G (answers.0 e.0) ((survives (is_kept e.0)).0 e.1))
      (unfolded.0 h),
  λ held. unfolded.1 (⊎_elim
      (λ yes. inl yes)
      (λ no. inr (
        answers.1 (λ none. held_from trace step (λ earlier. IsIn interval (time - earlier)) F G F' G' same_F same_G held (λ either. ⊎_elim (λ n. no (n.0, is_right.1 n.1)) (λ e. e.0 none) either)),
        survives_stable survivors v (λ none. held_from trace step (λ earlier. IsIn interval (time - earlier)) F G F' G' same_F same_G held (λ either. ⊎_elim (λ n. no (n.0, is_right.1 n.1)) (λ e.
            none ((survives (is_kept (answers.1 e.0))).1 e.1)) either)),
      ))
      decided),
)
  where
    decided : IsDecided (IsIn interval (time - step.time) × HasValuation right v)
    decided = ⊎_elim (λ within. ⊎_elim (λ has. inl (within, has)) (λ no. inr (λ h. no h.1)) (in_table right v)) (λ no. inr (λ h. no h.0)) (in_interval interval (time - step.time))
