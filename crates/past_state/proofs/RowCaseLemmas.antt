-- The worked cases of rows: what has to be kept for operators, and of what a past state can be made.
use Rattle.past_state.proofs.Vocabulary.{◌≡◌, ◌∙◌, ◌⊎◌, inl, inr, ⊎_elim, ℕ, zero, suc, ◌<◌, ◌≤◌, List, [], ◌∷◌, Contains, Some, length, refl, sym, ap, subst, arith, pos, slice_get, All-cons}
use Rattle.past_state.proofs.Vocabulary.{All-head, All-nil, All-tail, sorted_from_all_adjacent, same_Some, step_at, row_cmp, Valuation, no_values, onto_values, valuation_of, value_at-insert}
use Rattle.past_state.proofs.Vocabulary.{variable_cmp_total, Interval, Step, Var, VarId, Num, only_item as only, event_q, formula_p, formula_q, name_p, variable_x, Formula, Once, Prev}
use Rattle.past_state.proofs.Vocabulary.{AreFreeVariables, Sat, HoldsAnywhere, IsEventAmong, same_free, first_or_later, here, none_in_nil, x_columns, x_number, number_row, case_within, same_number}
use Rattle.past_state.proofs.Vocabulary.{IsKeptInWindow, case_guards, number_steps, p_of, p_of_x, q_since_p, HasPairAt, IsRowBefore, KeptFor, all_operators, kept_operand, HaveTime, IsKeepable}
use Rattle.past_state.proofs.Vocabulary.{IsTimely, CaseRowsFit, CaseRowsFitBoth, first_window_row, second_window_row, once_in, KeptRow}
use Rattle.std.specs.declared.cmp.Ordering.TheVariants.{Less}
use Rattle.past_state.proofs.BoundsLemmas.{kept_with}
use Rattle.past_state.proofs.ChosenLemmas.{not_below}

-- ---- p(1) at time 0, p(2) at 2, p(1) at 3

pub p_at : (i n : ℕ) → Contains (step_at number_steps i).events (p_of n) → Sat number_steps i (x_number n) p_of_x
p_at i n there = subst (λ o. IsEventAmong (step_at number_steps i).events name_p (onto_values o (Some []))) (sym (value_at-insert no_values variable_x (Num (pos n)) variable_x)) there

pub p_of_another : (i m n : ℕ) → (step_at number_steps i).events ≡ p_of m ∷ [] → Sat number_steps i (x_number n) p_of_x → m ≡ n
p_of_another i m n events holds =
    let there : Contains (step_at number_steps i).events (p_of n) = subst (λ o. IsEventAmong (step_at number_steps i).events name_p (onto_values o (Some [])))
    (value_at-insert no_values variable_x (Num (pos n)) variable_x) holds in
    same_number m n (ap (λ e. e.args) (only (p_of m) (p_of n) (subst (λ l. Contains l (p_of n)) events there)))

-- a position has its time
pub held_at : (G : ℕ → Type 0) (i : ℕ) → i < length number_steps → G i → HasPairAt number_steps HoldsAnywhere G (step_at number_steps i).time
held_at G i below g = λ no. no (i, below, refl, g, λ k behind case_within. tt)

pub one_of_three : (G : ℕ → Type 0) (time : ℕ) → HasPairAt number_steps HoldsAnywhere G time → (((time ≡ 0) × G 0) ⊎ (((time ≡ 2) × G 1) ⊎ ((time ≡ 3) × G 2)) → ⊥) → ⊥
one_of_three G time held none = held (λ h. by h.0 h.1 h.2 h.3)
  where
    by : (j : ℕ) → j < length number_steps → (step_at number_steps j).time ≡ time → G j → ⊥
    by zero below is g = none (inl (sym is, g))
    by (suc zero) below is g = none (inr (inl (sym is, g)))
    by (suc (suc zero)) below is g = none (inr (inr (sym is, g)))
    by (suc (suc (suc j))) below is g = omega (arith, below)

pub none_after_three : (G : ℕ → Type 0) (time : ℕ) → HasPairAt number_steps HoldsAnywhere G time → time ≤ 3
none_after_three G time held = not_below time 3 (λ above. one_of_three G time held (λ either.
    ⊎_elim (λ z. omega (arith, above, z.0)) (λ e. ⊎_elim (λ t. omega (arith, above, t.0)) (λ t. omega (arith, above, t.0)) e) either))

pub none_after_two : (G : ℕ → Type 0) (time : ℕ) → (G 2 → ⊥) → HasPairAt number_steps HoldsAnywhere G time → time ≤ 2
none_after_two G time not_last held = not_below time 2 (λ above. one_of_three G time held
    (λ either. ⊎_elim (λ z. omega (arith, above, z.0)) (λ e. ⊎_elim (λ t. omega (arith, above, t.0)) (λ t. not_last t.1) e) either))

pub once_kept : KeptFor number_steps (Once 0 (case_within 2 5) p_of_x) (x_number 1) 0
once_kept = (
  held_at G 0 (omega arith) (p_at 0 1 (here (p_of 1) [])),
  (
    omega arith,
    λ far other held far_too. not_below other 0 (λ above. one_of_three G other held (λ either.
        ⊎_elim (λ z. omega (arith, above, z.0)) (λ e. ⊎_elim (λ t. omega (arith, p_of_another 1 2 1 refl t.1)) (λ t. omega (arith, t.0, far_too)) e) either)),
  ),
)
  where
    G : ℕ → Type 0
    G i = Sat number_steps i (x_number 1) p_of_x

-- whether or not it survives what comes after it
held_anyhow : (F G : ℕ → Type 0) (time : ℕ) → HasPairAt number_steps F G time → HasPairAt number_steps HoldsAnywhere G time
held_anyhow F G time held = λ no. held (λ h. no (h.0, h.1, h.2, h.3, λ k behind below. tt))

no_q : (v : Valuation) → Sat number_steps 2 v formula_q → ⊥
no_q v holds = omega (arith, ap (λ e. length e.args) (only (p_of 1) event_q holds))

pub since_kept : KeptFor number_steps q_since_p (x_number 1) 3
since_kept = (
  λ no. no (2, omega arith, refl, p_at 2 1 (here (p_of 1) []), λ k behind below. absurd (omega (arith, behind, below))),
  (
    omega arith,
    λ far other held far_too. none_after_three (λ i. Sat number_steps i (x_number 1) p_of_x) other
        (held_anyhow (λ i. Sat number_steps i (x_number 1) formula_q) (λ i. Sat number_steps i (x_number 1) p_of_x) other held),
  ),
)

pub since_died : KeptFor number_steps q_since_p (x_number 2) 2 → ⊥
since_died k = k.0 (λ h. by h.0 h.1 h.2 h.4)
  where
    by : (j : ℕ) → j < length number_steps → (step_at number_steps j).time ≡ 2 → ((k : ℕ) → j < k → k < length number_steps → Sat number_steps k (x_number 2) formula_q) → ⊥
    by zero below is each = omega (arith, is)
    by (suc zero) below is each = no_q (x_number 2) (each 2 (omega arith) (omega arith))
    by (suc (suc zero)) below is each = omega (arith, is)
    by (suc (suc (suc j))) below is each = omega (arith, below)

-- ---- windows of guards without variables

-- p() has no free variables, and nor has an operator over it
pub no_variables : AreFreeVariables formula_p []
no_variables = record {
  rising = sorted_from_all_adjacent variable_cmp_total [] variable_x (λ k inside. absurd (omega (arith, inside)));
  exact = λ y.
      (λ there. absurd (none_in_nil y there), λ free. absurd (none_in_nil (Var y) free));
}

pub closed_prev : (interval : Interval) → AreFreeVariables (Prev 0 interval formula_p) []
closed_prev interval = record { rising = no_variables.rising; exact = no_variables.exact }

-- what is kept in a window is kept for the operator of its number
pub kept_in : (trace : List Step) (window : ℕ) (f : Formula) → slice_get (all_operators case_guards) window ≡ Some f → AreFreeVariables (kept_operand f) []
    → IsKeptInWindow trace window → KeptFor trace f (valuation_of [] []) 4
kept_in trace window f first_window_row free k = kept_with trace (all_operators case_guards) (record { window = window; row = []; time = 4 }) f [] first_window_row free k

-- ---- of what a past state can be made

pub p_free : AreFreeVariables p_of_x x_columns
p_free = record {
  rising = sorted_from_all_adjacent variable_cmp_total x_columns variable_x (λ k inside. absurd (omega (arith, inside)));
  exact = λ y. (
    λ there. subst (λ z. Contains (Var variable_x ∷ []) (Var z)) (only variable_x y there) (here (Var variable_x) []),
    λ free. subst (Contains x_columns) (variable_is y (only (Var variable_x) (Var y) free)) (here variable_x []),
  );
}
  where
    variable_is : (y : VarId) → Var variable_x ≡ Var y → variable_x ≡ y
    variable_is y e = cc

pub keepable : (f : Formula) → AreFreeVariables (kept_operand f) x_columns → (rows : List KeptRow) (n time : ℕ) → IsTimely f 9 (HaveTime rows (first_window_row n time)) time
    → IsKeepable (f ∷ []) 9 rows (first_window_row n time)
keepable f free rows n time timely = record {
  operator = f;
  numbered = refl;
  long = λ xs also. ap length (same_free (kept_operand f) x_columns xs free also);
  timely = timely;
}

pub fit_one : (f : Formula) (n time : ℕ) → AreFreeVariables (kept_operand f) x_columns → IsTimely f 9 (HaveTime (first_window_row n time ∷ []) (first_window_row n time)) time
    → CaseRowsFit f (first_window_row n time ∷ [])
fit_one f n time free timely = (
  (All-nil (IsRowBefore (first_window_row n time)), tt),
  All-cons (IsKeepable (f ∷ []) 9 (first_window_row n time ∷ [])) (first_window_row n time) [] (keepable f free (first_window_row n time ∷ []) n time timely)
      (All-nil (IsKeepable (f ∷ []) 9 (first_window_row n time ∷ []))),
)

pub fit_two : (f : Formula) (r s : KeptRow) → IsRowBefore r s → IsKeepable (f ∷ []) 9 (r ∷ s ∷ []) r → IsKeepable (f ∷ []) 9 (r ∷ s ∷ []) s → CaseRowsFit f (r ∷ s ∷ [])
fit_two f r s before k l = (
  (All-cons (IsRowBefore r) s [] before (All-nil (IsRowBefore r)), (All-nil (IsRowBefore s), tt)),
  All-cons (IsKeepable (f ∷ []) 9 (r ∷ s ∷ [])) r (s ∷ []) k (All-cons (IsKeepable (f ∷ []) 9 (r ∷ s ∷ [])) s [] l (All-nil (IsKeepable (f ∷ []) 9 (r ∷ s ∷ [])))),
)

pub first_of_rows : (f : Formula) (r : KeptRow) (rows : List KeptRow) → CaseRowsFit f (r ∷ rows) → IsKeepable (f ∷ []) 9 (r ∷ rows) r
first_of_rows f r rows fit = All-head (IsKeepable (f ∷ []) 9 (r ∷ rows)) r rows fit.1

pub second_of_rows : (f : Formula) (r s : KeptRow) → CaseRowsFit f (r ∷ s ∷ []) → IsKeepable (f ∷ []) 9 (r ∷ s ∷ []) s
second_of_rows f r s fit = All-head (IsKeepable (f ∷ []) 9 (r ∷ s ∷ [])) s [] (All-tail (IsKeepable (f ∷ []) 9 (r ∷ s ∷ [])) r (s ∷ []) fit.1)

-- the operator of a row is the only one
pub timely_of : (f : Formula) (rows : List KeptRow) (n time : ℕ) → IsKeepable (f ∷ []) 9 rows (first_window_row n time) → IsTimely f 9 (HaveTime rows (first_window_row n time)) time
timely_of f rows n time k = subst (λ g. IsTimely g 9 (HaveTime rows (first_window_row n time)) time) (sym (same_Some f k.operator k.numbered)) k.timely

pub one_of_one : (k m s other : ℕ) → Contains (first_window_row m s ∷ []) (first_window_row k other) → s ≡ other
one_of_one k m s other there = ap (λ r. r.time) (only (first_window_row m s) (first_window_row k other) there)

-- a time of a row among two
pub one_of_two : (k m n s t other : ℕ) → Contains (first_window_row m s ∷ first_window_row n t ∷ []) (first_window_row k other) → ((m ≡ k) × (s ≡ other)) ⊎ ((n ≡ k) × (t ≡ other))
one_of_two k m n s t other there = ⊎_elim
    (λ first. inl (same_number m k (ap (λ r. r.row) first), ap (λ r. r.time) first))
    (λ behind. let second = only (first_window_row n t) (first_window_row k other) behind in inr (same_number n k (ap (λ r. r.row) second), ap (λ r. r.time) second))
    (first_or_later (first_window_row k other) (first_window_row m s) (first_window_row n t ∷ []) there)

pub not_before : (m n s t : ℕ) → (row_cmp (number_row m) (number_row n) ≡ Less → ⊥) → t ≤ s → IsRowBefore (first_window_row m s) (first_window_row n t) → ⊥
not_before m n s t order from before = ⊎_elim (λ less. omega (arith, less)) (λ both. ⊎_elim order (λ same. omega (arith, same.1, from)) both.1) before

-- times of one row in two windows
pub both_fit : CaseRowsFitBoth (once_in (case_within 3 8)) (first_window_row 2 2 ∷ second_window_row 2 5 ∷ [])
both_fit = (
  (All-cons (IsRowBefore (first_window_row 2 2)) (second_window_row 2 5) [] (inl (omega arith)) (All-nil (IsRowBefore (first_window_row 2 2))), (All-nil (IsRowBefore (second_window_row 2 5)), tt)),
  All-cons Keepable (first_window_row 2 2) (second_window_row 2 5 ∷ [])
      (with_time (first_window_row 2 2) refl refl (
        omega arith,
        (
          omega arith,
          λ far other there far_too. ⊎_elim (λ first. omega (arith, ap (λ r. r.time) first))
              (λ behind. absurd (omega (arith, ap (λ r. r.window) (only (second_window_row 2 5) (first_window_row 2 other) behind))))
              (first_or_later (first_window_row 2 other) (first_window_row 2 2) (second_window_row 2 5 ∷ []) there),
        ),
      ))
      (All-cons Keepable (second_window_row 2 5) []
      (with_time (second_window_row 2 5) refl refl (
        omega arith,
        (
          omega arith,
          λ far other there far_too. ⊎_elim (λ first. absurd (omega (arith, ap (λ r. r.window) first)))
              (λ behind. omega (arith, ap (λ r. r.time) (only (second_window_row 2 5) (second_window_row 2 other) behind)))
              (first_or_later (second_window_row 2 other) (first_window_row 2 2) (second_window_row 2 5 ∷ []) there),
        ),
      ))
      (All-nil Keepable)),
)
  where
    f : Formula
    f = once_in (case_within 3 8)

    rows : List KeptRow
    rows = first_window_row 2 2 ∷ second_window_row 2 5 ∷ []

    Keepable : KeptRow → Type 0
    Keepable = IsKeepable (f ∷ f ∷ []) 9 rows

    with_time : (r : KeptRow) → slice_get (f ∷ f ∷ []) r.window ≡ Some f → length r.row ≡ length x_columns → IsTimely f 9 (HaveTime rows r) r.time → Keepable r
    with_time r numbered long timely = record {
      operator = f;
      numbered = numbered;
      long = λ xs also. long ∙ ap length (same_free p_of_x x_columns xs p_free also);
      timely = timely;
    }
