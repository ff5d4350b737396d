use Rattle.past_state.proofs.Vocabulary.{ℕ, zero, suc, ◌≡◌, ◌<◌, ◌≤◌, [], Some, length, refl, arith, slice_get, none-some, step_at, event_p, formula_p, Once, Prev, Sat, HoldsAnywhere, here}
use Rattle.past_state.proofs.Vocabulary.{none_in_nil, valuation_of, case_within, IsKeptInWindow, case_guards, nothing_then_p, p_then_nothing, HasPairAt, all_operators}
use Rattle.past_state.proofs.ChosenLemmas.{not_below}
use Rattle.past_state.proofs.RowCaseLemmas.{closed_prev, kept_in, no_variables}
use Rattle.past_state.proofs.worked_cases.kept_in_windows.Goals as goal

not_after_four : (G : ℕ → Type 0) (time : ℕ) → HasPairAt p_then_nothing HoldsAnywhere G time → time ≤ 4
not_after_four G time held = not_below time 4 (λ above. held (λ h. by h.0 h.1 h.2 above))
  where
    by : (j : ℕ) → j < length p_then_nothing → (step_at p_then_nothing j).time ≡ time → 4 < time → ⊥
    by zero below is above = omega (arith, is, above)
    by (suc zero) below is above = omega (arith, is, above)
    by (suc (suc j)) below is above = omega (arith, below)

never_behind_p : (j : ℕ) → j < length nothing_then_p → Sat nothing_then_p j (valuation_of [] []) (Prev 0 (case_within 0 9) formula_p) → ⊥
never_behind_p zero below holds = omega (arith, holds.0)
never_behind_p (suc zero) below holds = none_in_nil event_p holds.2
never_behind_p (suc (suc j)) below holds = omega (arith, below)

in_prev : (window : ℕ) → slice_get (all_operators case_guards) window ≡ Some (Prev 0 (case_within 0 9) formula_p) → IsKeptInWindow nothing_then_p window
in_prev window at = record {
  operator = Prev 0 (case_within 0 9) formula_p;
  numbered = at;
  columns = [];
  free = no_variables;
  fits = refl;
  kept = (omega arith, refl, here event_p []);
}

pub returns : goal.returns
returns c = record {
  outer = record {
    operator = Once 0 (case_within 0 5) (Prev 0 (case_within 0 9) formula_p);
    numbered = refl;
    columns = [];
    free = closed_prev (case_within 0 9);
    fits = refl;
    kept = (
      λ no. no (1, omega arith, refl, (omega arith, (omega arith, omega arith), here event_p []), λ k behind below. tt),
      (omega arith, λ far other held far_too. not_after_four _ other held),
    );
  };
  not_of_the_inner = λ k. none_in_nil event_p (kept_in p_then_nothing 1 (Prev 0 (case_within 0 9) formula_p) refl no_variables k).2;
  inner = in_prev 1 refl;
  not_of_the_outer = λ k. (kept_in nothing_then_p 0 (Once 0 (case_within 0 5) (Prev 0 (case_within 0 9) formula_p)) refl (closed_prev (case_within 0 9)) k).0 (λ h. never_behind_p h.0 h.1 h.3);
  second_guard = in_prev 2 refl;
  no_other = λ k. none-some k.operator k.numbered;
}
