use Rattle.past_state.proofs.Vocabulary.{◌∷◌, [], refl, arith, here, later, case_within, CaseRowsFit, first_window_row, once_in}
use Rattle.past_state.proofs.RowCaseLemmas.{first_of_rows, fit_one, one_of_one, p_free, timely_of}
use Rattle.past_state.proofs.worked_cases.windows.Goals as goal

two_far : CaseRowsFit (once_in (case_within 3 8)) (first_window_row 1 2 ∷ first_window_row 1 5 ∷ []) → ⊥
two_far fit = omega (
  arith,
  (timely_of (once_in (case_within 3 8)) (first_window_row 1 2 ∷ first_window_row 1 5 ∷ []) 1 2 (first_of_rows (once_in (case_within 3 8)) (first_window_row 1 2) (first_window_row 1 5 ∷ []) fit)).1.1
      (omega arith) 5 (later (first_window_row 1 5) (first_window_row 1 2) (first_window_row 1 5 ∷ []) (here (first_window_row 1 5) [])) (omega arith),
)

pub returns : goal.returns
returns c = record {
  by_number = refl;
  second_far = record {
    there = omega arith;
    before = fit_one (once_in (case_within 3 8)) 1 2 p_free (omega arith, (omega arith, λ far other there far_too. omega (arith, one_of_one 1 1 2 other there)));
    broken = two_far;
  };
  not_the_third = λ f. two_far f.before;
  none_before_the_first_step = record { there = omega arith; before = refl; broken = λ none. cc };
}
