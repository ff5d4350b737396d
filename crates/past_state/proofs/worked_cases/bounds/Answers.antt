use Rattle.past_state.proofs.Vocabulary.{⊎_elim, inl, inr, ◌∷◌, [], refl, subst, arith, All-head, none-some, same_Some, AreFreeVariables, here, later, x_columns, case_from, case_within, same_number}
use Rattle.past_state.proofs.Vocabulary.{q_since_p, first_window_row, second_window_row, two_number_row, once_in, prev_p, IsRowBefore, kept_operand}
use Rattle.past_state.proofs.RowCaseLemmas.{both_fit, first_of_rows, fit_one, fit_two, keepable, not_before, one_of_one, one_of_two, p_free, second_of_rows, timely_of}
use Rattle.past_state.proofs.worked_cases.bounds.Goals as goal

pub returns : goal.returns
returns c = record {
  far_and_near = fit_two (once_in (case_within 3 8)) (first_window_row 1 2) (first_window_row 1 8) (inr (refl, inr (refl, omega arith)))
      (keepable (once_in (case_within 3 8)) p_free (first_window_row 1 2 ∷ first_window_row 1 8 ∷ []) 1 2 (
        omega arith,
        (
          omega arith,
          λ far other there far_too.
              ⊎_elim (λ first. omega (arith, first.1)) (λ second. omega (arith, second.1, far_too)) (one_of_two 1 1 1 2 8 other there),
        ),
      ))
      (keepable (once_in (case_within 3 8)) p_free (first_window_row 1 2 ∷ first_window_row 1 8 ∷ []) 1 8 (omega arith, (omega arith, λ far. absurd (omega (arith, far)))));
  two_far = λ fit. omega (
    arith,
    (timely_of (once_in (case_within 3 8)) (first_window_row 1 2 ∷ first_window_row 1 5 ∷ []) 1 2
        (first_of_rows (once_in (case_within 3 8)) (first_window_row 1 2) (first_window_row 1 5 ∷ []) fit)).1.1
        (omega arith) 5 (later (first_window_row 1 5) (first_window_row 1 2) (first_window_row 1 5 ∷ []) (here (first_window_row 1 5) [])) (omega arith),
  );
  far_of_two_rows = fit_two (once_in (case_within 3 8)) (first_window_row 1 2) (first_window_row 2 5) (inr (refl, inl refl))
      (keepable (once_in (case_within 3 8)) p_free (first_window_row 1 2 ∷ first_window_row 2 5 ∷ []) 1 2 (
        omega arith,
        (
          omega arith,
          λ far other there far_too.
              ⊎_elim (λ first. omega (arith, first.1)) (λ second. absurd (omega (arith, second.0))) (one_of_two 1 1 2 2 5 other there),
        ),
      ))
      (keepable (once_in (case_within 3 8)) p_free (first_window_row 1 2 ∷ first_window_row 2 5 ∷ []) 2 5 (
        omega arith,
        (
          omega arith,
          λ far other there far_too.
              ⊎_elim (λ first. absurd (omega (arith, first.0))) (λ second. omega (arith, second.1)) (one_of_two 2 1 2 2 5 other there),
        ),
      ));
  at_the_end = fit_one (once_in (case_within 3 8)) 1 1 p_free (omega arith, (omega arith, λ far other there far_too. omega (arith, one_of_one 1 1 1 other there)));
  past_the_end = λ fit. omega (arith, (timely_of (once_in (case_within 3 8)) (first_window_row 1 0 ∷ []) 1 0 (first_of_rows (once_in (case_within 3 8)) (first_window_row 1 0) [] fit)).1.0);
  without_end = fit_one (once_in (case_from 3)) 1 0 p_free (omega arith, λ other there. omega arith);
  two_without_end = λ fit. omega (
    arith,
    (timely_of (once_in (case_from 3)) (first_window_row 1 0 ∷ first_window_row 1 8 ∷ []) 1 8 (second_of_rows (once_in (case_from 3)) (first_window_row 1 0) (first_window_row 1 8) fit)).1
        0 (here (first_window_row 1 0) (first_window_row 1 8 ∷ [])),
  );
  after_the_last = λ fit. omega (arith, (timely_of (once_in (case_within 3 8)) (first_window_row 1 10 ∷ []) 1 10 (first_of_rows (once_in (case_within 3 8)) (first_window_row 1 10) [] fit)).0);
  prev_at_the_last = fit_two prev_p (first_window_row 1 9) (first_window_row 2 9) (inr (refl, inl refl))
      (keepable prev_p p_free (first_window_row 1 9 ∷ first_window_row 2 9 ∷ []) 1 9 refl) (keepable prev_p p_free (first_window_row 1 9 ∷ first_window_row 2 9 ∷ []) 2 9 refl);
  prev_earlier = λ fit. omega (arith, timely_of prev_p (first_window_row 1 8 ∷ []) 1 8 (first_of_rows prev_p (first_window_row 1 8) [] fit));
  too_long = λ fit. let k = first_of_rows (once_in (case_within 3 8)) (two_number_row 5) [] fit in
      omega (arith, k.long x_columns (subst (λ f. AreFreeVariables (kept_operand f) x_columns) (same_Some (once_in (case_within 3 8)) k.operator k.numbered) p_free));
  no_such_window = λ fit. let k = first_of_rows (once_in (case_within 3 8)) (second_window_row 1 5) [] fit in none-some k.operator k.numbered;
  out_of_order = λ fit. not_before 2 1 5 5 (λ less. absurd (cc)) (omega arith) (All-head (IsRowBefore (first_window_row 2 5)) (first_window_row 1 5) [] fit.0.0);
  by_row_first = fit_two (once_in (case_within 3 8)) (first_window_row 1 8) (first_window_row 2 2) (inr (refl, inl refl))
      (keepable (once_in (case_within 3 8)) p_free (first_window_row 1 8 ∷ first_window_row 2 2 ∷ []) 1 8 (omega arith, (omega arith, λ far. absurd (omega (arith, far)))))
      (keepable (once_in (case_within 3 8)) p_free (first_window_row 1 8 ∷ first_window_row 2 2 ∷ []) 2 2 (
        omega arith,
        (
          omega arith,
          λ far other there far_too.
              ⊎_elim (λ first. absurd (omega (arith, first.0))) (λ second. omega (arith, second.1)) (one_of_two 2 1 2 8 2 other there),
        ),
      ));
  not_by_time_first = λ fit. ⊎_elim (λ less. omega (arith, less))
      (λ both. ⊎_elim (λ less. absurd (cc)) (λ same. omega (arith, same_number 2 1 same.0)) both.1) (All-head (IsRowBefore (first_window_row 2 2)) (first_window_row 1 8) [] fit.0.0);
  in_two_windows = both_fit;
  columns_of_the_right_side = fit_one q_since_p 1 8 p_free (omega arith, (omega arith, λ far other there far_too. omega (arith, one_of_one 1 1 8 other there)));
  twice = λ fit. not_before 1 1 5 5 (λ less. absurd (cc)) (omega arith) (All-head (IsRowBefore (first_window_row 1 5)) (first_window_row 1 5) [] fit.0.0);
  no_rows = refl;
  before_the_first_step = λ none. absurd (cc);
}
