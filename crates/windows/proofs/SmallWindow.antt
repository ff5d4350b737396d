-- A window with one row stands for the one step that brought it.
use Rattle.windows.proofs.Vocabulary.{◌≡◌, ◌∙◌, ◌⊎◌, ⊎_elim, inl, inr, ℕ, [], ◌∷◌, Contains, Some, length, refl, sym, ap, subst, arith, All-nil, Valuation, all_from, here, first_or_later, none_in_nil}
use Rattle.windows.proofs.Vocabulary.{AgreesWithRow, HasValuation, to_the_end, x_columns, number_row, number_table, right_at_3, with_1, case_within, IsEndedTime, AreLeastTimes, IsServedTime, RiseTo}
use Rattle.windows.proofs.Vocabulary.{Window, HasRowAfterStep, HasLeast, HasRow, IsCommittedBy, KeepsLeast, StandsForSteps}
use Rattle.windows.proofs.CaseLemmas.{distinct, from_rows, only_row}
use Rattle.windows.proofs.TimeLemmas.{itself}
use Rattle.windows.proofs.WindowLemmas.{not_ended, nothing_kept, remembers_from, served_in, served_to_end, stands_with}

abbrev nothing : Window
nothing = record { interval = case_within 2 4; columns = x_columns; last = 0; kept = [] }

only_time : (time other : ℕ) → Contains (time ∷ []) other → other ≡ time
only_time time other there = ⊎_elim (λ same. sym same) (λ none. absurd (none_in_nil other none)) (first_or_later other time [] there)

from : (v : Valuation) (j : ℕ) → HasRow (with_1 (case_within 2 4) 3) v j → HasRowAfterStep nothing 3 (HasValuation (number_table [])) (number_table (1 ∷ [])) v j
from v j h =
    let entry = only_row 3 (h.0, h.1) h.2 in
    inr (only_time 3 j (subst (λ l. Contains l j) entry.1 h.3), (number_row 1, (0, omega arith, refl), subst (AgreesWithRow v x_columns) entry.0 h.4))

serves : (v : Valuation) (j : ℕ) → HasRowAfterStep nothing 3 (HasValuation (number_table [])) (number_table (1 ∷ [])) v j
    → IsServedTime (Some 4) 2 3 (HasRow (with_1 (case_within 2 4) 3) v) j ⊎ IsEndedTime (Some 4) 3 j
serves v j goes = ⊎_elim (λ earlier. absurd (none_in_nil _ earlier.0.2))
    (λ now. let found = from_rows (1 ∷ []) now.1.0 now.1.1 in
    let is : now.1.0 ≡ number_row 1 = found.2 ∙ ap number_row (only_time 1 found.0 found.1) in
    inl (itself (Some 4) 2 3 (HasRow (with_1 (case_within 2 4) 3) v) j (
      number_row 1,
      3 ∷ [],
      (0, omega arith, refl),
      subst (Contains (3 ∷ [])) (sym now.0) (here 3 []),
      subst
          (AgreesWithRow v x_columns) is now.1.2,
    ))) goes

least : KeepsLeast (with_1 (case_within 2 4) 3)
least = record {
  distinct = distinct;
  rows = all_from (HasLeast (with_1 (case_within 2 4) 3)) (with_1 (case_within 2 4) 3).kept (λ e there. let same = only_row 3 e there in record {
    long = ap length same.0;
    rise = subst (RiseTo 3) (sym same.1) (omega arith, All-nil _, tt);
    least = subst (AreLeastTimes (Some 4) 2 3) (sym same.1) (omega arith, All-nil _);
  });
  unique = (none_in_nil _, tt);
}

committed : IsCommittedBy nothing 3 (HasValuation (number_table [])) (number_table (1 ∷ [])) (with_1 (case_within 2 4) 3)
committed = record {
  interval_is = refl;
  columns_are = refl;
  last_is = refl;
  remembers = remembers_from nothing (with_1 (case_within 2 4) 3) 3 (HasValuation (number_table [])) (number_table (1 ∷ [])) from serves (case_within 2 4) (served_in (Some 4) 2 3)
      (λ later t past in_it ended. not_ended (Some 4) 3 later t past in_it.1 ended);
  keeps = remembers_from nothing (with_1 (case_within 2 4) 3) 3 (HasValuation (number_table [])) (number_table (1 ∷ [])) from serves (to_the_end (case_within 2 4))
      (served_to_end (Some 4) 2 3) (λ later t past in_it ended. not_ended (Some 4) 3 later t past in_it.1 ended);
  from = from;
  serves = serves;
  least = least;
}

pub one_row_stands : StandsForSteps (with_1 (case_within 2 4) 3) right_at_3
one_row_stands = stands_with nothing 3 (HasValuation (number_table [])) (number_table []) (number_table (1 ∷ [])) (with_1 (case_within 2 4) 3) (omega arith)
    (λ v keeps. (λ h. h, λ h. h)) committed [] (nothing_kept nothing refl refl) (refl, refl)
