-- Small lists of rows, on which the bounds of what a past state can be made of can be checked by eye.
use Rattle.enf_data.specs.declared.intervals.Interval.{Interval}
use Rattle.enf_data.specs.declared.values.Value.TheVariants.{Num}
use Rattle.std.specs.Prelude.{ℕ, pos, [], ◌∷◌, List, Option, Some}
use Rattle.enf_formula.specs.meaning.Satisfaction.{Formula, Once, Prev}
use Rattle.windows.specs.machine.Cases.{case_within, number_row}
use Rattle.past_state.specs.declared.kept_rows.KeptRow.{KeptRow}
use Rattle.past_state.specs.machine.Cases.{p_of_x}
use Rattle.past_state.specs.meaning.RowBounds.{AreWithinBounds}

-- once p(x) in an interval, and prev[0,9] p(x)
abbrev pub once_in : Interval → Formula
once_in interval = Once 0 interval p_of_x

abbrev pub prev_p : Formula
prev_p = Prev 0 (case_within 0 9) p_of_x

-- the row of a number in the first window, with a time
abbrev pub first_window_row : ℕ → ℕ → KeptRow
first_window_row n time = record { window = 0; row = number_row n; time = time }

-- the row of a number in the second window, and a row of two numbers in the first one
abbrev pub second_window_row : ℕ → ℕ → KeptRow
second_window_row n time = record { window = 1; row = number_row n; time = time }

abbrev pub two_number_row : ℕ → KeptRow
two_number_row time = record { window = 0; row = Num (pos 1) ∷ Num (pos 2) ∷ []; time = time }

-- the rows can be kept for the operator where this is the last time
abbrev pub CanBeKept : Formula → Option ℕ → List KeptRow → Type 0
CanBeKept f last rows = AreWithinBounds (f ∷ []) last rows

-- where 9 is
abbrev pub CaseRowsFit : Formula → List KeptRow → Type 0
CaseRowsFit f rows = CanBeKept f (Some 9) rows

-- for two such operators
abbrev pub CaseRowsFitBoth : Formula → List KeptRow → Type 0
CaseRowsFitBoth f rows = AreWithinBounds (f ∷ f ∷ []) (Some 9) rows

abbrev pub CaseRowsDoNotFit : Formula → List KeptRow → Type 0
CaseRowsDoNotFit f rows = CaseRowsFit f rows → ⊥
