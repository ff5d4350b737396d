-- Which rows a past state can have.
use Rattle.enf_data.specs.declared.intervals.Interval.{Interval}
use Rattle.enf_data.specs.declared.terms.VarId.{VarId}
use Rattle.std.specs.Prelude.{ℕ, ◌≤◌, ◌≡◌, List, Contains, Some, length, slice_get, [], All, Option, None, ◌∷◌, ◌++◌}
use Rattle.std.specs.Prelude.{suc, map}
use Rattle.enf_formula.specs.meaning.Satisfaction.{Formula, Prev, Once, Historically, Since, AreFreeVariables}
use Rattle.windows.specs.meaning.KeptPairs.{ChosenBy, pair}
use Rattle.past_state.specs.declared.kept_rows.KeptRow.{KeptRow}
use Rattle.past_state.specs.meaning.KeptRows.{AreRowsRising, kept_operand, operators}
use Rattle.windows.specs.declared.kept_pairs.KeptPair.{KeptPair}

abbrev pub kept_row : ℕ → KeptPair → KeptRow
kept_row window p = record { window = window; row = p.row; time = p.time }

-- the time is not before the last time of a trace, where it has one
abbrev pub IsFrom : Option ℕ → ℕ → Type 0
IsFrom None time = Unit {0}
IsFrom (Some last) time = last ≤ time

-- the operators on the past in guards, each with the number of its guard, in the order in which windows and slots are
-- numbered; the first guard has this number
abbrev pub numbered_operators : (guard : ℕ) → List Formula → List (ℕ × Formula)
numbered_operators guard [] = []
numbered_operators guard (f ∷ fs) = map (λ o. (guard, o)) (operators f) ++ numbered_operators (suc guard) fs

-- a time among those for which P holds is not after the last one, and could not be left out of them
abbrev pub IsTimelyIn : Interval → ℕ → (ℕ → Type 0) → ℕ → Type 0
IsTimelyIn interval last P time = (time ≤ last) × ChosenBy interval.high interval.low last P time

-- a time among those for which P holds is one that the operator can keep at the last time
abbrev pub IsTimely : Formula → ℕ → (ℕ → Type 0) → ℕ → Type 0
IsTimely (Prev place interval g) last P time = time ≡ last
IsTimely (Once place interval g) last P time = IsTimelyIn interval last P time
IsTimely (Historically place interval g) last P time = IsTimelyIn interval last P time
IsTimely (Since place interval g h) last P time = IsTimelyIn interval last P time
IsTimely f last P time = ⊥

-- a time that some row has with the window and the values of this row
abbrev pub HaveTime : List KeptRow → KeptRow → ℕ → Type 0
HaveTime rows r time = Contains rows (kept_row r.window (pair r.row time))

-- a row is for one of the operators, has as many values as that has columns, and has a time that the operator can
-- keep
pub record IsKeepable (fs : List Formula) (last : ℕ) (rows : List KeptRow) (r : KeptRow) : Type 0 where
  pub operator : Formula
  pub numbered : slice_get fs r.window ≡ Some operator
  pub long : (columns : List VarId) → AreFreeVariables (kept_operand operator) columns → length r.row ≡ length columns
  pub timely : IsTimely operator last (HaveTime rows r) r.time

-- the rows can be kept for the operators at the last time; none before the first step
abbrev pub AreWithinBounds : List Formula → Option ℕ → List KeptRow → Type 0
AreWithinBounds fs None rows = rows ≡ []
AreWithinBounds fs (Some last) rows = AreRowsRising rows × All (IsKeepable fs last rows) rows
