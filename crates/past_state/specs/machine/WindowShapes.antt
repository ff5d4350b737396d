-- What the windows and slots are for by their numbers, and the first row that breaks their bounds.
use Rattle.enf_data.specs.declared.intervals.Interval.{Interval}
use Rattle.enf_data.specs.declared.terms.VarId.{VarId}
use Rattle.std.specs.Prelude.{ℕ, ◌+◌, ◌<◌, List, length, take, Option, ◌≡◌, None, Some, ◌-◌}
use Rattle.std.specs.Prelude.{◌≤◌, slice_get}
use Rattle.enf_formula.specs.machine.FormulaViews.{tree_of}
use Rattle.enf_formula.specs.meaning.Satisfaction.{Formula, AreFreeVariables, Prev, Once, Historically, Since}
use Rattle.past_state.specs.declared.kept_rows.KeptRow.{KeptRow}
use Rattle.past_state.specs.declared.shapes.WindowShape.{WindowShape}
use Rattle.past_state.specs.meaning.KeptRows.{IsRowBefore, kept_operand}
use Rattle.past_state.specs.meaning.RowBounds.{AreWithinBounds}

abbrev pub operator_of : WindowShape → Formula
operator_of shape = tree_of shape.operator.now

abbrev pub numbered_operator : WindowShape → ℕ × Formula
numbered_operator shape = (shape.guard, operator_of shape)

-- its rows have the values of the free variables of the operand that is kept, in rising variable number
abbrev pub HasItsColumns : WindowShape → Type 0
HasItsColumns shape = AreFreeVariables (kept_operand (operator_of shape)) shape.columns

-- the rows in front of this place can be kept, and those up to it cannot
pub record IsFirstOutOfBounds (fs : List Formula) (last : Option ℕ) (rows : List KeptRow) (place : ℕ) : Type 0 where
  pub there : place < length rows
  pub before : AreWithinBounds fs last (take place rows)
  pub broken : AreWithinBounds fs last (take (place + 1) rows) → ⊥

-- ---- one row after others

-- two rows have the same values in the same window, with times of their own
abbrev pub AreOfOne : KeptRow → KeptRow → Type 0
AreOfOne r s = (r.window ≡ s.window) × (r.row ≡ s.row)

-- the row before it, if there is one, stands before it in order; and it is of other values
abbrev pub ComesBehind : (before : Option KeptRow) → KeptRow → Type 0
ComesBehind None r = Unit {0}
ComesBehind (Some b) r = IsRowBefore b r

abbrev pub HasOtherValues : (before : Option KeptRow) → KeptRow → Type 0
HasOtherValues None r = Unit {0}
HasOtherValues (Some b) r = AreOfOne b r → ⊥

-- a time that comes after earlier ones of the same values: of an interval without an end one alone is kept; else it is
-- not past the end, and where it is far enough there, no earlier one is kept
abbrev pub TimeJoinsBy : (high : Option ℕ) → (low last : ℕ) → (Alone : Type 0) → ℕ → Type 0
TimeJoinsBy None low last Alone time = Alone
TimeJoinsBy (Some high) low last Alone time = (last - time ≤ high) × (low ≤ last - time → Alone)

abbrev pub TimeJoinsIn : Interval → (last : ℕ) → (Alone : Type 0) → ℕ → Type 0
TimeJoinsIn interval last Alone time = (time ≤ last) × TimeJoinsBy interval.high interval.low last Alone time

abbrev pub TimeJoins : Formula → (last : ℕ) → (Alone : Type 0) → ℕ → Type 0
TimeJoins (Prev place interval g) last Alone time = time ≡ last
TimeJoins (Once place interval g) last Alone time = TimeJoinsIn interval last Alone time
TimeJoins (Historically place interval g) last Alone time = TimeJoinsIn interval last Alone time
TimeJoins (Since place interval g h) last Alone time = TimeJoinsIn interval last Alone time
TimeJoins f last Alone time = ⊥

-- the row is for one of the operators, as long as its columns, and its time can come after earlier ones
pub record FitsIn (fs : List Formula) (last : ℕ) (Alone : Type 0) (r : KeptRow) : Type 0 where
  pub operator : Formula
  pub numbered : slice_get fs r.window ≡ Some operator
  pub long : (columns : List VarId) → AreFreeVariables (kept_operand operator) columns
      → length r.row ≡ length columns
  pub joins : TimeJoins operator last Alone r.time

-- rows that can be kept can be so with this one after the last of them
pub record RowCanFollow (fs : List Formula) (last : ℕ) (before : Option KeptRow) (r : KeptRow) : Type 0 where
  pub behind : ComesBehind before r
  pub fits : FitsIn fs last (HasOtherValues before r) r
