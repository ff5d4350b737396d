-- What an operator `prev` has to remember: the rows of the step that was committed last.
use Rattle.enf_data.specs.declared.intervals.Interval.{Interval}
use Rattle.enf_data.specs.declared.terms.VarId.{VarId}
use Rattle.enf_data.specs.meaning.Membership.{HasNoRepeats, IsIn}
use Rattle.enf_data.specs.meaning.Valuations.{Valuation}
use Rattle.std.specs.Prelude.{List, Option, ℕ, ◌≤◌, None, Some, ◌≡◌, ◌-◌, []}
use Rattle.valuations.specs.machine.Tables.{Relation, HasValuation}
use Rattle.windows.specs.declared.steps.LastStep.{LastStep}

pub record Slot : Type 0 where
  pub interval : Interval
  pub columns : List VarId
  pub last : Option LastStep

-- a step at this time with these rows
abbrev pub with_rows : ℕ → Relation → LastStep
with_rows time rows = record { time = time; rows = rows }

-- the last step is not later than the time
abbrev pub IsUpToTime : ℕ → Option LastStep → Type 0
IsUpToTime time None = Unit {0}
IsUpToTime time (Some last) = last.time ≤ time

-- the rows of the last step have these columns, in this order
abbrev pub LastHasColumns : List VarId → Option LastStep → Type 0
LastHasColumns columns None = Unit {0}
LastHasColumns columns (Some last) = last.rows.columns ≡ columns

-- the columns are distinct, and the rows of the last step have them
pub record IsSlot (slot : Slot) : Type 0 where
  pub distinct : HasNoRepeats slot.columns
  pub fits : LastHasColumns slot.columns slot.last

-- a step is committed, and the last one has no rows
abbrev pub IsBareSlot : Slot → Type 0
IsBareSlot slot = (last : LastStep) × (slot.last ≡ Some last) × (last.rows.rows ≡ [])

-- the valuation is among the rows of the last step, whose distance from the time is in the interval
abbrev pub GivesLast : Interval → ℕ → Option LastStep → Valuation → Type 0
GivesLast interval time None v = ⊥
GivesLast interval time (Some last) v = IsIn interval (time - last.time) × HasValuation last.rows v

-- the valuation is among the rows of the last step, at its time
abbrev pub HasLast : Option LastStep → Valuation → ℕ → Type 0
HasLast None v time = ⊥
HasLast (Some last) v time = (time ≡ last.time) × HasValuation last.rows v
