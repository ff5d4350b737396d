-- Slots of `prev` whose rows grow from step to step, and windows that hold such rows.
use Rattle.enf_data.specs.declared.intervals.Interval.{Interval}
use Rattle.enf_data.specs.meaning.Valuations.{Valuation}
use Rattle.std.specs.Prelude.{ℕ, [], None, Some, Option, ◌≡◌, ◌⊎◌, ◌↔◌}
use Rattle.valuations.specs.machine.Tables.{Relation, HasValuation}
use Rattle.windows.specs.declared.steps.LastStep.{LastStep}
use Rattle.windows.specs.machine.AnswerTables.{survives_always, window_given}
use Rattle.windows.specs.machine.Slots.{HasLast, IsUpToTime, LastHasColumns, Slot, with_rows}
use Rattle.windows.specs.machine.Windows.{Window}

-- the valuation is among the rows of the last step
abbrev pub WasThere : Option LastStep → Valuation → Type 0
WasThere last v = (time : ℕ) × HasLast last v time

-- the slot after a step with these rows beside those of the step before
pub record IsGrownBy (before : Slot) (time : ℕ) (right : Relation) (after : Slot) : Type 0 where
  pub rows : Relation
  pub columns_are : rows.columns ≡ before.columns
  pub after_is : after ≡ record before { last = Some (with_rows time rows) }
  pub has : (v : Valuation) → HasValuation rows v ↔ (HasValuation right v ⊎ WasThere before.last v)

-- the interval and the columns stay
pub record KeepsColumns (before after : Slot) : Type 0 where
  pub interval_is : after.interval ≡ before.interval
  pub columns_are : after.columns ≡ before.columns
  pub fits : LastHasColumns before.columns before.last → LastHasColumns before.columns after.last

-- and so do the rows, as those of a step at this time
pub record IsTakenOver (time : ℕ) (before after : Slot) : Type 0 where
  pub interval_is : after.interval ≡ before.interval
  pub columns_are : after.columns ≡ before.columns
  pub there : (v : Valuation) → WasThere after.last v ↔ WasThere before.last v
  pub up_to : IsUpToTime time after.last

-- the window lets no row go that survives
abbrev pub IsEndless : Window → Type 0
IsEndless window = (window.interval.low ≡ 0) × (window.interval.high ≡ None)

-- the rows of such a window, without their times
abbrev pub grown_rows : Window → Relation
grown_rows window = window_given window window.last survives_always (record { columns = window.columns; rows = [] })

-- as the rows of a slot, at the window's last time
abbrev pub grown_slot : Interval → Window → Slot
grown_slot interval window = record {
  interval = interval;
  columns = window.columns;
  last = Some (with_rows window.last (grown_rows window));
}
