-- For which traces windows and slots stand, by what held on them.
use Rattle.enf_data.specs.declared.intervals.Interval.{Interval}
use Rattle.enf_data.specs.declared.steps.Step.{Step}
use Rattle.enf_data.specs.declared.terms.VarId.{VarId}
use Rattle.enf_data.specs.meaning.Membership.{IsIn}
use Rattle.enf_data.specs.meaning.Valuations.{Valuation, BindsColumns}
use Rattle.std.specs.Prelude.{ℕ, ◌-◌, List, ◌≡◌, ◌↔◌, ◌≤◌, Contains, ◌<◌, length}
use Rattle.enf_formula.specs.meaning.Satisfaction.{Formula, IsFree, Sat}
use Rattle.windows.specs.machine.Slots.{Slot, GivesLast, HasLast, IsUpToTime}
use Rattle.windows.specs.machine.Windows.{Window, HasRow, WindowRemembers}
use Rattle.trace_meaning.specs.meaning.Traces.{last_time}
use Rattle.past_state.specs.meaning.KeptRows.{HeldWhere, KeptAt}

-- a time counts whose distance is in the interval
abbrev pub HeldAt : List Step → Interval → ℕ → (ℕ → Type 0) → (ℕ → Type 0) → Type 0
HeldAt trace interval time F G = HeldWhere trace (λ earlier. IsIn interval (time - earlier)) F G

-- the window remembers, at each time from the last one on, the valuations for which some position at a distance in the
-- interval satisfies the right side, and each position after it the left side; and its rows and times are just
-- those to be kept of the trace
pub record WindowStands (trace : List Step) (interval : Interval) (F G : Valuation → ℕ → Type 0) (g : Formula)
    (window : Window) : Type 0 where
  pub interval_is : window.interval ≡ interval
  pub columns_are : (x : VarId) → Contains window.columns x ↔ IsFree x g
  pub up_to : window.last ≤ last_time trace
  pub gives : (time : ℕ) → last_time trace ≤ time → (v : Valuation) → BindsColumns v window.columns
      → WindowRemembers window time v ↔ HeldAt trace interval time (F v) (G v)
  pub kept : (v : Valuation) → BindsColumns v window.columns → (time : ℕ)
      → HasRow window v time ↔ KeptAt trace interval (F v) (G v) time

-- the slot gives, at each time from the last one on, the valuations that satisfied the operand at the last position,
-- where that time's distance is in the interval; and its rows have the last time
pub record SlotStands (trace : List Step) (interval : Interval) (g : Formula) (slot : Slot) : Type 0 where
  pub interval_is : slot.interval ≡ interval
  pub columns_are : (x : VarId) → Contains slot.columns x ↔ IsFree x g
  pub up_to : IsUpToTime (last_time trace) slot.last
  pub gives : (time : ℕ) → last_time trace ≤ time → (v : Valuation) → BindsColumns v slot.columns
      → GivesLast interval time slot.last v
      ↔ ((0 < length trace) × IsIn interval (time - last_time trace) × Sat trace (length trace - 1) v g)
  pub kept : (v : Valuation) → BindsColumns v slot.columns → (time : ℕ)
      → HasLast slot.last v time
      ↔ ((0 < length trace) × (time ≡ last_time trace) × Sat trace (length trace - 1) v g)
