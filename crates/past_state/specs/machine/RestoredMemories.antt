-- Windows and slots that are made again of rows.
use Rattle.std.specs.Prelude.{◌≡◌, ℕ, List, All, Option, length, ◌↔◌, Contains, Some, Vec, slice_get}
use Rattle.std.specs.Prelude.{◌+◌, [], ◌∷◌, reverse}
use Rattle.std.specs.declared.alloc.Global.{Global}
use Rattle.enf_formula.specs.meaning.Satisfaction.{Formula}
use Rattle.windows.specs.declared.kept_pairs.KeptPair.{KeptPair}
use Rattle.windows.specs.machine.Slots.{Slot, IsSlot}
use Rattle.windows.specs.machine.StoredPairs.{AreKeepable, AreOfLast, AreRising, pairs_of_last, last_step_time}
use Rattle.windows.specs.machine.StoredPairs.{ArePairsOf}
use Rattle.windows.specs.machine.Windows.{Window, KeepsLeast}
use Rattle.past_state.specs.declared.kept_rows.KeptRow.{KeptRow}
use Rattle.past_state.specs.declared.memories.Memory.{Memory}
use Rattle.past_state.specs.declared.operators.OperatorState.{OperatorState}
use Rattle.past_state.specs.machine.Memories.{IsSameMemory}
use Rattle.past_state.specs.machine.MemoryTimes.{last_or_zero, IsAtLast}
use Rattle.past_state.specs.machine.OperatorRuns.{AreFor}
use Rattle.past_state.specs.machine.StoredRows.{IsWhole, StoresFor}
use Rattle.past_state.specs.meaning.KeptRows.{AreRowsRising}
use Rattle.past_state.specs.meaning.RowBounds.{kept_row, AreWithinBounds}
use Rattle.past_state.specs.declared.memories.Memory.TheVariants as memories

-- the pairs can be kept for the operator at the last time
abbrev pub AreKeepableFor : Memory → Option ℕ → List KeptPair → Type 0
AreKeepableFor (memories.Prev slot operand) last pairs =
    All (λ p. length p.row ≡ length slot.columns) pairs × AreOfLast last pairs
AreKeepableFor (memories.Once window right) last pairs = AreKeepable window.interval window.columns (last_or_zero last)
    pairs
AreKeepableFor (memories.Since window left left_tables right) last pairs =
    AreKeepable window.interval window.columns (last_or_zero last) pairs

-- what keeps just these pairs in the place of what was kept
pub record IsRestored (m : Memory) (last : Option ℕ) (pairs : List KeptPair) (after : Memory) : Type 0 where
  pub same : IsSameMemory m after
  pub whole : IsWhole after
  pub last_is : IsAtLast last after
  pub stores : (p : KeptPair) → StoresFor after p ↔ Contains pairs p

-- the pairs of the window of this number
pub record ArePairsIn (rows : List KeptRow) (window : ℕ) (pairs : List KeptPair) : Type 0 where
  pub exact : (p : KeptPair) → Contains pairs p ↔ Contains rows (kept_row window p)
  pub rising : AreRowsRising rows → AreRising pairs

-- the pairs of each window
abbrev pub AreByWindow : List KeptRow → ℕ → List (Vec KeptPair Global) → Type 0
AreByWindow rows count lists = (length lists ≡ count)
    × ((window : ℕ) (pairs : Vec KeptPair Global) → slice_get lists window ≡ Some pairs
    → ArePairsIn rows window pairs.items)

pub record IsRestoredSlot (slot : Slot) (last : Option ℕ) (pairs : List KeptPair) (after : Slot) : Type 0 where
  pub interval_is : after.interval ≡ slot.interval
  pub columns_are : after.columns ≡ slot.columns
  pub last_is : last_step_time after.last ≡ last
  pub is_slot : IsSlot after
  pub stores : (p : KeptPair) → Contains (pairs_of_last after.last) p ↔ Contains pairs p

pub record IsRestoredWindow (window : Window) (last : Option ℕ) (pairs : List KeptPair)
    (after : Window) : Type 0 where
  pub interval_is : after.interval ≡ window.interval
  pub columns_are : after.columns ≡ window.columns
  pub last_is : after.last ≡ last_or_zero last
  pub least : KeepsLeast after
  pub stores : ArePairsOf after pairs

-- the operator of this number keeps just the rows of its window
pub record IsOneRestored (last : Option ℕ) (rows : List KeptRow) (window : ℕ)
    (o after : OperatorState) : Type 0 where
  pub taken_is : after.taken ≡ o.taken
  pub same : IsSameMemory o.memory after.memory
  pub whole : IsWhole after.memory
  pub last_is : IsAtLast last after.memory
  pub stores : (p : KeptPair) → StoresFor after.memory p ↔ Contains rows (kept_row window p)

-- each operator keeps just the rows of its window; operators are numbered from the last one on, after which so many
-- others stand
abbrev pub AreRestored : Option ℕ → List KeptRow → ℕ → List OperatorState → List OperatorState → Type 0
AreRestored last rows behind [] [] = Unit {0}
AreRestored last rows behind [] (p ∷ after) = ⊥
AreRestored last rows behind (o ∷ operators) [] = ⊥
AreRestored last rows behind (o ∷ operators) (p ∷ after) = IsOneRestored last rows (length operators + behind) o p
    × AreRestored last rows behind operators after

-- the operators are of some formulas for which the rows can be kept
pub record CanRestore (operators : List OperatorState) (last : Option ℕ) (rows : List KeptRow) : Type 0 where
  pub formulas : List Formula
  pub are_for : AreFor (reverse formulas) operators
  pub bounds : AreWithinBounds formulas last rows
