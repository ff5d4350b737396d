-- The rows that a past state stores, by windows and slots.
use Rattle.enf_data.specs.declared.steps.Step.{Step}
use Rattle.std.specs.Prelude.{Contains, ◌≡◌, List, Some, reverse, slice_get, ◌↔◌, All, length}
use Rattle.enf_formula.specs.meaning.Satisfaction.{Prev, Once, Since}
use Rattle.windows.specs.declared.kept_pairs.KeptPair.{KeptPair}
use Rattle.windows.specs.machine.Slots.{IsSlot}
use Rattle.windows.specs.machine.StoredPairs.{Stores, pairs_of_last}
use Rattle.windows.specs.machine.Windows.{KeepsLeast}
use Rattle.past_state.specs.declared.kept_rows.KeptRow.{KeptRow}
use Rattle.past_state.specs.declared.memories.Memory.{Memory}
use Rattle.past_state.specs.declared.operators.OperatorState.{OperatorState}
use Rattle.past_state.specs.machine.Past.{Past, PastStands, formulas_of_guards}
use Rattle.past_state.specs.meaning.KeptRows.{pair_of, AreKeptOf, all_operators}
use Rattle.past_state.specs.declared.memories.Memory.TheVariants as memories

-- the window or slot has the row with this time
abbrev pub StoresFor : Memory → KeptPair → Type 0
StoresFor (memories.Prev slot operand) p = Contains (pairs_of_last slot.last) p
StoresFor (memories.Once window right) p = Stores window p.row p.time
StoresFor (memories.Since window left left_tables right) p = Stores window p.row p.time

-- the window or slot of this number has it: they are numbered from the first operator in pre-order on
abbrev pub StoresAt : List OperatorState → KeptRow → Type 0
StoresAt operators r =
    (o : OperatorState) × (slice_get (reverse operators) r.window ≡ Some o) × StoresFor o.memory (pair_of r)

-- the rows are those that the past state has
abbrev pub AreStoredRows : Past → List KeptRow → Type 0
AreStoredRows past rows = (r : KeptRow) → Contains rows r ↔ StoresAt past.operators r

-- what is known of each window and slot, so that a row stands for one valuation
abbrev pub IsWhole : Memory → Type 0
IsWhole (memories.Prev slot operand) =
    IsSlot slot × All (λ p. length p.row ≡ length slot.columns) (pairs_of_last slot.last)
IsWhole (memories.Once window right) = KeepsLeast window
IsWhole (memories.Since window left left_tables right) = KeepsLeast window

abbrev pub AreRowsKept : Past → List KeptRow → Type 0
AreRowsKept past rows = (trace : List Step) → PastStands trace past
    → AreKeptOf trace (all_operators (formulas_of_guards past.guards)) rows
