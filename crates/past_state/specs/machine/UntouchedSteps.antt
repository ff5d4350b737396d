-- Steps that bring nothing that is remembered of the past, and take nothing away: what they could bring or take needs
-- events that they have not.
use Rattle.enf_data.specs.declared.events.Event.{Event}
use Rattle.enf_data.specs.declared.steps.Step.{Step}
use Rattle.enf_data.specs.declared.terms.VarId.{VarId}
use Rattle.std.specs.Prelude.{All, List, [], ℕ, ◌≤◌, ◌∷◌, ◌++◌, map}
use Rattle.enf_formula.specs.machine.FormulaViews.{tree_of}
use Rattle.windows.specs.machine.Slots.{IsBareSlot}
use Rattle.monitorable_guard.specs.machine.NeededEvents.{HoldsForNone}
use Rattle.trace_meaning.specs.meaning.Traces.{last_time}
use Rattle.past_state.specs.declared.left_sides.Left.{Left}
use Rattle.past_state.specs.declared.memories.Memory.{Memory}
use Rattle.past_state.specs.declared.memories.StepTables.{StepTables}
use Rattle.past_state.specs.declared.operators.OperatorState.{OperatorState}
use Rattle.past_state.specs.machine.Memories.{columns_of}
use Rattle.past_state.specs.machine.Newcomers.{guard_in}
use Rattle.past_state.specs.machine.Past.{Past, PastStands}
use Rattle.past_state.specs.declared.left_sides.Left.TheVariants as side
use Rattle.past_state.specs.declared.memories.Memory.TheVariants as memories
use Rattle.past_state.specs.declared.survivors.Survivors.TheVariants as told

-- all rows survive: the left side is true, or fails by events that are not there
abbrev pub KeepsAllRows : List Event → Left → Type 0
KeepsAllRows events side.All = Unit {0}
KeepsAllRows events (side.Denied guard) = HoldsForNone events (tree_of guard.formula)
KeepsAllRows events (side.ByRow guard) = ⊥

-- no row is right, and all that are kept survive; a slot had no rows before
abbrev pub IsUntouched : List Event → Memory → Type 0
IsUntouched events (memories.Prev slot operand) =
    IsBareSlot slot × HoldsForNone events (tree_of (guard_in operand).formula)
IsUntouched events (memories.Once window right) = HoldsForNone events (tree_of right.formula)
IsUntouched events (memories.Since window left left_tables right) =
    HoldsForNone events (tree_of right.formula) × KeepsAllRows events left

-- so it is with each operator
abbrev pub AreUntouched : List Event → List OperatorState → Type 0
AreUntouched events operators = All (λ o. IsUntouched events o.memory) operators

-- what such a step brings to an operator of these columns, and to each of some
abbrev pub nothing_brought : List VarId → StepTables
nothing_brought columns = record { surviving = told.All; right = record { columns = columns; rows = [] } }

abbrev pub idle_tables : List OperatorState → List StepTables
idle_tables operators = map (λ o. nothing_brought (columns_of o.memory)) operators

-- for each trace for which the past stands, and such a step at this time that is not earlier
abbrev pub PassedWillStand : Past → ℕ → Past → Type 0
PassedWillStand past time after = (events : List Event) → AreUntouched events past.operators → (trace : List Step)
    → last_time trace ≤ time → PastStands trace past
    → PastStands (trace ++ record { time = time; events = events } ∷ []) after
