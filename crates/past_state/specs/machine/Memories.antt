-- What is kept for an operator on the past, and what a step brings to it.
use Rattle.enf_data.specs.declared.events.Event.{Event}
use Rattle.enf_data.specs.declared.steps.Step.{Step}
use Rattle.enf_data.specs.declared.terms.VarId.{VarId}
use Rattle.std.specs.Prelude.{◌≡◌, [], length, List, ◌≤◌, drop, ℕ}
use Rattle.enf_formula.specs.meaning.Satisfaction.{Formula, Prev, Once, Historically, Since, IsFree, AreFreeVariables}
use Rattle.valuations.specs.machine.Tables.{Relation}
use Rattle.windows.specs.machine.AnswerTables.{window_given, given_by_slot}
use Rattle.windows.specs.machine.Slots.{LastHasColumns, IsUpToTime, Slot}
use Rattle.windows.specs.machine.Windows.{Window, IsCommittedBy, IsSameKind}
use Rattle.monitorable_guard.specs.machine.PresentMeaning.{outermost}
use Rattle.monitorable_guard.specs.meaning.Safety.{denial}
use Rattle.prev_rows.specs.machine.GrownSlots.{IsGrownBy}
use Rattle.past_state.specs.declared.memories.Memory.{Memory}
use Rattle.past_state.specs.declared.memories.StepTables.{StepTables}
use Rattle.past_state.specs.machine.Laws.{with_last, SinceStands, OnceStands}
use Rattle.past_state.specs.machine.LeftSides.{AsksLeft, CanAskLeft, AreSurvivors}
use Rattle.past_state.specs.declared.prev_operands.Operand.{Operand}
use Rattle.past_state.specs.machine.Newcomers.{AsksOperand, AsksRight, guard_in}
use Rattle.past_state.specs.machine.OperandQueries.{GuardAsks, CanAskRows, AnswersRows}
use Rattle.past_state.specs.machine.OperatorMeaning.{SlotStands}
use Rattle.past_state.specs.machine.Survivors.{SurvivorsFit, survives_by, ValuationSurvives}
use Rattle.past_state.specs.declared.memories.Memory.TheVariants as memories
use Rattle.past_state.specs.declared.prev_operands.Operand.TheVariants as asked
use Rattle.past_state.specs.declared.survivors.Survivors.TheVariants as told

-- what is kept for the operator
abbrev pub IsFor : Formula → Memory → Type 0
IsFor (Prev place interval g) (memories.Prev slot operand) =
    AsksOperand g operand × AreFreeVariables g slot.columns × (slot.interval ≡ interval)
    × LastHasColumns slot.columns slot.last
IsFor (Once place interval g) (memories.Once window right) =
    AsksRight interval g right × AreFreeVariables g window.columns × (window.interval ≡ interval)
IsFor (Historically place interval g) (memories.Once window right) =
    AsksRight interval (denial g) right × AreFreeVariables (denial g) window.columns × (window.interval ≡ interval)
IsFor (Since place interval g h) (memories.Since window left left_tables right) =
    GuardAsks h [] right × AreFreeVariables h window.columns × (window.interval ≡ interval)
    × AsksLeft g window.columns left × (left_tables ≡ length (outermost g))
    × ((x : VarId) → IsFree x g → IsFree x h)
IsFor f m = ⊥

-- the columns of the rows that are kept for an operator
abbrev pub columns_of : Memory → List VarId
columns_of (memories.Prev slot operand) = slot.columns
columns_of (memories.Once window right) = window.columns
columns_of (memories.Since window left left_tables right) = window.columns

-- the operands can be asked, with the tables of their outermost operators
abbrev pub CanStep : List Relation → Memory → Type 0
CanStep tables (memories.Prev slot operand) = CanAskRows (guard_in operand) slot.columns tables
CanStep tables (memories.Once window right) = CanAskRows right window.columns tables
CanStep tables (memories.Since window left left_tables right) =
    CanAskRows right window.columns (drop left_tables tables) × CanAskLeft window.columns tables left
    × (left_tables ≤ length tables)

-- what a step brings, with the tables of the outermost operators of the operands
abbrev pub AreStepTables : List Event → List Relation → Memory → StepTables → Type 0
AreStepTables events tables (memories.Prev slot operand) t =
    AnswersRows events tables (guard_in operand) slot.columns t.right
AreStepTables events tables (memories.Once window right) t =
    AnswersRows events tables right window.columns t.right × (t.surviving ≡ told.All)
AreStepTables events tables (memories.Since window left left_tables right) t =
    AnswersRows events (drop left_tables tables) right window.columns t.right
    × AreSurvivors events tables left window t.surviving

-- the tables have the columns of what is kept
abbrev pub FitMemory : Memory → StepTables → Type 0
FitMemory (memories.Prev slot operand) t = t.right.columns ≡ slot.columns
FitMemory (memories.Once window right) t =
    SurvivorsFit window.columns t.surviving × (t.right.columns ≡ window.columns)
FitMemory (memories.Since window left left_tables right) t =
    SurvivorsFit window.columns t.surviving × (t.right.columns ≡ window.columns)

-- nothing that is kept is later
abbrev pub IsUpToTimeOf : ℕ → Memory → Type 0
IsUpToTimeOf time (memories.Prev slot operand) = IsUpToTime time slot.last
IsUpToTimeOf time (memories.Once window right) = window.last ≤ time
IsUpToTimeOf time (memories.Since window left left_tables right) = window.last ≤ time

-- the table that it gives at the step
abbrev pub memory_given : Memory → ℕ → StepTables → Relation
memory_given (memories.Prev slot operand) time t = given_by_slot slot time
memory_given (memories.Once window right) time t = window_given window time (survives_by t.surviving) t.right
memory_given (memories.Since window left left_tables right) time t = window_given window time (survives_by t.surviving)
    t.right

-- the slot after a step that brings these rows: they alone, or beside those of the step before
abbrev pub IsSlotAfter : Operand → Slot → ℕ → Relation → Slot → Type 0
IsSlotAfter (asked.Whole guard) slot time right after = after ≡ with_last slot time right
IsSlotAfter (asked.Growing guard) slot time right after = IsGrownBy slot time right after

-- what is kept after the step is committed: the slot or the window with it, and the same guards
abbrev pub IsCommittedTo : Memory → ℕ → StepTables → Memory → Type 0
IsCommittedTo (memories.Prev slot operand) time t m =
    (after : Slot) × IsSlotAfter operand slot time t.right after × (m ≡ memories.Prev after operand)
IsCommittedTo (memories.Once window right) time t m =
    (after : Window) × IsCommittedBy window time (ValuationSurvives t.surviving) t.right after
    × (m ≡ memories.Once after right)
IsCommittedTo (memories.Since window left left_tables right) time t m =
    (after : Window) × IsCommittedBy window time (ValuationSurvives t.surviving) t.right after
    × (m ≡ memories.Since after left left_tables right)

-- the guards stay, and the columns and the interval of what is kept
abbrev pub IsSameMemory : Memory → Memory → Type 0
IsSameMemory (memories.Prev slot operand) m = (after : Slot) × (after.interval ≡ slot.interval)
    × (after.columns ≡ slot.columns)
    × (LastHasColumns slot.columns slot.last → LastHasColumns slot.columns after.last)
    × (m ≡ memories.Prev after operand)
IsSameMemory (memories.Once window right) m =
    (after : Window) × IsSameKind window after × (m ≡ memories.Once after right)
IsSameMemory (memories.Since window left left_tables right) m =
    (after : Window) × IsSameKind window after × (m ≡ memories.Since after left left_tables right)

-- what is kept stands for the trace
abbrev pub MemoryStands : List Step → Formula → Memory → Type 0
MemoryStands trace (Prev place interval g) (memories.Prev slot operand) = SlotStands trace interval g slot
MemoryStands trace (Once place interval g) (memories.Once window right) = OnceStands trace interval g window
MemoryStands trace (Historically place interval g) (memories.Once window right) =
    OnceStands trace interval (denial g) window
MemoryStands trace (Since place interval g h) (memories.Since window left left_tables right) =
    SinceStands trace interval g h window
MemoryStands trace f m = ⊥
