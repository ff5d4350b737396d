-- Operators that are asked at a step, each by its number.
use Rattle.std.specs.Prelude.{ℕ, Option, None, Some, List, All, slice_get, [], map, reverse}
use Rattle.valuations.specs.machine.Tables.{Relation}
use Rattle.windows.specs.machine.Slots.{LastHasColumns}
use Rattle.past_state.specs.declared.memories.Memory.{Memory}
use Rattle.past_state.specs.declared.memories.StepTables.{StepTables}
use Rattle.past_state.specs.declared.operators.OperatorState.{OperatorState}
use Rattle.past_state.specs.machine.Memories.{FitMemory, IsUpToTimeOf, memory_given}
use Rattle.past_state.specs.declared.memories.Memory.TheVariants as memories

-- the rows of the last step have the columns of what is kept
abbrev pub LastFits : Memory → Type 0
LastFits (memories.Prev slot operand) = LastHasColumns slot.columns slot.last
LastFits (memories.Once window right) = Unit {0}
LastFits (memories.Since window left left_tables right) = Unit {0}

-- an operator can be asked at a step at this time that brings these tables
pub record CanAnswer (m : Memory) (time : ℕ) (t : StepTables) : Type 0 where
  pub fits : FitMemory m t
  pub up_to : IsUpToTimeOf time m
  pub last : LastFits m

-- an operator can be asked at a step that brings these tables, where the operator and the tables are there
abbrev pub CanAnswerAt : ℕ → Option OperatorState → Option StepTables → Type 0
CanAnswerAt time None t = ⊥
CanAnswerAt time (Some o) None = ⊥
CanAnswerAt time (Some o) (Some t) = CanAnswer o.memory time t

-- each of the operators with these numbers can be asked at the step
abbrev pub CanAskEach : List OperatorState → List StepTables → ℕ → List ℕ → Type 0
CanAskEach operators steps time places =
    All (λ place. CanAnswerAt time (slice_get operators place) (slice_get steps place)) places

-- the table that an operator gives at the step, and none where it is not there
abbrev pub table_of_step : ℕ → Option OperatorState → Option StepTables → Relation
table_of_step time None t = record { columns = []; rows = [] }
table_of_step time (Some o) None = record { columns = []; rows = [] }
table_of_step time (Some o) (Some t) = memory_given o.memory time t

abbrev pub table_at : List OperatorState → List StepTables → ℕ → ℕ → Relation
table_at operators steps time place = table_of_step time (slice_get operators place) (slice_get steps place)

-- the tables of those that are asked, the last of these numbers first
abbrev pub tables_at : List OperatorState → List StepTables → ℕ → List ℕ → List Relation
tables_at operators steps time places = reverse (map (table_at operators steps time) places)
