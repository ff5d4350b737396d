-- Traces: satisfaction and continuations, the records of a log, the steps that are emitted, and lawful change.
use Rattle.enf_data.specs.declared.steps.Step.{Step}
use Rattle.enf_data.specs.meaning.Data.{IsTrace}
use Rattle.enf_data.specs.meaning.Valuations.{no_values}
use Rattle.std.specs.Prelude.{ℕ, List, [], ◌∷◌, ◌≡◌, ◌≤◌, ◌++◌, All, ◌<◌, length, map, Bool, IsTrue, Contains}
use Rattle.enf_formula.specs.meaning.Satisfaction.{Formula, Sat}
use Rattle.trace_meaning.specs.declared.kinds.StepKind.{StepKind}
use Rattle.trace_meaning.specs.declared.kinds.StepKind.TheVariants.{System, Inserted}
use Rattle.enf_data.specs.declared.events.Event.{Event}
use Rattle.enf_data.specs.declared.events.NameId.{NameId}
use Rattle.enf_data.specs.meaning.Membership.{TakesOut, HasNoRepeats}

-- the time of the last step, or 0
abbrev pub last_time : List Step → ℕ
last_time [] = 0
last_time (step ∷ []) = step.time
last_time (step ∷ next ∷ trace) = last_time (next ∷ trace)

-- a trace that begins with another, and has no time below the clock after it
pub record Continuation (trace : List Step) (clock : ℕ) (longer : List Step) : Type 0 where
  pub more : List Step
  pub begins : longer ≡ trace ++ more
  pub later : All (λ step. clock ≤ step.time) more
  pub is_trace : IsTrace longer

-- each rule holds at each position, under the valuation that binds nothing
abbrev pub Satisfies : List Step → List Formula → Type 0
Satisfies trace policy = All (λ rule. (i : ℕ) → i < length trace → Sat trace i no_values rule) policy

-- some continuation from the clock on satisfies the policy
abbrev pub Good : List Formula → List Step → ℕ → Type 0
Good policy trace clock = (longer : List Step) × Continuation trace clock longer × Satisfies longer policy

-- ---- What a log has: records, at times that never fall from a clock.

-- a step record, its repeats left out, or a tick, which says that all times below its own are over
pub data Record : Type 0 where
  StepRecord : (step : Step) → Record
  Tick : (time : ℕ) → Record

-- the greatest time of a step that is read; that of a tick is a system step's
abbrev pub most_time : StepKind → ℕ
most_time System = 1000000000000000
most_time Inserted = 2000000000000000

abbrev pub time_of : Record → ℕ
time_of (StepRecord step) = step.time
time_of (Tick time) = time

-- the steps of the step records, in order
abbrev pub recorded : List Record → List Step
recorded [] = []
recorded (StepRecord step ∷ records) = step ∷ recorded records
recorded (Tick time ∷ records) = recorded records

-- the time of the first record is not below the clock, and that of each other is not below the one before it
abbrev pub NeverFall : ℕ → List Record → Type 0
NeverFall clock [] = Unit {0}
NeverFall clock (next ∷ records) = (clock ≤ time_of next) × NeverFall (time_of next) records

-- the clock after the records: the time of the last one, or the clock before them
abbrev pub clock_after : ℕ → List Record → ℕ
clock_after clock [] = clock
clock_after clock (next ∷ records) = clock_after (time_of next) records

-- ---- Steps that are emitted: those of the system and inserted ones, each with its changes; and from where a log is
-- enforced.

-- an event that was added, or one that was taken out
pub data Change : Type 0 where
  Cause : (event : Event) → Change
  Suppress : (event : Event) → Change

pub record OutStep : Type 0 where
  pub kind : StepKind
  pub step : Step
  pub changes : List Change

abbrev pub event_of : Change → Event
event_of (Cause event) = event
event_of (Suppress event) = event

-- the trace of what is emitted
abbrev pub trace_of : List OutStep → List Step
trace_of out = map (λ o. o.step) out

-- a step before others, where it is the system's
abbrev pub onto_system : StepKind → OutStep → List OutStep → List OutStep
onto_system System o out = o ∷ out
onto_system Inserted o out = out

-- the system steps that are emitted, in order
abbrev pub system_steps : List OutStep → List OutStep
system_steps [] = []
system_steps (o ∷ out) = onto_system o.kind o (system_steps out)

-- a system step at a time up to the end, an inserted one at a time below it
abbrev pub IsUntil : ℕ → StepKind → ℕ → Type 0
IsUntil end System time = time ≤ end
IsUntil end Inserted time = time < end

-- steps that are emitted while the clock goes from a time to another
pub record IsWithin (start end : ℕ) (out : List OutStep) : Type 0 where
  pub from : All (λ o. start ≤ o.step.time) out
  pub until : All (λ o. IsUntil end o.kind o.step.time) out

-- from where a log is enforced: the trace that was emitted before, and the clock, below which all times are over
pub record Start : Type 0 where
  pub trace : List Step
  pub clock : ℕ

abbrev pub from_nothing : Start
from_nothing = record { trace = []; clock = 0 }

-- from where more is enforced, after these records and what was emitted for them
abbrev pub start_behind : Start → List Record → List OutStep → Start
start_behind start records out = record { trace = start.trace ++ trace_of out; clock = clock_after start.clock records }

-- ---- Lawful change: what an enforcer may do to the records of a log.

-- a cause adds an event of a causable name that was absent, at the end;
-- a suppress takes out an event of a suppressible name that was present, and the rest keeps its order
abbrev pub Changes : (NameId → Bool) → (NameId → Bool) → Change → List Event → List Event → Type 0
Changes causable suppressible (Cause event) before after =
    IsTrue (causable event.name) × (Contains before event → ⊥) × (after ≡ before ++ event ∷ [])
Changes causable suppressible (Suppress event) before after =
    IsTrue (suppressible event.name) × TakesOut event before after

-- the changes, one after another, lead from the one list of events to the other
abbrev pub Leads : (NameId → Bool) → (NameId → Bool) → List Change → List Event → List Event → Type 0
Leads causable suppressible [] before after = after ≡ before
Leads causable suppressible (change ∷ changes) before after =
    (between : List Event) × Changes causable suppressible change before between
    × Leads causable suppressible changes between after

abbrev pub IsCause : Change → Type 0
IsCause (Cause event) = Unit {0}
IsCause (Suppress event) = ⊥

-- a record's step is emitted at its time, with its events after the changes
pub record IsChangedTo (causable suppressible : NameId → Bool) (before : Step) (out : OutStep) : Type 0 where
  pub same_time : out.step.time ≡ before.time
  pub changed : Leads causable suppressible out.changes before.events out.step.events

-- each step of the log was changed to the emitted step in its place, and none is left over on either side
abbrev pub AreChangedTo : (NameId → Bool) → (NameId → Bool) → List Step → List OutStep → Type 0
AreChangedTo causable suppressible [] [] = Unit {0}
AreChangedTo causable suppressible (s ∷ steps) (o ∷ out) =
    IsChangedTo causable suppressible s o × AreChangedTo causable suppressible steps out
AreChangedTo causable suppressible steps out = ⊥

-- an inserted step has the events that its causes add to none; a step of the system is not asked about
abbrev pub IsInsertedLawfully : (NameId → Bool) → (NameId → Bool) → OutStep → StepKind → Type 0
IsInsertedLawfully causable suppressible out System = Unit {0}
IsInsertedLawfully causable suppressible out Inserted =
    Leads causable suppressible out.changes [] out.step.events × All IsCause out.changes

-- a later step has no smaller time, and a system step after an inserted one a greater time
abbrev pub IsLaterThan : StepKind → StepKind → ℕ → ℕ → Type 0
IsLaterThan Inserted System before now = before < now
IsLaterThan kind next before now = before ≤ now

-- of each two steps that are emitted, the later one is later by this order
abbrev pub AreInOrder : List OutStep → Type 0
AreInOrder [] = Unit {0}
AreInOrder (o ∷ out) = All (λ p. IsLaterThan o.kind p.kind o.step.time p.step.time) out × AreInOrder out

-- the steps that are emitted are a lawful change of the records
pub record Lawful (causable suppressible : NameId → Bool) (records : List Record) (out : List OutStep) : Type 0 where
  pub changed : AreChangedTo causable suppressible (recorded records) (system_steps out)
  pub inserted : All (λ o. IsInsertedLawfully causable suppressible o o.kind) out
  pub once : All (λ o. HasNoRepeats (map event_of o.changes)) out
  pub in_order : AreInOrder out
