-- What is emitted for the records of a log, and at its end: inserted steps at the deadlines that pass, and the steps of
-- the records, each as the choice loop decides it.
use Rattle.enf_data.specs.declared.events.Event.{Event}
use Rattle.enf_data.specs.declared.steps.Step.{Step}
use Rattle.std.specs.Prelude.{◌≡◌, ℕ, List, ◌<◌, Option, None, Some, Contains, [], ◌∷◌, ◌++◌, map, Bool, true, false}
use Rattle.trace_meaning.specs.declared.kinds.StepKind.{StepKind}
use Rattle.trace_meaning.specs.declared.kinds.StepKind.TheVariants.{Inserted, System}
use Rattle.trace_meaning.specs.meaning.Traces.{Record, StepRecord, Tick, time_of}
use Rattle.plan_terms.specs.meaning.Plans.{Plan}
use Rattle.obligations.specs.declared.instances.Instance.{Instance}
use Rattle.obligations.specs.meaning.Pending.{Pend, HasDeadline, NoneIsOver}
use Rattle.choice_step.specs.meaning.ActedSteps.{ActedStep}
use Rattle.choice_step.specs.meaning.Choice.{Decides}

abbrev pub steps_of : List ActedStep → List Step
steps_of out = map (λ o. o.step) out

abbrev pub is_inserted : StepKind → Bool
is_inserted Inserted = true
is_inserted System = false

-- a step of a kind at a time after a trace is emitted as the choice loop decides it, from these events
pub record GoesOut (plans : List Plan) (trace : List Step) (kind : StepKind) (time : ℕ) (events : List Event)
    (o : ActedStep) : Type 0 where
  pub pending : List Instance
  pub pend : Pend plans trace pending
  pub kind_is : o.kind ≡ kind
  pub time_is : o.step.time ≡ time
  pub decided : Decides plans trace pending (is_inserted kind) time events o.actions o.step.events

-- a deadline is passed once all up to a time is over; at a drain, which has no such time, each deadline is
abbrev pub IsPassed : (until : Option ℕ) → (deadline : ℕ) → Type 0
IsPassed None deadline = Unit {0}
IsPassed (Some time) deadline = deadline < time

-- a pending instance has this deadline, and no pending deadline is earlier
pub record IsLeastDeadline (plans : List Plan) (pending : List Instance) (deadline : ℕ) : Type 0 where
  pub instance : Instance
  pub there : Contains pending instance
  pub is : HasDeadline plans instance deadline
  pub least : NoneIsOver plans pending deadline

-- no pending deadline is passed
abbrev pub NoneIsPassed : List Plan → List Instance → (until : Option ℕ) → Type 0
NoneIsPassed plans pending until = (i : Instance) (deadline : ℕ) → Contains pending i → HasDeadline plans i deadline
    → IsPassed until deadline → ⊥

-- after a trace, at each deadline that is passed, least first, a step without events of its own is inserted, until
-- none is left; what it begins takes part
abbrev pub InsertsSteps : List Plan → List Step → (until : Option ℕ) → List ActedStep → Type 0
InsertsSteps plans trace until [] = (pending : List Instance) × Pend plans trace pending
    × NoneIsPassed plans pending until
InsertsSteps plans trace until (o ∷ out) = (deadline : ℕ)
    × ((pending : List Instance) × Pend plans trace pending × IsLeastDeadline plans pending deadline)
    × IsPassed until deadline × GoesOut plans trace Inserted deadline [] o
    × InsertsSteps plans (trace ++ o.step ∷ []) until out

-- the step of a record is emitted after a trace, and none for a tick
abbrev pub StepGoesOut : List Plan → List Step → Record → List ActedStep → Type 0
StepGoesOut plans trace (StepRecord step) out =
    (o : ActedStep) × GoesOut plans trace System step.time step.events o × (out ≡ o ∷ [])
StepGoesOut plans trace (Tick time) out = out ≡ []

-- what is emitted after a trace for the records, one after another: first what their times let pass, then their steps
abbrev pub Follows : List Plan → List Step → List Record → List ActedStep → Type 0
Follows plans trace [] out = out ≡ []
Follows plans trace (next ∷ records) out = (inserted answer rest : List ActedStep)
    × InsertsSteps plans trace (Some (time_of next)) inserted
    × StepGoesOut plans (trace ++ steps_of inserted) next answer
    × Follows plans (trace ++ steps_of (inserted ++ answer)) records rest × (out ≡ (inserted ++ answer) ++ rest)

-- what is emitted where all that is pending is served
abbrev pub FollowsDrain : List Plan → List Step → List ActedStep → Type 0
FollowsDrain plans trace out = InsertsSteps plans trace None out
