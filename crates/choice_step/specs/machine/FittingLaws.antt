-- That the events pass a test that are emitted by plans which keep to it.
use Rattle.enf_data.specs.declared.events.Event.{Event}
use Rattle.enf_data.specs.declared.steps.Step.{Step}
use Rattle.enf_data.specs.declared.terms.VarId.{VarId}
use Rattle.enf_data.specs.declared.values.Value.{Value}
use Rattle.std.specs.Prelude.{ℕ, Bool, List, ◌++◌}
use Rattle.enf_formula.specs.meaning.Satisfaction.{Formula}
use Rattle.trace_meaning.specs.meaning.Traces.{Record, recorded}
use Rattle.plan_terms.specs.meaning.Plans.{Plan}
use Rattle.plan_terms.specs.machine.WellFormed.{AreWellFormed}
use Rattle.obligations.specs.declared.actions.Action.{Action}
use Rattle.obligations.specs.declared.instances.Instance.{Instance}
use Rattle.obligations.specs.meaning.Pending.{Pend}
use Rattle.choice_step.specs.machine.FittingEvents.{EventsFit, TraceEventsFit, KeepFitting}
use Rattle.choice_step.specs.meaning.ActedSteps.{ActedStep}
use Rattle.choice_step.specs.meaning.Follows.{steps_of, Follows, FollowsDrain}
use Rattle.choice_step.specs.meaning.Choice.{Decides}

-- where plans keep to a test, the events of a step as it is decided pass it, if those from which it began do
abbrev pub DecidedFits : Type 0
DecidedFits = (guards : List (Formula × List VarId)) (plans : List Plan) (trace : List Step) (pending : List Instance)
    (inserted : Bool) (time : ℕ) (before : List Event) (actions : List Action) (after : List Event)
    (fits : Event → Bool) (right : (rule : ℕ) → VarId → Value → Bool) → AreWellFormed plans guards
    → KeepFitting plans fits right → TraceEventsFit fits trace → Pend plans trace pending
    → EventsFit fits before
    → Decides plans trace pending inserted time before actions after → EventsFit fits after

-- where plans keep to a test, the events of all that is emitted for the records of a log, and at its end, pass it
abbrev pub FollowedFits : Type 0
FollowedFits = (guards : List (Formula × List VarId)) (plans : List Plan) (trace : List Step) (records : List Record)
    (out : List ActedStep) (fits : Event → Bool) (right : (rule : ℕ) → VarId → Value → Bool)
    → AreWellFormed plans guards → KeepFitting plans fits right → TraceEventsFit fits trace
    → TraceEventsFit fits (recorded records) → Follows plans trace records out
    → TraceEventsFit fits (trace ++ steps_of out)

abbrev pub DrainFits : Type 0
DrainFits = (guards : List (Formula × List VarId)) (plans : List Plan) (trace : List Step) (out : List ActedStep)
    (fits : Event → Bool) (right : (rule : ℕ) → VarId → Value → Bool) → AreWellFormed plans guards
    → KeepFitting plans fits right → TraceEventsFit fits trace → FollowsDrain plans trace out
    → TraceEventsFit fits (trace ++ steps_of out)
