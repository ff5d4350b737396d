-- That each action that is decided is justified, and each step that is inserted is needed.
use Rattle.enf_data.specs.declared.events.Event.{Event}
use Rattle.enf_data.specs.declared.steps.Step.{Step}
use Rattle.enf_data.specs.declared.terms.VarId.{VarId}
use Rattle.enf_data.specs.meaning.Data.{IsTrace}
use Rattle.enf_data.specs.meaning.Membership.{HasNoRepeats}
use Rattle.std.specs.Prelude.{ℕ, List, ◌≡◌, Bool, length}
use Rattle.enf_formula.specs.meaning.Satisfaction.{Formula}
use Rattle.trace_meaning.specs.declared.kinds.StepKind.{StepKind}
use Rattle.plan_terms.specs.meaning.Plans.{Plan}
use Rattle.plan_terms.specs.machine.WellFormed.{AreWellFormed}
use Rattle.past_state.specs.machine.Past.{Past, PastStands}
use Rattle.obligations.specs.declared.actions.Action.{Action}
use Rattle.obligations.specs.declared.instances.Instance.{Instance}
use Rattle.obligations.specs.meaning.Obligations.{IsNeeded}
use Rattle.obligations.specs.meaning.Pending.{IsReady, Pend}
use Rattle.choice_step.specs.meaning.Follows.{is_inserted, IsLeastDeadline}
use Rattle.choice_step.specs.meaning.Choice.{Decides}
use Rattle.choice_step.specs.meaning.ActedSteps.{AreJustified}

-- the actions that are decided after a trace that is ready for the step are justified
abbrev pub DecidedAreJustified : Type 0
DecidedAreJustified = (guards : List (Formula × List VarId)) (plans : List Plan) (trace : List Step) (kind : StepKind)
    (time : ℕ) (pending : List Instance) (before : List Event) (actions : List Action) (after : List Event)
    → AreWellFormed plans guards → IsTrace trace → IsReady plans trace time → Pend plans trace pending
    → HasNoRepeats before → Decides plans trace pending (is_inserted kind) time before actions after
    → AreJustified plans trace kind time before actions

-- for each trace of so many steps that is ready for the time of a step, for which the past state stands and after
-- which this is pending, the actions at the step are justified, by plans that are well-formed
abbrev pub WillBeJustified : List Plan → List Instance → Past → (inserted : Bool) → (time position : ℕ)
    → (before : List Event) → List Action → Type 0
WillBeJustified plans pending past inserted time position before actions = (guards : List (Formula × List VarId))
    (trace : List Step) (kind : StepKind) → AreWellFormed plans guards → IsTrace trace → PastStands trace past
    → length trace ≡ position → IsReady plans trace time → Pend plans trace pending
    → is_inserted kind ≡ inserted
    → AreJustified plans trace kind time before actions

-- a step that is inserted at the least deadline of what is pending is needed
abbrev pub LeastDeadlineIsNeeded : Type 0
LeastDeadlineIsNeeded = (guards : List (Formula × List VarId)) (plans : List Plan) (trace : List Step) (time : ℕ)
    (pending : List Instance) → AreWellFormed plans guards → IsTrace trace → IsReady plans trace time
    → Pend plans trace pending → IsLeastDeadline plans pending time → IsNeeded plans trace time
