-- Steps that are emitted with the actions that made them, and what it means that these are justified.
use Rattle.enf_data.specs.declared.events.Event.{Event}
use Rattle.enf_data.specs.declared.steps.Step.{Step}
use Rattle.enf_data.specs.meaning.Membership.{TakesOut}
use Rattle.std.specs.Prelude.{◌≡◌, List, [], ◌∷◌, ◌++◌, map, ℕ}
use Rattle.trace_meaning.specs.declared.kinds.StepKind.{StepKind}
use Rattle.trace_meaning.specs.declared.kinds.StepKind.TheVariants.{System, Inserted}
use Rattle.trace_meaning.specs.meaning.Traces.{Change, OutStep}
use Rattle.obligations.specs.declared.actions.Action.{Action}
use Rattle.obligations.specs.declared.literals.LiteralKind.{LiteralKind}
use Rattle.obligations.specs.declared.literals.LiteralKind.TheVariants.{Cause, Suppress}
use Rattle.plan_terms.specs.meaning.Plans.{Plan}
use Rattle.obligations.specs.meaning.Obligations.{IsJustified, IsNeeded}
use Rattle.trace_meaning.specs.meaning.Traces as out

-- an event that is caused goes last; one that is suppressed is taken out, and the rest keeps its order
abbrev pub Applies : LiteralKind → Event → List Event → List Event → Type 0
Applies Cause event before after = after ≡ before ++ event ∷ []
Applies Suppress event before after = TakesOut event before after

-- a step that is emitted, with the actions that made it
pub record ActedStep : Type 0 where
  pub kind : StepKind
  pub step : Step
  pub actions : List Action

-- the change that an action makes
abbrev pub change_by : LiteralKind → Event → Change
change_by Cause event = out.Cause event
change_by Suppress event = out.Suppress event

abbrev pub change_of : Action → Change
change_of action = change_by action.kind action.event

-- a step that is emitted with its actions, as one that is emitted with the changes that these make
abbrev pub out_step : ActedStep → out.OutStep
out_step o = record { kind = o.kind; step = o.step; changes = map change_of o.actions }

-- steps that are emitted with their actions, as steps that are emitted with the changes that these make
abbrev pub out_steps : List ActedStep → List OutStep
out_steps out = map out_step out

-- a step of the system that is emitted as it came, with no action
abbrev pub as_it_came : Step → ActedStep
as_it_came step = record { kind = System; step = step; actions = [] }

abbrev pub untouched : List Step → List ActedStep
untouched steps = map as_it_came steps

-- ---- What it means that each action of a step is justified, and that each step that is inserted is needed.

-- from some events of a step of a kind after a trace on, each of the actions is justified at the step as it stood
-- before it
abbrev pub AreJustified : List Plan → List Step → StepKind → (time : ℕ) → (before : List Event) → List Action → Type 0
AreJustified plans trace kind time before [] = Unit {0}
AreJustified plans trace kind time before (action ∷ actions) =
    IsJustified plans trace kind (record { time = time; events = before }) action
    × ((between : List Event) × Applies action.kind action.event before between
    × AreJustified plans trace kind time between actions)

-- a step that is emitted after a trace is justified, where these steps of the system are still to be answered, and
-- the property holds of those that are left after it: an inserted step begins without events and is needed, and one
-- of the system begins as the first of those to be answered
abbrev pub StepIsJustified : List Plan → List Step → StepKind → (given : List Step) → ActedStep
    → (Then : List Step → Type 0) → Type 0
StepIsJustified plans trace Inserted given o Then =
    IsNeeded plans trace o.step.time × AreJustified plans trace Inserted o.step.time [] o.actions × Then given
StepIsJustified plans trace System [] o Then = ⊥
StepIsJustified plans trace System (step ∷ given) o Then =
    AreJustified plans trace System step.time step.events o.actions × Then given

-- the steps that are emitted after a trace for these steps of the system are justified, one after another, and answer
-- all of them
abbrev pub AllAreJustified : List Plan → List Step → (given : List Step) → List ActedStep → Type 0
AllAreJustified plans trace given [] = given ≡ []
AllAreJustified plans trace given (o ∷ out) =
    StepIsJustified plans trace o.kind given o (λ rest. AllAreJustified plans (trace ++ o.step ∷ []) rest out)
