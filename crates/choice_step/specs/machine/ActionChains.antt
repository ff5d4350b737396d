-- Actions that lead from the events of a step to others, whatever it is that they serve.
use Rattle.enf_data.specs.declared.events.Event.{Event}
use Rattle.enf_data.specs.declared.events.NameId.{NameId}
use Rattle.enf_data.specs.declared.steps.Step.{Step}
use Rattle.enf_data.specs.meaning.Membership.{TakesOut}
use Rattle.std.specs.Prelude.{◌≡◌, ℕ, List, Contains, ◌++◌, ◌≤◌, Bool, length, []}
use Rattle.std.specs.Prelude.{◌∷◌}
use Rattle.trace_meaning.specs.meaning.Traces.{last_time}
use Rattle.plan_terms.specs.meaning.Plans.{IsCaused, IsSuppressed, Plan}
use Rattle.past_state.specs.machine.Past.{Past, PastStands}
use Rattle.obligations.specs.declared.actions.Action.{Action}
use Rattle.obligations.specs.declared.instances.Instance.{Instance}
use Rattle.obligations.specs.declared.literals.LiteralKind.{LiteralKind}
use Rattle.obligations.specs.declared.literals.LiteralKind.TheVariants.{Cause, Suppress}
use Rattle.choice_step.specs.meaning.Choice.{Decides}

-- for each trace of so many steps for which the past state stands, and whose last time is not later, the choice loop
-- leads from the one list of events by the actions to the other
abbrev pub WillDecide : List Plan → List Instance → Past → (inserted : Bool) → (time position : ℕ)
    → (before : List Event) → List Action → (after : List Event) → Type 0
WillDecide plans pending past inserted time position before actions after = (trace : List Step)
    → PastStands trace past → length trace ≡ position → last_time trace ≤ time
    → Decides plans trace pending inserted time before actions after

-- some plan causes the name, or suppresses it
abbrev pub HasActionRole : List Plan → LiteralKind → NameId → Type 0
HasActionRole plans Cause name = IsCaused plans name
HasActionRole plans Suppress name = IsSuppressed plans name

-- an event that is caused was absent and goes last; one that is suppressed is taken out, and the rest keeps its order
abbrev pub Acts : List Plan → LiteralKind → Event → (before after : List Event) → Type 0
Acts plans Cause event before after =
    HasActionRole plans Cause event.name × (Contains before event → ⊥) × (after ≡ before ++ event ∷ [])
Acts plans Suppress event before after = HasActionRole plans Suppress event.name × TakesOut event before after

-- the actions, one after another, lead from the one list of events to the other, whatever it is that they serve
abbrev pub ActsFrom : List Plan → (before : List Event) → List Action → (after : List Event) → Type 0
ActsFrom plans before [] after = after ≡ before
ActsFrom plans before (action ∷ actions) after =
    (between : List Event) × Acts plans action.kind action.event before between
    × ActsFrom plans between actions after
