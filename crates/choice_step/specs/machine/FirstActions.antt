-- The action for the first that misses something at a step.
use Rattle.enf_data.specs.declared.events.Event.{Event}
use Rattle.enf_data.specs.declared.steps.Step.{Step}
use Rattle.std.specs.List.{AllByRecursion}
use Rattle.std.specs.Prelude.{List, ℕ, Option, None, Some, ◌≡◌, Bool, ◌≤◌, length}
use Rattle.trace_meaning.specs.meaning.Traces.{last_time}
use Rattle.plan_terms.specs.meaning.Plans.{Plan}
use Rattle.past_state.specs.machine.Past.{Past, PastStands}
use Rattle.obligations.specs.declared.actions.Action.{Action}
use Rattle.obligations.specs.declared.instances.Instance.{Instance}
use Rattle.obligations.specs.declared.literals.Literal.{Literal}
use Rattle.choice_step.specs.meaning.Choice.{Candidate, IsFirstMissing}
use Rattle.choice_step.specs.meaning.Choice.{MissesNothing, action_for, all_asked, trace_with_step}

-- the action for the first of those that are asked at the last position of a trace, and none where none misses anything
abbrev pub IsActionFor : List Plan → (inserted : Bool) → List Step → List Candidate → Option Action → Type 0
IsActionFor plans inserted trace all None = AllByRecursion (MissesNothing plans inserted trace) all
IsActionFor plans inserted trace all (Some action) = (asked : Candidate) × (literal : Literal)
    × IsFirstMissing plans inserted trace all asked literal × (action ≡ action_for trace asked literal)

-- the action for the first candidate that misses something, after each trace of so many steps for which the past
-- state stands, at a step with these events at a time that is not earlier than its last one
abbrev pub WillFind : List Plan → List Instance → Past → (inserted : Bool)
    → (time position : ℕ) → List Event
    → Option Action → Type 0
WillFind plans pending past inserted time position events found = (trace : List Step) → PastStands trace past
    → length trace ≡ position → last_time trace ≤ time
    → IsActionFor plans inserted (trace_with_step trace time events) (all_asked plans pending) found
