-- What the choice loop does for what was found, whatever trace the step stands for.
use Rattle.enf_data.specs.declared.events.Event.{Event}
use Rattle.std.specs.List.{AllByRecursion}
use Rattle.std.specs.Prelude.{◌≡◌, ℕ, Bool, List, [], ◌∷◌, Some, ◌++◌, map}
use Rattle.plan_terms.specs.meaning.Plans.{Plan}
use Rattle.past_state.specs.machine.GuardPlaces.{placed_guard}
use Rattle.past_state.specs.machine.Past.{Past}
use Rattle.obligations.specs.declared.actions.Action.{Action}
use Rattle.obligations.specs.declared.instances.Instance.{Instance}
use Rattle.obligations.specs.machine.AskablePlans.{CanAskOf, CanAskRoots}
use Rattle.choice_step.specs.machine.FirstActions.{WillFind}
use Rattle.choice_step.specs.machine.WantedActions.{IsWantedFrom}
use Rattle.choice_step.specs.meaning.ActedSteps.{Applies}

-- actions lead from the events of a step to others, each for the first that misses something
abbrev pub ActsInTurn : List Plan → List Instance → Past → (inserted : Bool) → (time position : ℕ)
    → (given before : List Event) → List Action → (after : List Event) → Type 0
ActsInTurn plans pending past inserted time position given before [] after = after ≡ before
ActsInTurn plans pending past inserted time position given before (action ∷ actions) after =
    (between : List Event) × WillFind plans pending past inserted time position before (Some action)
    × IsWantedFrom plans pending past given before action
    × Applies action.kind action.event before between
    × ActsInTurn plans pending past inserted time position given between actions after

-- actions come after others, and lead from the events of a step to others
abbrev pub GoesFrom : List Plan → List Instance → Past → (inserted : Bool) → (time position : ℕ)
    → (given before : List Event) → List Action → (after : List Event) → List Action → Type 0
GoesFrom plans pending past inserted time position given before actions after all = (more : List Action)
    × (all ≡ actions ++ more) × ActsInTurn plans pending past inserted time position given before more after

-- what there was to ask can be asked
pub record AllCanBeAsked (plans : List Plan) (pending : List Instance) (past : Past) : Type 0 where
  pub roots : CanAskRoots (map placed_guard past.guards) plans
  pub instances : AllByRecursion (CanAskOf (map placed_guard past.guards) plans) pending
