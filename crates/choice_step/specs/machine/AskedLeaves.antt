-- Leaves that are asked for at a step, and the actions for them.
use Rattle.enf_data.specs.declared.events.Event.{Event}
use Rattle.std.specs.Prelude.{List, ◌++◌, map, Contains, ◌≡◌, Some, ◌⊎◌}
use Rattle.plan_terms.specs.meaning.Plans.{Plan}
use Rattle.obligations.specs.declared.actions.Action.{Action}
use Rattle.obligations.specs.declared.instances.Instance.{Instance}
use Rattle.obligations.specs.machine.Leaves.{IsLeaf}
use Rattle.obligations.specs.machine.Parts.{HasPart}
use Rattle.obligations.specs.machine.TriggeredNodes.{IsReachedBy}
use Rattle.obligations.specs.meaning.Pending.{node_of}

-- the events of a step, and those of the actions at it
abbrev pub all_events : List Event → List Action → List Event
all_events given actions = given ++ map (λ action. action.event) actions

-- the leaf is reached at a step with these events from the root of a rule
pub record IsRootLeaf (plans : List Plan) (events : List Event) (leaf : Plan) : Type 0 where
  pub plan : Plan
  pub among : Contains plans plan
  pub reached : IsReachedBy events plan leaf

-- the leaf is reached at a step with these events from a part of the node of a pending instance
pub record IsWaitingLeaf (plans : List Plan) (pending : List Instance) (events : List Event) (leaf : Plan)
    : Type 0 where
  pub instance : Instance
  pub waits : Contains pending instance
  pub node : Plan
  pub found : node_of plans instance ≡ Some node
  pub part : Plan
  pub has : HasPart node part
  pub reached : IsReachedBy events part leaf

abbrev pub IsAskedLeaf : List Plan → List Instance → List Event → Plan → Type 0
IsAskedLeaf plans pending events leaf = IsRootLeaf plans events leaf ⊎ IsWaitingLeaf plans pending events leaf

-- the action is for a leaf that is asked for at a step with these events
pub record IsAskedAction (plans : List Plan) (pending : List Instance) (events : List Event) (action : Action) : Type 0
  where
    pub leaf : Plan
    pub is : IsLeaf leaf action.kind action.leaf action.event
    pub asked : IsAskedLeaf plans pending events leaf

-- each of the actions is for a leaf that is asked for, where the events are those of the step and of the actions
abbrev pub AreAskedActions : List Plan → List Instance → (given : List Event) → List Action → Type 0
AreAskedActions plans pending given actions =
    (action : Action) → Contains actions action → IsAskedAction plans pending (all_events given actions) action
