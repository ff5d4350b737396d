-- Actions and literals that are wanted at a step, and the values that are known there.
use Rattle.enf_data.specs.declared.events.Event.{Event}
use Rattle.enf_data.specs.declared.terms.Term.TheVariants.{Const}
use Rattle.enf_data.specs.declared.values.Value.{Value}
use Rattle.std.specs.List.{flat_map}
use Rattle.std.specs.Prelude.{◌⊎◌, List, Contains}
use Rattle.monitorable_guard.specs.machine.Evaluation.{IsTabled}
use Rattle.monitorable_guard.specs.machine.ValueSources.{IsArgument}
use Rattle.plan_terms.specs.meaning.Plans.{nodes, Plan}
use Rattle.past_state.specs.machine.Past.{PastTables, formulas_of_guards, Past}
use Rattle.past_state.specs.machine.ValueSources.{IsConstantOf, IsKeptValue}
use Rattle.obligations.specs.declared.actions.Action.{Action}
use Rattle.obligations.specs.declared.instances.Instance.{Instance}
use Rattle.obligations.specs.declared.literals.Literal.{Literal}
use Rattle.obligations.specs.machine.Leaves.{IsBound, terms_of, ChangesEvents, IsLeaf}
use Rattle.choice_step.specs.machine.AskedLeaves.{IsAskedLeaf, IsRootLeaf}

-- a value that a pending instance binds, or one of the step's events, of its tables, or of the constants of guards and
-- plans
abbrev pub IsKnownFor : List Plan → List Instance → (ordered : List Event) → PastTables → Value → Type 0
IsKnownFor plans pending ordered tables value = ((i : Instance) × Contains pending i × IsBound i.valuation value)
    ⊎ (IsArgument ordered value ⊎ (IsTabled tables.stack value
    ⊎ (IsConstantOf (formulas_of_guards tables.guards) value
    ⊎ ((leaf : Plan) × Contains (flat_map nodes plans) leaf × Contains (terms_of leaf) (Const value)))))

-- an action is for a leaf of one of the plans that is asked for, it changes the events, and its values are known,
-- whatever the step stands for
pub record IsWantedAt (plans : List Plan) (pending : List Instance) (events ordered : List Event) (tables : PastTables)
    (action : Action) : Type 0 where
  pub leaf : Plan
  pub there : Contains (flat_map nodes plans) leaf
  pub asked : IsAskedLeaf plans pending ordered leaf
  pub is : IsLeaf leaf action.kind action.leaf action.event
  pub changes : ChangesEvents action.kind action.event events
  pub known : (value : Value) → Contains action.event.args value → IsKnownFor plans pending ordered tables value

-- a value that a pending instance binds, or one of the events, of the constants of guards and plans, or of the rows
-- that the past state keeps
abbrev pub IsKnownBehind : List Plan → List Instance → Past → List Event → Value → Type 0
IsKnownBehind plans pending past events value = ((i : Instance) × Contains pending i × IsBound i.valuation value)
    ⊎ (IsArgument events value ⊎ (IsKeptValue past.operators value
    ⊎ (IsConstantOf (formulas_of_guards past.guards) value
    ⊎ ((leaf : Plan) × Contains (flat_map nodes plans) leaf × Contains (terms_of leaf) (Const value)))))

-- a literal is one of a leaf of the plans, and its values are known at a step
pub record IsLiteralAt (plans : List Plan) (pending : List Instance) (ordered : List Event) (tables : PastTables)
    (literal : Literal) : Type 0 where
  pub leaf : Plan
  pub there : Contains (flat_map nodes plans) leaf
  pub root : IsRootLeaf plans ordered leaf
  pub is : IsLeaf leaf literal.kind literal.leaf literal.event
  pub known : (value : Value) → Contains literal.event.args value → IsKnownFor plans pending ordered tables value

-- a literal is one of a leaf of the plans, and its values are known after a past state
pub record IsLiteralBehind (plans : List Plan) (pending : List Instance) (past : Past) (events : List Event)
    (literal : Literal) : Type 0 where
  pub leaf : Plan
  pub there : Contains (flat_map nodes plans) leaf
  pub root : IsRootLeaf plans events leaf
  pub is : IsLeaf leaf literal.kind literal.leaf literal.event
  pub known : (value : Value) → Contains literal.event.args value → IsKnownBehind plans pending past events value

abbrev pub AreLiteralsBehind : List Plan → List Instance → Past → List Event → List Literal → Type 0
AreLiteralsBehind plans pending past events literals =
    (literal : Literal) → Contains literals literal → IsLiteralBehind plans pending past events literal

-- an action that is wanted at a step with these events, with values that were known where it had the given ones
pub record IsWantedFrom (plans : List Plan) (pending : List Instance) (past : Past) (given events : List Event)
    (action : Action) : Type 0 where
  pub leaf : Plan
  pub there : Contains (flat_map nodes plans) leaf
  pub asked : IsAskedLeaf plans pending given leaf
  pub is : IsLeaf leaf action.kind action.leaf action.event
  pub changes : ChangesEvents action.kind action.event events
  pub known : (value : Value) → Contains action.event.args value → IsKnownBehind plans pending past given value
