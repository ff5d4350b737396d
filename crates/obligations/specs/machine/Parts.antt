-- The parts of the nodes of pending instances, and which of them an instance asks.
use Rattle.enf_data.specs.declared.steps.Step.{Step}
use Rattle.enf_data.specs.declared.terms.VarId.{VarId}
use Rattle.std.specs.Prelude.{Contains, List, ◌≡◌, ◌⊎◌, Bool, [], Option, None, Some}
use Rattle.plan_terms.specs.machine.StoredPlans.{plan_of}
use Rattle.plan_terms.specs.meaning.Plans.{nodes, Plan, EventuallyPlan, AlwaysPlan, UntilPlan, NextPlan}
use Rattle.obligations.specs.machine.FreshGuards.{guards_now}
use Rattle.obligations.specs.declared.instances.Instance.{Instance}
use Rattle.obligations.specs.declared.literals.Literal.{Literal}
use Rattle.obligations.specs.declared.present_step.Now.{Now}
use Rattle.obligations.specs.declared.scopes.FutureNode.{FutureNode}
use Rattle.obligations.specs.machine.AskablePlans.{CanAskPlan}
use Rattle.obligations.specs.machine.PresentStep.{IsNowOf}
use Rattle.obligations.specs.meaning.Obligations.{Missing}
use Rattle.obligations.specs.meaning.Pending.{MissesAt}

-- a part of a node can be asked for an instance of it
pub record IsAskedPart (now : Now) (node : Plan) (i : Instance) (part : Plan) : Type 0 where
  pub inside : (leaf : Plan) → Contains (nodes part) leaf → Contains (nodes node) leaf
  pub can : CanAskPlan (guards_now now) part i.valuation

abbrev pub node_with_scope : FutureNode → Plan × List VarId
node_with_scope found = (plan_of found.node.now, found.scope.items)

-- the part is directly below an operator on the future
abbrev pub HasPart : Plan → Plan → Type 0
HasPart (EventuallyPlan node place low high body) part = body ≡ part
HasPart (NextPlan node place high body) part = body ≡ part
HasPart (AlwaysPlan node place low high body) part = body ≡ part
HasPart (UntilPlan node place low high left right) part = (left ≡ part) ⊎ (right ≡ part)
HasPart plan part = ⊥

-- an instance of the node misses what a part of the node misses
pub record AsksPart (now : Now) (node : Plan) (i : Instance) (forced : Bool) (part : Plan) : Type 0 where
  pub misses : (trace : List Step) → IsNowOf now trace → (literals : List Literal)
      → Missing trace part i.valuation literals → MissesAt trace node i forced literals
  pub inside : (leaf : Plan) → Contains (nodes part) leaf → Contains (nodes node) leaf
  pub can : CanAskPlan (guards_now now) part i.valuation
  pub has : HasPart node part

-- an instance of the node misses what this part of it misses, or nothing
abbrev pub AsksPartOrNothing : Now → Plan → Instance → (forced : Bool) → Option Plan → Type 0
AsksPartOrNothing now node i forced None = (trace : List Step) → IsNowOf now trace → MissesAt trace node i forced []
AsksPartOrNothing now node i forced (Some part) = AsksPart now node i forced part
