-- What a pending instance becomes at a step, where it is served if it is forced.
use Rattle.enf_data.specs.declared.steps.Step.{Step}
use Rattle.std.specs.List.{AllByRecursion}
use Rattle.std.specs.Prelude.{◌≡◌, List, [], Option, None, Some, Bool, true, false, cond}
use Rattle.std.specs.Prelude.{◌∷◌, ◌++◌, IfSome}
use Rattle.plan_terms.specs.meaning.Plans.{has_deadline, Plan, EventuallyPlan, UntilPlan, NextPlan}
use Rattle.obligations.specs.declared.instances.Instance.{Instance}
use Rattle.obligations.specs.declared.present_step.Now.{Now}
use Rattle.obligations.specs.machine.Parts.{HasPart, IsAskedPart}
use Rattle.obligations.specs.machine.PresentStep.{IsNowOf}
use Rattle.obligations.specs.meaning.Obligations.{Begun, LacksNothing, time_now}
use Rattle.obligations.specs.meaning.Pending.{IsNowIn, AtNode, node_of, BecomesAt, After}
use Rattle.obligations.specs.meaning.PendingBounds.{is_forced}

-- what a part of the node of an instance begins for it, where a part is begun
abbrev pub BegunFor : List Step → Instance → Option Plan → List Instance → Type 0
BegunFor trace i None begun = begun ≡ []
BegunFor trace i (Some part) begun = Begun trace i.rule part i.valuation begun

-- what a node with a deadline waits for
abbrev pub awaited_in : Plan → Option Plan
awaited_in (EventuallyPlan node place low high body) = Some body
awaited_in (UntilPlan node place low high left right) = Some right
awaited_in (NextPlan node place high body) = Some body
awaited_in plan = None

-- where it has a deadline, it is in its window, and nothing is missing of what it waits for
abbrev pub IsInstanceServed : List Step → Plan → Instance → Type 0
IsInstanceServed trace (EventuallyPlan node place low high body) i = IsNowIn trace i
    × LacksNothing trace body i.valuation
IsInstanceServed trace (UntilPlan node place low high left right) i = IsNowIn trace i
    × LacksNothing trace right i.valuation
IsInstanceServed trace plan i = Unit {0}

-- each of the instances that are forced is served
abbrev pub AreServed : List Plan → (inserted : Bool) → List Step → List Instance → Type 0
AreServed plans inserted trace = AllByRecursion (λ i. is_forced inserted (time_now trace) i ≡ true
    → AtNode (node_of plans i) (λ node. IsInstanceServed trace node i))

-- an instance of the node stays, or not, and what this part begins comes after it. One with a deadline that is forced
-- does not stay, and counts as served
pub record WillBecome (now : Now) (node : Plan) (i : Instance) (forced stays : Bool) (begins : Option Plan)
    : Type 0 where
  pub becomes : (trace : List Step) → IsNowOf now trace → (forced ≡ true → IsInstanceServed trace node i)
      → (begun : List Instance) → BegunFor trace i begins begun
      → BecomesAt trace node i (cond stays (i ∷ []) [] ++ begun)
  pub part : IfSome begins (IsAskedPart now node i)
  pub waits : stays ≡ true → has_deadline node ≡ true → forced ≡ false
  pub has : IfSome begins (HasPart node)

-- what an instance becomes, where it is served if it is forced
abbrev pub BecomesOne : List Plan → (inserted : Bool) → Instance → List Step → List Instance → Type 0
BecomesOne plans inserted i trace after = AreServed plans inserted trace (i ∷ []) → After plans trace i after
