-- Which instances can be pending at a clock, after so many steps, and which cannot wait any longer.
use Rattle.enf_data.specs.declared.terms.VarId.{VarId}
use Rattle.std.specs.Prelude.{ℕ, ◌≡◌, ◌+◌, ◌≤◌, true, ◌-◌, ◌<◌, List, Some, Bool, ◌==◌, ◌&&◌}
use Rattle.plan_terms.specs.meaning.Plans.{has_deadline, window_end, Plan, EventuallyPlan, AlwaysPlan, UntilPlan}
use Rattle.plan_terms.specs.meaning.Plans.{NextPlan}
use Rattle.plan_terms.specs.meaning.Scopes.{FitsScope, future_in}
use Rattle.obligations.specs.declared.instances.Instance.{Instance}

-- the first and the second end of the interval of an operator on the future
abbrev pub first_end : Plan → ℕ
first_end (EventuallyPlan node place low high body) = low
first_end (AlwaysPlan node place low high body) = low
first_end (UntilPlan node place low high left right) = low
first_end plan = 0

abbrev pub second_end : Plan → ℕ
second_end (AlwaysPlan node place low high body) = high
second_end plan = window_end plan

abbrev pub IsNext : Plan → Type 0
IsNext (NextPlan node place high body) = Unit {0}
IsNext plan = ⊥

-- the deadline of an instance of the node, if it has one, is not over at the clock; an instance of `next` was begun
-- at the last position
abbrev pub IsDeadlineInTime : Plan → (clock position : ℕ) → Instance → Type 0
IsDeadlineInTime node clock position i =
    (has_deadline node ≡ true → clock ≤ i.high) × (IsNext node → i.origin + 1 ≡ position)

-- an instance of the node can wait: it was begun at an earlier position, its window begins no earlier than its
-- interval and is as wide, and its deadline is not over
pub record CanWait (node : Plan) (clock position : ℕ) (i : Instance) : Type 0 where
  pub begun : i.origin < position
  pub from : first_end node ≤ i.low
  pub ordered : i.low ≤ i.high
  pub wide : i.high - i.low ≡ second_end node - first_end node
  pub in_time : IsDeadlineInTime node clock position i

-- an instance can be pending: its rule and node name an operator on the future, it can wait, and just the variables
-- in scope at that operator are bound
pub record CanBePending (plans : List Plan) (clock position : ℕ) (i : Instance) : Type 0 where
  pub node : Plan
  pub scope : List VarId
  pub named : future_in plans i.rule i.node ≡ Some (node, scope)
  pub binds : FitsScope scope i.valuation
  pub waits : CanWait node clock position i

-- at an inserted step at the end of its window an instance is forced: it cannot wait any longer
abbrev pub is_forced : (inserted : Bool) → (time : ℕ) → Instance → Bool
is_forced inserted time instance = inserted && (time == instance.high)
