-- What positions from one on still owe to a pending instance.
use Rattle.enf_data.specs.declared.steps.Step.{Step}
use Rattle.enf_data.specs.meaning.Data.{step_at}
use Rattle.std.specs.Prelude.{ℕ, ◌<◌, ◌≤◌, List, length}
use Rattle.enf_formula.specs.meaning.Satisfaction.{Sat, Classically}
use Rattle.plan_terms.specs.meaning.Plans.{formula_for, Plan, CausePlan, SuppressPlan, Both, Either, TestOr, Guarded}
use Rattle.plan_terms.specs.meaning.Plans.{EventuallyPlan, AlwaysPlan, UntilPlan, NextPlan}
use Rattle.obligations.specs.declared.instances.Instance.{Instance}
use Rattle.obligations.specs.meaning.Pending.{IsInWindow, AtNode, node_of}

-- a position of the trace from this one on, whose time is in the window
pub record IsPositionLeft (trace : List Step) (i : Instance) (from position : ℕ) : Type 0 where
  pub from_there : from ≤ position
  pub is_there : position < length trace
  pub in_window : IsInWindow i (step_at trace position).time

-- a plan's formula holds at a position
abbrev pub HoldsForInstance : List Step → Instance → Plan → ℕ → Type 0
HoldsForInstance trace i plan position = Sat trace position i.valuation (formula_for plan)

-- what an instance of the node is still owed
abbrev pub OwesAt : List Step → (from : ℕ) → Plan → Instance → Type 0
OwesAt trace from (EventuallyPlan node place low high body) i =
    Classically ((j : ℕ) × IsPositionLeft trace i from j × HoldsForInstance trace i body j)
OwesAt trace from (AlwaysPlan node place low high body) i = (j : ℕ) → IsPositionLeft trace i from j
    → HoldsForInstance trace i body j
OwesAt trace from (UntilPlan node place low high left right) i =
    Classically ((j : ℕ) × IsPositionLeft trace i from j × HoldsForInstance trace i right j
    × ((k : ℕ) → from ≤ k → k < j → HoldsForInstance trace i left k))
OwesAt trace from (NextPlan node place high body) i =
    (from < length trace) × ((step_at trace from).time ≤ i.high) × HoldsForInstance trace i body from
OwesAt trace from (CausePlan node place name terms) i = ⊥
OwesAt trace from (SuppressPlan node place name terms) i = ⊥
OwesAt trace from (Both node left right) i = ⊥
OwesAt trace from (Either node left right) i = ⊥
OwesAt trace from (TestOr node guard test body) i = ⊥
OwesAt trace from (Guarded node xs guard test body) i = ⊥

-- the positions from one on meet what a pending instance is still owed
abbrev pub Residual : List Plan → List Step → (from : ℕ) → Instance → Type 0
Residual plans trace from i = AtNode (node_of plans i) (λ node. OwesAt trace from node i)
