-- What no longer trace can satisfy, and what a trace owes to the rules.
use Rattle.enf_data.specs.declared.steps.Step.{Step}
use Rattle.enf_data.specs.declared.values.Value.{Value}
use Rattle.enf_data.specs.meaning.Membership.{IsIn}
use Rattle.enf_data.specs.meaning.Valuations.{Valuation, with_values, no_values}
use Rattle.std.specs.Prelude.{ℕ, List, ◌<◌, ◌≤◌, length, ◌≡◌, false, ◌+◌, ◌⊎◌, [], ◌∷◌, Some, slice_get}
use Rattle.enf_formula.specs.meaning.Satisfaction.{Sat, elapsed}
use Rattle.trace_meaning.specs.meaning.Traces.{Continuation}
use Rattle.plan_terms.specs.meaning.Plans.{has_future, formula_for, interval_from_to, Plan, Both, Either, TestOr}
use Rattle.plan_terms.specs.meaning.Plans.{Guarded, EventuallyPlan, AlwaysPlan, UntilPlan, NextPlan}

-- no trace that continues this one, with no time below the clock after it, satisfies the node's formula at the
-- position
abbrev pub IsLost : List Step → (clock : ℕ) → Plan → Valuation → (position : ℕ) → Type 0
IsLost trace clock node v position =
    (longer : List Step) → Continuation trace clock longer → Sat longer position v (formula_for node) → ⊥

-- a node that is to hold at a position under a valuation
pub record Obligation : Type 0 where
  pub node : Plan
  pub valuation : Valuation
  pub position : ℕ

abbrev pub obligation : Plan → Valuation → ℕ → Obligation
obligation node v position = record { node = node; valuation = v; position = position }

-- ---- what leads to what

-- a position is ahead of another one: it is not before that one, at a distance of times within the window
pub record IsAhead (trace : List Step) (low high from position : ℕ) : Type 0 where
  pub not_before : from ≤ position
  pub there : position < length trace
  pub distance : IsIn (interval_from_to low high) (elapsed trace from position)

-- the node is lost at each position ahead of the one and before the other
abbrev pub WasLost : List Step → (clock low high : ℕ) → Plan → Valuation → (from position : ℕ) → Type 0
WasLost trace clock low high node v from position =
    (i : ℕ) → IsAhead trace low high from i → i < position → IsLost trace clock node v i

abbrev pub IsStillLost : List Step → (clock low high : ℕ) → Plan → Valuation → (from position : ℕ) → Type 0
IsStillLost trace clock low high node v from position =
    (i : ℕ) → IsAhead trace low high from i → i ≤ position → IsLost trace clock node v i

-- a side that does not look ahead does not hold at the position
abbrev pub IsNotMet : List Step → Plan → Valuation → (position : ℕ) → Type 0
IsNotMet trace side v position = has_future side ≡ false → Sat trace position v (formula_for side) → ⊥

-- a node at a position of the trace leads to the obligation in one move
abbrev pub LeadsTo : List Step → (clock : ℕ) → Plan → Valuation → (position : ℕ) → Obligation → Type 0
LeadsTo trace clock (Both node left right) v j next = (obligation left v j ≡ next) ⊎ (obligation right v j ≡ next)
LeadsTo trace clock (Either node left right) v j next = IsNotMet trace left v j × IsNotMet trace right v j
    × ((obligation left v j ≡ next) ⊎ (obligation right v j ≡ next))
LeadsTo trace clock (TestOr node guard test body) v j next = (Sat trace j v test → ⊥) × (obligation body v j ≡ next)
LeadsTo trace clock (Guarded node xs guard test body) v j next =
    (values : List Value) × (length values ≡ length xs) × Sat trace j (with_values xs values v) test
    × (obligation body (with_values xs values v) j ≡ next)
LeadsTo trace clock (NextPlan node place high body) v j next =
    (j + 1 < length trace) × (obligation body v (j + 1) ≡ next)
LeadsTo trace clock (AlwaysPlan node place low high body) v j next =
    (k : ℕ) × IsAhead trace low high j k × (obligation body v k ≡ next)
LeadsTo trace clock (EventuallyPlan node place low high body) v j next =
    (k : ℕ) × IsAhead trace low high j k × WasLost trace clock low high body v j k × (obligation body v k ≡ next)
LeadsTo trace clock (UntilPlan node place low high left right) v j next =
    ((k : ℕ) × IsAhead trace low high j k × WasLost trace clock low high right v j k × (obligation right v k ≡ next))
    ⊎ ((k : ℕ) × IsAhead trace 0 high j k × IsStillLost trace clock low high right v j k × (obligation left v k ≡ next))
LeadsTo trace clock plan v j next = ⊥

-- an obligation leads to another through these, each of which leads to the next
abbrev pub LeadsThrough : List Step → (clock : ℕ) → (from : Obligation) → List Obligation → (to : Obligation) → Type 0
LeadsThrough trace clock from [] to = from ≡ to
LeadsThrough trace clock from (next ∷ others) to =
    LeadsTo trace clock from.node from.valuation from.position next × LeadsThrough trace clock next others to

-- ---- what is owed

-- the root of the rule's plan, at some position and with nothing bound, leads to the node
pub record IsOwed (plans : List Plan) (trace : List Step) (clock rule : ℕ) (node : Plan) (v : Valuation)
    (position : ℕ) : Type 0 where
  pub root : Plan
  pub of_rule : slice_get plans rule ≡ Some root
  pub begun : ℕ
  pub there : begun < length trace
  pub moves : List Obligation
  pub leads : LeadsThrough trace clock (obligation root no_values begun) moves (obligation node v position)
