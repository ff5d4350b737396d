-- The variables in scope at the nodes of a plan, and the valuations that bind just these.
use Rattle.enf_data.specs.declared.terms.VarId.{VarId}
use Rattle.enf_data.specs.meaning.Valuations.{Valuation, value_at, BindsColumns}
use Rattle.std.specs.List.{find}
use Rattle.std.specs.Prelude.{◌≡◌, List, None, Contains, [], ◌∷◌, ◌++◌, ℕ, Option, Some, cond, slice_get}
use Rattle.plan_terms.specs.meaning.Plans.{has_number, is_future, Plan, Both, Either, TestOr, Guarded, EventuallyPlan}
use Rattle.plan_terms.specs.meaning.Plans.{AlwaysPlan, UntilPlan, NextPlan}

-- v binds just the variables in scope
pub record FitsScope (scope : List VarId) (v : Valuation) : Type 0 where
  pub binds : BindsColumns v scope
  pub only : (x : VarId) → (Contains scope x → ⊥) → value_at v x ≡ None

-- the nodes in pre-order, each with the variables in scope there, where some are in scope at the root: those of a guard
-- come into scope below it
abbrev pub scoped_nodes : Plan → (scope : List VarId) → List (Plan × List VarId)
scoped_nodes (Both node left right) scope =
    (Both node left right, scope) ∷ scoped_nodes left scope ++ scoped_nodes right scope
scoped_nodes (Either node left right) scope =
    (Either node left right, scope) ∷ scoped_nodes left scope ++ scoped_nodes right scope
scoped_nodes (TestOr node guard test body) scope = (TestOr node guard test body, scope) ∷ scoped_nodes body scope
scoped_nodes (Guarded node xs guard test body) scope =
    (Guarded node xs guard test body, scope) ∷ scoped_nodes body (scope ++ xs)
scoped_nodes (EventuallyPlan node place low high body) scope =
    (EventuallyPlan node place low high body, scope) ∷ scoped_nodes body scope
scoped_nodes (AlwaysPlan node place low high body) scope =
    (AlwaysPlan node place low high body, scope) ∷ scoped_nodes body scope
scoped_nodes (UntilPlan node place low high left right) scope =
    (UntilPlan node place low high left right, scope) ∷ scoped_nodes left scope ++ scoped_nodes right scope
scoped_nodes (NextPlan node place high body) scope = (NextPlan node place high body, scope) ∷ scoped_nodes body scope
scoped_nodes plan scope = (plan, scope) ∷ []

-- the first node with the number, and the variables in scope there
abbrev pub scoped_at : ℕ → Plan → (scope : List VarId) → Option (Plan × List VarId)
scoped_at number plan scope = find (λ node. has_number number node.0) (scoped_nodes plan scope)

-- the first node with a number in a rule's plan, with the variables in scope there; none is at its root
abbrev pub scoped_in_plan : (number : ℕ) → Option Plan → Option (Plan × List VarId)
scoped_in_plan number None = None
scoped_in_plan number (Some plan) = scoped_at number plan []

-- the node and the variables in scope there, where the node is an operator on the future
abbrev pub only_future : Option (Plan × List VarId) → Option (Plan × List VarId)
only_future None = None
only_future (Some node) = cond (is_future node.0) (Some node) None

abbrev pub future_in : List Plan → (rule number : ℕ) → Option (Plan × List VarId)
future_in plans rule number = only_future (scoped_in_plan number (slice_get plans rule))
