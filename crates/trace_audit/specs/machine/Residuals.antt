-- What is still asked of the positions of a trace from one on.
use Rattle.enf_data.specs.declared.steps.Step.{Step}
use Rattle.enf_data.specs.declared.terms.VarId.{VarId}
use Rattle.enf_data.specs.meaning.Data.{step_at}
use Rattle.enf_data.specs.meaning.Valuations.{Valuation}
use Rattle.std.specs.Prelude.{ℕ, ◌<◌, ◌≤◌, List, length, [], ◌∷◌, ◌≡◌, Bool, true, false}
use Rattle.std.specs.Prelude.{◌↔◌}
use Rattle.enf_formula.specs.meaning.Satisfaction.{Formula, Sat, Classically}
use Rattle.plan_terms.specs.machine.StoredPlans.{plan_of}
use Rattle.plan_terms.specs.meaning.Plans.{formula_for, Plan, CausePlan, SuppressPlan, Both, Either, TestOr, Guarded}
use Rattle.plan_terms.specs.meaning.Plans.{EventuallyPlan, AlwaysPlan, UntilPlan, NextPlan}
use Rattle.trace_audit.specs.declared.residuals.Link.{Link}
use Rattle.trace_audit.specs.declared.residuals.Residual.{Residual, Row_of-Link, end_of-Link, more_of-Link}
use Rattle.trace_audit.specs.declared.residuals.Waiting.{Waiting}
use Rattle.trace_audit.specs.machine.AskablePlans.{CanEvaluatePlan}
use Rattle.trace_audit.specs.declared.residuals.Link.TheVariants as link
use Rattle.trace_audit.specs.declared.residuals.Residual.TheVariants as stored

-- a position of the trace from this one on, at a time in the window
pub record IsLeftInWindow (trace : List Step) (low high from position : ℕ) : Type 0 where
  pub from_there : from ≤ position
  pub is_there : position < length trace
  pub begun : low ≤ (step_at trace position).time
  pub asked : (step_at trace position).time ≤ high

-- a plan's formula holds at a position
abbrev pub PlanHoldsAt : List Step → Valuation → Plan → ℕ → Type 0
PlanHoldsAt trace v plan position = Sat trace position v (formula_for plan)

-- what an operator on the future still asks for, whose window has these ends
abbrev pub OperatorAsks : List Step → (from : ℕ) → Plan → Valuation → (low high : ℕ) → Type 0
OperatorAsks trace from (EventuallyPlan node place a b body) v low high =
    Classically ((j : ℕ) × IsLeftInWindow trace low high from j × PlanHoldsAt trace v body j)
OperatorAsks trace from (AlwaysPlan node place a b body) v low high =
    (j : ℕ) → IsLeftInWindow trace low high from j → PlanHoldsAt trace v body j
OperatorAsks trace from (UntilPlan node place a b left right) v low high =
    Classically ((j : ℕ) × IsLeftInWindow trace low high from j × PlanHoldsAt trace v right j
    × ((k : ℕ) → from ≤ k → k < j → PlanHoldsAt trace v left k))
OperatorAsks trace from (NextPlan node place b body) v low high =
    (from < length trace) × ((step_at trace from).time ≤ high) × PlanHoldsAt trace v body from
OperatorAsks trace from (CausePlan node place name terms) v low high = ⊥
OperatorAsks trace from (SuppressPlan node place name terms) v low high = ⊥
OperatorAsks trace from (Both node left right) v low high = ⊥
OperatorAsks trace from (Either node left right) v low high = ⊥
OperatorAsks trace from (TestOr node guard test body) v low high = ⊥
OperatorAsks trace from (Guarded node xs guard test body) v low high = ⊥

abbrev pub WaitingAsks : List Step → (from : ℕ) → Waiting → Type 0
WaitingAsks trace from w = OperatorAsks trace from (plan_of w.node.now) w.valuation w.low w.high

-- one of two, classically
abbrev pub ClassicallyOr : Type 0 → Type 0 → Type 0
ClassicallyOr P Q = (P → ⊥) → (Q → ⊥) → ⊥

abbrev mutual
  -- the positions from one on meet what is asked of them
  pub Means : List Step → (from : ℕ) → Residual → Type 0
  Means trace from stored.Met = Unit {0}
  Means trace from stored.Failed = ⊥
  Means trace from (stored.Waits waiting) = WaitingAsks trace from waiting
  Means trace from (stored.Chain' shape links) = RowMeans trace from (Unit {0}) links

  -- after what is asked so far a link asks for both, or for one of the two
  pub LinkMeans : List Step → (from : ℕ) → (so_far : Type 0) → Link → Type 0
  LinkMeans trace from so_far (link.Both rest) = so_far × Means trace from rest
  LinkMeans trace from so_far (link.Either rest) = ClassicallyOr so_far (Means trace from rest)

  -- after what is asked so far, links ask what they ask, one after the other
  pub RowMeans : List Step → (from : ℕ) → (so_far : Type 0) → {n : _} → Row_of-Link n → Type 0
  RowMeans trace from so_far end_of-Link = so_far
  RowMeans trace from so_far (more_of-Link one links) = RowMeans trace from (LinkMeans trace from so_far one) links

-- after what is asked so far, the links of a list ask what they ask, one after the other
abbrev pub LinksMean : List Step → (from : ℕ) → (so_far : Type 0) → List Link → Type 0
LinksMean trace from so_far [] = so_far
LinksMean trace from so_far (one ∷ links) = LinksMean trace from (LinkMeans trace from so_far one) links

abbrev mutual
  -- what waits can be evaluated at a step with these guards
  pub ResidualCanGoOn : List (Formula × List VarId) → Residual → Type 0
  ResidualCanGoOn guards stored.Met = Unit {0}
  ResidualCanGoOn guards stored.Failed = Unit {0}
  ResidualCanGoOn guards (stored.Waits waiting) = CanEvaluatePlan guards (plan_of waiting.node.now) waiting.valuation
  ResidualCanGoOn guards (stored.Chain' shape links) = CanRowGoOn guards links

  pub CanLinkGoOn : List (Formula × List VarId) → Link → Type 0
  CanLinkGoOn guards (link.Both rest) = ResidualCanGoOn guards rest
  CanLinkGoOn guards (link.Either rest) = ResidualCanGoOn guards rest

  pub CanRowGoOn : List (Formula × List VarId) → {n : _} → Row_of-Link n → Type 0
  CanRowGoOn guards end_of-Link = Unit {0}
  CanRowGoOn guards (more_of-Link one links) = CanLinkGoOn guards one × CanRowGoOn guards links

abbrev pub IsSettledResidual : Bool → Residual → Type 0
IsSettledResidual true rest = rest ≡ stored.Met
IsSettledResidual false rest = rest ≡ stored.Failed

-- the rest asks for both residuals
pub record IsAllOf (left right rest : Residual) : Type 0 where
  pub means : (trace : List Step) (from : ℕ)
      → Means trace from rest ↔ (Means trace from left × Means trace from right)
  pub can : (guards : List (Formula × List VarId)) → ResidualCanGoOn guards left
      → ResidualCanGoOn guards right → ResidualCanGoOn guards rest

-- the rest asks for one of the two residuals
pub record IsAnyOf (left right rest : Residual) : Type 0 where
  pub means : (trace : List Step) (from : ℕ)
      → Means trace from rest ↔ ClassicallyOr (Means trace from left) (Means trace from right)
  pub can : (guards : List (Formula × List VarId)) → ResidualCanGoOn guards left
      → ResidualCanGoOn guards right → ResidualCanGoOn guards rest

-- a link hangs at its end
pub record IsHung (so_far : Residual) (one : Link) (rest : Residual) : Type 0 where
  pub means : (trace : List Step) (from : ℕ)
      → Means trace from rest ↔ LinkMeans trace from (Means trace from so_far) one
  pub can : (guards : List (Formula × List VarId)) → ResidualCanGoOn guards so_far → CanLinkGoOn guards one
      → ResidualCanGoOn guards rest
