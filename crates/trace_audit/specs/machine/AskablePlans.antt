-- What it takes to evaluate a plan at a step.
use Rattle.enf_data.specs.declared.terms.VarId.{VarId}
use Rattle.enf_data.specs.meaning.Valuations.{Valuation}
use Rattle.std.specs.Prelude.{List}
use Rattle.enf_formula.specs.meaning.Satisfaction.{Formula}
use Rattle.plan_terms.specs.meaning.Plans.{Plan}
use Rattle.plan_terms.specs.machine.WellFormed.{IsScopedNode, AtEach, IsListedNode, IsSafeNode, EndsInTime}
use Rattle.plan_terms.specs.meaning.Scopes.{FitsScope}
use Rattle.wake_patterns.specs.machine.Laws.{BringsFresh}

-- the variables of a node are in scope or new, its guard or test can be evaluated, binds new variables and stands in
-- the list at its number, and its interval ends within the limit
pub record IsAskable (guards : List (Formula × List VarId)) (node : Plan) (scope : List VarId) : Type 0 where
  pub scoped : IsScopedNode node scope
  pub safe : IsSafeNode node scope
  pub listed : IsListedNode guards node scope
  pub fresh : BringsFresh node scope
  pub ends : EndsInTime node

-- the plan can be evaluated at a step with these guards, under a valuation that binds the variables in scope
pub record CanEvaluatePlan (guards : List (Formula × List VarId)) (plan : Plan) (v : Valuation) : Type 0 where
  pub scope : List VarId
  pub can : AtEach (IsAskable guards) plan scope
  pub fits : FitsScope scope v
