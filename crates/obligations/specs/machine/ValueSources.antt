-- Where the values of what is missed at a trace come from.
use Rattle.enf_data.specs.declared.steps.Step.{Step}
use Rattle.enf_data.specs.declared.terms.VarId.{VarId}
use Rattle.enf_data.specs.declared.values.Value.{Value}
use Rattle.enf_data.specs.meaning.Valuations.{Valuation}
use Rattle.std.specs.Prelude.{◌⊎◌, List, map, Contains}
use Rattle.enf_formula.specs.meaning.Satisfaction.{Formula, Classically}
use Rattle.monitorable_guard.specs.machine.ValueSources.{IsArgumentUpTo}
use Rattle.plan_terms.specs.meaning.Plans.{nodes, Plan}
use Rattle.past_state.specs.machine.ValueSources.{IsConstantOf}
use Rattle.obligations.specs.declared.literals.Literal.{Literal}
use Rattle.obligations.specs.machine.Leaves.{IsBound, IsLeafConstant, IsLeaf}
use Rattle.obligations.specs.meaning.Obligations.{last_position}

-- a value that is bound, or one of the events of the trace, of the constants of the guards or of those of the plan:
-- each list of these is finite
abbrev pub IsKnownOn : List (Formula × List VarId) → List Step → Plan → Valuation → Value → Type 0
IsKnownOn guards trace plan v value = IsBound v value ⊎ (IsArgumentUpTo trace (last_position trace) value
    ⊎ (IsConstantOf (map (λ guard. guard.0) guards) value ⊎ IsLeafConstant plan value))

-- the literal is that of a leaf of the plan, and each of its values is known. As in the definition of satisfaction,
-- `or` is classical
pub record IsOwnLiteral (guards : List (Formula × List VarId)) (trace : List Step) (plan : Plan) (v : Valuation)
    (literal : Literal) : Type 0 where
  pub leaf : Plan
  pub there : Contains (nodes plan) leaf
  pub is : IsLeaf leaf literal.kind literal.leaf literal.event
  pub known : (value : Value) → Contains literal.event.args value
      → Classically (IsKnownOn guards trace plan v value)
