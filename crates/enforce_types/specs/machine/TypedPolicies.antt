-- The plans of a policy as the program keeps them, and its refusals.
use Rattle.std.specs.Prelude.{List, map}
use Rattle.enf_formula.specs.meaning.Satisfaction.{Formula}
use Rattle.monitorable_guard.specs.machine.Guards.{BoundFormula}
use Rattle.formula_reader.specs.meaning.Resolution.{Rule}
use Rattle.plan_terms.specs.declared.plans.Plan.{Plan as StoredPlan}
use Rattle.plan_terms.specs.machine.GuardProperties.{guards_of}
use Rattle.plan_terms.specs.machine.IntervalEnds.{AllEndLater}
use Rattle.plan_terms.specs.machine.StoredPlans.{plan_of}
use Rattle.plan_terms.specs.machine.WellFormed.{AreWellFormed}
use Rattle.rank_check.specs.declared.rank_answers.RankRefusal.{RankRefusal}
use Rattle.rank_check.specs.meaning.AcceptedPlans.{AreAccepted}
use Rattle.rank_check.specs.meaning.Ranked.{AreRanked, Ranked}
use Rattle.enforce_types.specs.declared.refusals.Refusal.{Refusal}
use Rattle.enforce_types.specs.declared.refusals.TypeRefusal.{TypeRefusal}
use Rattle.enforce_types.specs.declared.refusals.TypeRefusal.TheVariants.{Unguarded, NotEnforceable, RoleClash}
use Rattle.enforce_types.specs.declared.refusals.TypeRefusal.TheVariants.{Untriggered, Cyclic, NoMemory}
use Rattle.enforce_types.specs.meaning.PolicyRefusals.{Typed}
use Rattle.enforce_types.specs.declared.refusals.Refusal.TheVariants as rule
use Rattle.rank_check.specs.declared.rank_answers.RankRefusal.TheVariants as plans

-- the refusal of a rule
abbrev pub type_refusal_of_rule : Refusal → TypeRefusal
type_refusal_of_rule (rule.Unguarded place) = Unguarded place
type_refusal_of_rule (rule.NotEnforceable place) = NotEnforceable place

-- the refusal of plans
abbrev pub type_refusal_of_plans : RankRefusal → TypeRefusal
type_refusal_of_plans (plans.RoleClash name) = RoleClash name
type_refusal_of_plans (plans.Untriggered place) = Untriggered place
type_refusal_of_plans (plans.Cyclic name) = Cyclic name
type_refusal_of_plans plans.NoMemory = NoMemory

-- the formulas of rules
abbrev pub formulas_of : List Rule → List Formula
formulas_of rules = map (λ (rule : Rule). rule.formula) rules

-- what the plans of each accepted policy are, whatever its signature: they are well-formed, none of their intervals
-- ends at once, they can work together, and what is known of them is so
pub record WorkTogether (typed : Typed) : Type 0 where
  pub formed : AreWellFormed typed.plans typed.guards
  pub later : AllEndLater typed.plans
  pub accepted : AreAccepted typed.plans
  pub ranked : AreRanked typed.plans typed.ranked

-- the plans with plans and guards of the program
pub record StoredTyped : Type 0 where
  pub plans : List StoredPlan
  pub guards : List BoundFormula
  pub ranked : Ranked

-- what a policy of the program stands for
abbrev pub typed_of : StoredTyped → Typed
typed_of stored =
    record { plans = map plan_of stored.plans; guards = guards_of stored.guards; ranked = stored.ranked }
