-- What is known of an accepted policy, and why others are refused.
use Rattle.enf_data.specs.declared.terms.VarId.{VarId}
use Rattle.std.specs.Prelude.{List, ◌⊎◌, [], ◌∷◌, Err}
use Rattle.enf_formula.specs.meaning.Satisfaction.{Formula}
use Rattle.signature.specs.declared.entries.NameEntry.{NameEntry}
use Rattle.plan_terms.specs.meaning.Plans.{Plan}
use Rattle.rank_check.specs.meaning.AcceptedPlans.{AreAccepted}
use Rattle.rank_check.specs.meaning.Ranked.{Ranked, AreRanked}
use Rattle.rank_check.specs.meaning.Refusals.{RefusesPlans}
use Rattle.enforce_types.specs.declared.refusals.Refusal.{Refusal}
use Rattle.enforce_types.specs.declared.refusals.TypeRefusal.{TypeRefusal}
use Rattle.enforce_types.specs.declared.refusals.TypeRefusal.TheVariants.{Unguarded, NotEnforceable, RoleClash}
use Rattle.enforce_types.specs.declared.refusals.TypeRefusal.TheVariants.{Untriggered, Cyclic, NoMemory}
use Rattle.enforce_types.specs.meaning.Elab.{ArePlanned, RuleAnswer, HasPlan, HasPlansWith}
use Rattle.rank_check.specs.declared.rank_answers.RankRefusal.TheVariants as plans
use Rattle.enforce_types.specs.declared.refusals.Refusal.TheVariants as rule

-- the plans of an accepted policy in rule order, its guards and tests by their numbers, and what is known of these
-- plans
pub record Typed : Type 0 where
  pub plans : List Plan
  pub guards : List (Formula × List VarId)
  pub ranked : Ranked

-- these are the plans of the policy, and what is known of them is so
pub record IsTyped (entries : List NameEntry) (policy : List Formula) (typed : Typed) : Type 0 where
  pub planned : ArePlanned entries policy typed.plans typed.guards
  pub accepted : AreAccepted typed.plans
  pub ranked : AreRanked typed.plans typed.ranked

-- the first formula without a plan is refused so
abbrev pub IsFirstRefusal : List NameEntry → List Formula → Refusal → Type 0
IsFirstRefusal entries [] refusal = ⊥
IsFirstRefusal entries (f ∷ policy) refusal = RuleAnswer entries f (Err refusal)
    ⊎ ((plan : Plan) × HasPlan entries f plan × IsFirstRefusal entries policy refusal)

-- when a policy is refused with this answer: by its first rule that has no plan, or else by its plans. Running out of
-- memory refuses any
abbrev pub RefusesPolicy : List NameEntry → List Formula → TypeRefusal → Type 0
RefusesPolicy entries policy (Unguarded place) = IsFirstRefusal entries policy (rule.Unguarded place)
RefusesPolicy entries policy (NotEnforceable place) = IsFirstRefusal entries policy (rule.NotEnforceable place)
RefusesPolicy entries policy (RoleClash name) =
    HasPlansWith entries policy (λ made. RefusesPlans made (plans.RoleClash name))
RefusesPolicy entries policy (Untriggered place) =
    HasPlansWith entries policy (λ made. RefusesPlans made (plans.Untriggered place))
RefusesPolicy entries policy (Cyclic name) = HasPlansWith entries policy (λ made. RefusesPlans made (plans.Cyclic name))
RefusesPolicy entries policy NoMemory = Unit {0}
