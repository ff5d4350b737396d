-- Each policy is accepted or refused, and has one refusal at most.
use Rattle.enforce_types.proofs.Vocabulary.{◌≡◌, ◌≢◌, ◌⊎◌, List, inl, inr, refl, sym, ap, subst, ◌∙◌, VarId, Formula, Plan, AcceptedPlansStay, ArePlansAnswered, OneReason, AreAccepted, RefusesPlans}
use Rattle.enforce_types.proofs.Vocabulary.{RankRefusal, NameEntry, HasRefusal, IsAccepted, HasPlansWith, ArePlanned, RefusesPolicy, IsFirstRefusal, type_refusal_of_plans, type_refusal_of_rule}
use Rattle.enforce_types.proofs.Vocabulary.{Refusal, TypeRefusal, RoleClash, Untriggered, Cyclic, NoMemory}
use Rattle.enforce_types.specs.declared.refusals.TypeRefusal.TheVariants.{Unguarded, NotEnforceable}
use Rattle.enforce_types.proofs.PolicyLemmas.{answered, not_both, one_plans, one_refusal}
use Rattle.rank_check.specs.declared.rank_answers.RankRefusal.TheVariants as plans
use Rattle.enforce_types.specs.declared.refusals.Refusal.TheVariants as rule

module _ (entries : List NameEntry) (policy : List Formula) where
  -- where a refusal comes from: a rule, or the plans
  abbrev FromRule : TypeRefusal → Type 0
  FromRule refusal = (why : Refusal) × (type_refusal_of_rule why ≡ refusal) × IsFirstRefusal entries policy why

  abbrev FromPlans : TypeRefusal → Type 0
  FromPlans refusal = (why : RankRefusal) × (type_refusal_of_plans why ≡ refusal) × (why ≢ plans.NoMemory) × HasPlansWith entries policy (λ made. RefusesPlans made why)

  source : (refusal : TypeRefusal) → RefusesPolicy entries policy refusal → refusal ≢ NoMemory → FromRule refusal ⊎ FromPlans refusal
  source (Unguarded place) why n = inl (rule.Unguarded place, refl, why)
  source (NotEnforceable place) why n = inl (rule.NotEnforceable place, refl, why)
  source (RoleClash name) why n = inr (plans.RoleClash name, refl, (λ e. cc), why)
  source (Untriggered place) why n = inr (plans.Untriggered place, refl, (λ e. cc), why)
  source (Cyclic name) why n = inr (plans.Cyclic name, refl, (λ e. cc), why)
  source NoMemory why n = absurd (n refl)

  -- the plans of which two things are known are the same
  same_plans : (P Q : List Plan → Type 0) (one : HasPlansWith entries policy P) → HasPlansWith entries policy Q → Q one.0
  same_plans P Q one other = subst Q (one_plans entries policy other.0 one.0 other.1 one.1 other.2 one.2).0 other.3

  not_source : AcceptedPlansStay → (refusal : TypeRefusal) → IsAccepted entries policy → FromRule refusal ⊎ FromPlans refusal → ⊥
  not_source stay refusal accepted (inl a) = not_both entries policy accepted.0 accepted.1 a.0 accepted.2 a.2
  not_source stay refusal accepted (inr a) = a.2 (stay accepted.0 a.0 accepted.3 (same_plans AreAccepted (λ made. RefusesPlans made a.0) accepted a.3))

  one_reason : OneReason → (made : List Plan) (a b : RankRefusal) → RefusesPlans made a → RefusesPlans made b → a ≢ plans.NoMemory → b ≢ plans.NoMemory → a ≡ b
  one_reason one made a b x y m n = by (one made a b x y)
    where
      by : (a ≡ plans.NoMemory) ⊎ ((b ≡ plans.NoMemory) ⊎ (a ≡ b)) → a ≡ b
      by (inl is) = absurd (m is)
      by (inr (inl is)) = absurd (n is)
      by (inr (inr same)) = same

  one_source : OneReason → (refusal other : TypeRefusal) → FromRule refusal ⊎ FromPlans refusal → FromRule other ⊎ FromPlans other → refusal ≡ other
  one_source one refusal other (inl a) (inl b) = sym a.1 ∙ ap type_refusal_of_rule (one_refusal entries policy a.0 b.0 a.2 b.2) ∙ b.1
  one_source one refusal other (inl a) (inr b) = absurd (not_both entries policy b.3.0 b.3.1 a.0 b.3.2 a.2)
  one_source one refusal other (inr a) (inl b) = absurd (not_both entries policy a.3.0 a.3.1 b.0 a.3.2 b.2)
  one_source one refusal other (inr a) (inr b) =
      let why : RefusesPlans a.3.0 b.0 = same_plans (λ made. RefusesPlans made a.0) (λ made. RefusesPlans made b.0) a.3 b.3 in
      sym a.1 ∙ ap type_refusal_of_plans (one_reason one a.3.0 a.0 b.0 a.3.3 why a.2 b.2) ∙ b.1

  refused_by_plans : (why : RankRefusal) → why ≢ plans.NoMemory → HasPlansWith entries policy (λ made. RefusesPlans made why) → HasRefusal entries policy
  refused_by_plans (plans.RoleClash name) n is = (RoleClash name, (λ e. cc), is)
  refused_by_plans (plans.Untriggered place) n is = (Untriggered place, (λ e. cc), is)
  refused_by_plans (plans.Cyclic name) n is = (Cyclic name, (λ e. cc), is)
  refused_by_plans plans.NoMemory n is = absurd (n refl)

  refused_by_rule : (why : Refusal) → IsFirstRefusal entries policy why → HasRefusal entries policy
  refused_by_rule (rule.Unguarded place) is = (Unguarded place, (λ e. cc), is)
  refused_by_rule (rule.NotEnforceable place) is = (NotEnforceable place, (λ e. cc), is)

  neither_is : ArePlansAnswered → (IsAccepted entries policy ⊎ HasRefusal entries policy → ⊥) → ⊥
  neither_is answers neither = by (answered entries policy)
    where
      by : ((made : List Plan) × (guards : List (Formula × List VarId)) × ArePlanned entries policy made guards) ⊎ ((why : Refusal) × IsFirstRefusal entries policy why) → ⊥
      by (inl planned) = answers planned.0 (λ either. of_plans_answered either)
        where
          of_plans_answered : AreAccepted planned.0 ⊎ ((refusal : RankRefusal) × (refusal ≡ plans.NoMemory → ⊥) × RefusesPlans planned.0 refusal) → ⊥
          of_plans_answered (inl accepted) = neither (inl (planned.0, planned.1, planned.2, accepted))
          of_plans_answered (inr refused) = neither (inr (refused_by_plans refused.0 refused.1 (planned.0, planned.1, planned.2, refused.2)))
      by (inr refused) = neither (inr (refused_by_rule refused.0 refused.1))

pub not_refused_too : AcceptedPlansStay → (entries : List NameEntry) (policy : List Formula)
    (refusal : TypeRefusal) → IsAccepted entries policy → RefusesPolicy entries policy refusal → refusal
    ≡ NoMemory
not_refused_too stay entries policy NoMemory accepted why = refl
not_refused_too stay entries policy refusal accepted why = absurd (not_source entries policy stay refusal accepted (source entries policy refusal why (λ e. cc)))

pub refused_once : OneReason → (entries : List NameEntry) (policy : List Formula) (refusal other : TypeRefusal)
    → RefusesPolicy entries policy refusal → RefusesPolicy entries policy other → refusal ≢ NoMemory
    → other ≢ NoMemory → refusal ≡ other
refused_once one entries policy refusal other a b m n = one_source entries policy one refusal other (source entries policy refusal a m) (source entries policy other b n)

pub accepted_or_refused : ArePlansAnswered → (entries : List NameEntry) (policy : List Formula) → (IsAccepted entries policy ⊎ HasRefusal entries policy → ⊥) → ⊥
accepted_or_refused answers entries policy neither = neither_is entries policy answers neither
