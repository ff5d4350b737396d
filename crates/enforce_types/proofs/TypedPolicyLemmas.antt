-- From the answers of the calls to that for the policy.
use Rattle.enforce_types.proofs.Vocabulary.{◌≡◌, ◌≤◌, ℕ, List, [], ◌∷◌, map, length, Result, Ok, Err, IsErrAnd, IfErr, refl, ap, subst, sym, All, AllByRecursion, All-cons, All-nil, MOST_NAMES}
use Rattle.enforce_types.proofs.Vocabulary.{MOST_NODES, Formula, tree_of, formula_size, stored_rule_formulas, rule_of, IsWellFormedPolicy, IsWellFormedRule, IsNumberedPlan, GuardBindsFresh, plan_of}
use Rattle.enforce_types.proofs.Vocabulary.{ArePlansWithinLimits, AreRanked, Ranked, AreAccepted, RefusesPlans, RankRefusal, NameEntry, IsFirstRefusal, RefusesPolicy, GivesRefusal}
use Rattle.enforce_types.proofs.Vocabulary.{type_refusal_of_plans, formulas_of, WorkTogether, BoundFormula, guard_of, guards_of, KeepsToSignature, ArePlanned, RulePlans, TypeRefusal}
use Rattle.formula_reader.specs.declared.policies.Rule.{Rule}
use Rattle.plan_terms.specs.declared.plans.Plan.{Plan as StoredPlan}
use Rattle.enforce_types.proofs.WellFormedPlans.{plans_end_later, plans_formed, plans_kept}
use Rattle.enforce_types.proofs.PlanLimits.{plans_within}
use Rattle.enforce_types.proofs.PolicyLemmas.{in_order}
use Rattle.rank_check.specs.declared.rank_answers.RankRefusal.TheVariants as plans
use Rattle.enforce_types.specs.declared.refusals.TypeRefusal.TheVariants as code

-- the formulas of stored rules are those of the pure ones
same_formulas : (rules : List Rule) → stored_rule_formulas rules ≡ formulas_of (map rule_of rules)
same_formulas [] = refl
same_formulas (rule ∷ rules) = ap (λ (fs : List Formula). tree_of rule.formula ∷ fs) (same_formulas rules)

each_small : (entries : List NameEntry) (rules : List Rule) → AllByRecursion (IsWellFormedRule entries) (map rule_of rules) → All (λ f. formula_size f ≤ MOST_NODES) (stored_rule_formulas rules)
each_small entries [] formed = All-nil (λ f. formula_size f ≤ MOST_NODES)
each_small entries (rule ∷ rules) formed = All-cons (λ f. formula_size f ≤ MOST_NODES) (tree_of rule.formula) (stored_rule_formulas rules) formed.0.small (each_small entries rules formed.1)

pub small_rules : (entries : List NameEntry) (rules seen : List Rule) → seen ≡ rules
    → IsWellFormedPolicy entries (map rule_of rules) → All (λ f. formula_size f ≤ MOST_NODES)
    (stored_rule_formulas seen)
small_rules entries rules seen see formed = subst (λ (rs : List Rule). All (λ f. formula_size f ≤ MOST_NODES) (stored_rule_formulas rs)) (sym see) (each_small entries rules formed.each)

-- each guard of the list is fresh
pub all_fresh : (guards : List BoundFormula) → AllByRecursion GuardBindsFresh (guards_of guards) → All (λ guard. GuardBindsFresh (guard_of guard)) guards
all_fresh [] fresh = All-nil (λ guard. GuardBindsFresh (guard_of guard))
all_fresh (guard ∷ guards) fresh = All-cons (λ guard. GuardBindsFresh (guard_of guard)) guard guards fresh.0 (all_fresh guards fresh.1)

module _ (entries : List NameEntry) where
  -- what was made of the rules is their plans
  abbrev Planned : List Rule → RulePlans → Type 0
  Planned rules made = ArePlanned entries (stored_rule_formulas rules) (map plan_of made.plans.items) (guards_of made.guards.items)

  planned_of : (rules seen : List Rule) (made : RulePlans) → seen ≡ rules → Planned seen made → Planned rules made
  planned_of rules seen made see h = subst (λ (rs : List Rule). Planned rs made) see h

  refuses_rule : (policy : List Formula) (e : TypeRefusal) → GivesRefusal (IsFirstRefusal entries policy) e → RefusesPolicy entries policy e
  refuses_rule policy (code.Unguarded place) h = h
  refuses_rule policy (code.NotEnforceable place) h = h
  refuses_rule policy (code.RoleClash name) h = absurd h
  refuses_rule policy (code.Untriggered place) h = absurd h
  refuses_rule policy (code.Cyclic name) h = absurd h
  refuses_rule policy code.NoMemory h = tt

  -- the refusal of a rule is that of the policy
  pub refused_rule : {T : Type 0} (rules seen : List Rule) (e : TypeRefusal) (result : Result T TypeRefusal) → seen ≡ rules
      → GivesRefusal (IsFirstRefusal entries (stored_rule_formulas seen)) e → IsErrAnd result (λ x. x ≡ e)
      → IfErr result (RefusesPolicy entries (stored_rule_formulas rules))
  refused_rule rules seen e (Ok typed) see h is = tt
  refused_rule rules seen e (Err x) see h is =
      subst (RefusesPolicy entries (stored_rule_formulas rules)) (sym is)
      (subst (λ (rs : List Rule). RefusesPolicy entries (stored_rule_formulas rs) e) see (refuses_rule (stored_rule_formulas seen) e h))

  -- the plans as they are passed on
  module _ (rules seen : List Rule) (made : RulePlans) (see : seen ≡ rules) (h : Planned seen made) (lent : List StoredPlan) (lends : lent ≡ made.plans.items)
    where
      -- of the pure rules
      planned_pure : ArePlanned entries (formulas_of (map rule_of rules)) (map plan_of made.plans.items) (guards_of made.guards.items)
      planned_pure = subst (λ (fs : List Formula). ArePlanned entries fs (map plan_of made.plans.items) (guards_of made.guards.items)) (same_formulas rules) (planned_of rules seen made see h)

      pub together : (ranked : Ranked) → IsWellFormedPolicy entries (map rule_of rules) → AreAccepted (map plan_of lent) → AreRanked (map plan_of lent) ranked
          → WorkTogether (record { plans = map plan_of made.plans.items; guards = guards_of made.guards.items; ranked = ranked })
      together ranked policy accepted are =
          let together : AreAccepted (map plan_of made.plans.items) = subst (λ (ps : List StoredPlan). AreAccepted (map plan_of ps)) lends accepted in
          record {
            formed = plans_formed entries (map rule_of rules) (map plan_of made.plans.items) (guards_of made.guards.items) policy planned_pure together.roles;
            later = plans_end_later entries (map rule_of rules) (map plan_of made.plans.items) (guards_of made.guards.items) policy planned_pure;
            accepted = together;
            ranked = subst (λ (ps : List StoredPlan). AreRanked (map plan_of ps) ranked) lends are;
          }

      pub kept : IsWellFormedPolicy entries (map rule_of rules) → KeepsToSignature entries (map plan_of made.plans.items) (guards_of made.guards.items)
      kept policy = plans_kept entries (map rule_of rules) (map plan_of made.plans.items) (guards_of made.guards.items) policy planned_pure

      pub fits : (names : ℕ) → names ≡ length entries → length entries ≤ MOST_NAMES → IsWellFormedPolicy entries (map rule_of rules) → ArePlansWithinLimits names (map plan_of lent)
      fits names count few policy =
          let whole = plans_within entries (map rule_of rules) (map plan_of made.plans.items) (guards_of made.guards.items) few policy planned_pure in
          subst (λ (n : ℕ). ArePlansWithinLimits n (map plan_of lent)) (sym count)
          (subst (λ (ps : List StoredPlan). ArePlansWithinLimits (length entries) (map plan_of ps)) (sym lends) whole)

      pub numbered : AllByRecursion IsNumberedPlan (map plan_of lent)
      numbered =
          subst (λ (ps : List StoredPlan). AllByRecursion IsNumberedPlan (map plan_of ps)) (sym lends)
          (in_order entries (stored_rule_formulas rules) (map plan_of made.plans.items) (guards_of made.guards.items) (planned_of rules seen made see h))

      pub refused : {T : Type 0} (why : RankRefusal) (result : Result T TypeRefusal)
          → RefusesPlans (map plan_of lent) why → IsErrAnd result
          (λ refusal. refusal ≡ type_refusal_of_plans why)
          → IfErr result (RefusesPolicy entries (stored_rule_formulas rules))
      refused why (Ok typed) refuses e = tt
      refused why (Err refusal) refuses e =
          subst (RefusesPolicy entries (stored_rule_formulas rules)) (sym e)
          (by why (subst (λ (ps : List StoredPlan). RefusesPlans (map plan_of ps) why) lends refuses))
        where
          by : (cause : RankRefusal) → RefusesPlans (map plan_of made.plans.items) cause → RefusesPolicy entries (stored_rule_formulas rules) (type_refusal_of_plans cause)
          by (plans.RoleClash name) holds = (map plan_of made.plans.items, guards_of made.guards.items, planned_of rules seen made see h, holds)
          by (plans.Untriggered place) holds = (map plan_of made.plans.items, guards_of made.guards.items, planned_of rules seen made see h, holds)
          by (plans.Cyclic name) holds = (map plan_of made.plans.items, guards_of made.guards.items, planned_of rules seen made see h, holds)
          by plans.NoMemory holds = tt
