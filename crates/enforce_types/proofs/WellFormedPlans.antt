-- The plans of a policy that was read are well-formed with their guards.
use Rattle.enforce_types.proofs.Vocabulary.{◌≡◌, ℕ, suc, ◌+◌, ◌*◌, ◌<◌, ◌≤◌, ◌^◌, List, [], ◌∷◌, length, refl, sym, ap, subst, arith, AllByRecursion, AllZip, sum_by, length-map, sum_by-cons}
use Rattle.enforce_types.proofs.Vocabulary.{AllZip-long, AllByRecursion-append, MOST_NODES, MOST_RULES, VarId, Formula, formula_size, Rule, IsWellFormedPolicy, NothingClashes, all_guards}
use Rattle.enforce_types.proofs.Vocabulary.{guards_of_plan, nodes, Plan, GuardsAreListed, GuardsAreSafe, GuardBindsFresh, IsSafeNode, LooksBack, EndsInTime, IsSmallPlan, AreWellFormed, IsWellFormed}
use Rattle.enforce_types.proofs.Vocabulary.{IsNumberedPlan, OfGuard, AllEndLater, LooksBelow, AtEach, IsScopedNode, AtEach-guards, AtEach-weaker, NameEntry, is_causable, is_suppressible, ArePlanned}
use Rattle.enforce_types.proofs.Vocabulary.{HasPlan, renumber_all, guard_count, KeepsToSignature, formulas_of}
use Rattle.std.proofs.Common.{length-append}
use Rattle.enforce_types.proofs.GuardPlaces.{all_listed}
use Rattle.enforce_types.proofs.MadeNodes.{IsFine}
use Rattle.enforce_types.proofs.NumberingLemmas.{safe_stays}
use Rattle.enforce_types.proofs.PlanLimits.{IsFinePlan, all_end_later, all_filled, caused_can, fine_all_nodes, planned_fine, suppressed_can}
use Rattle.enforce_types.proofs.PlanSizes.{guards_are_nodes}
use Rattle.enforce_types.proofs.RulePlanLemmas.{guards_counted, rule_safe}
use Rattle.enforce_types.proofs.PolicyLemmas.{in_order}
use Rattle.plan_terms.specs.meaning.Plans as plan

abbrev Guard : Type 0
Guard = Formula × List VarId

-- what holds of each guard of each plan holds of each of all
of_all_guards : (Q : Guard → Type 0) (plans : List Plan) → AllByRecursion (λ p. AtEach (OfGuard Q) p []) plans → AllByRecursion Q (all_guards plans)
of_all_guards Q [] h = tt
of_all_guards Q (p ∷ plans) h = AllByRecursion-append Q (guards_of_plan p []) (all_guards plans) (AtEach-guards Q p [] h.0) (of_all_guards Q plans h.1)

-- the nodes of a guard; and of guards of so many nodes each
abbrev size : Guard → ℕ
size guard = formula_size guard.0

sum_small : (gs : List Guard) → AllByRecursion (λ guard. formula_size guard.0 ≤ 401) gs → sum_by (λ guard. formula_size guard.0) gs ≤ 401 * length gs
sum_small [] h = omega arith
sum_small (g ∷ gs) h = omega (arith, h.0, sum_small gs h.1, sum_by-cons size g gs)

few_guards : (plans : List Plan) → AllByRecursion IsSmallPlan plans → length (all_guards plans) ≤ 400 * length plans
few_guards [] h = omega arith
few_guards (p ∷ plans) h = omega (arith, h.0, few_guards plans h.1, length-append (guards_of_plan p []) (all_guards plans), guards_counted p [], guards_are_nodes p)

as_many : (g : ℕ) (made : List Plan) → length (renumber_all g made) ≡ length made
as_many g [] = refl
as_many g (p ∷ made) = ap suc (as_many (g + guard_count p) made)

looks_back : (p : Plan) (scope : List VarId) → IsSafeNode p scope → OfGuard LooksBack p scope
looks_back (plan.CausePlan node place name terms) scope s = tt
looks_back (plan.SuppressPlan node place name terms) scope s = tt
looks_back (plan.Both node l r) scope s = tt
looks_back (plan.Either node l r) scope s = tt
looks_back (plan.TestOr node guard test body) scope s = s.1
looks_back (plan.Guarded node vars guard test body) scope s = s.2
looks_back (plan.EventuallyPlan node place low high body) scope s = tt
looks_back (plan.AlwaysPlan node place low high body) scope s = tt
looks_back (plan.UntilPlan node place low high l r) scope s = tt
looks_back (plan.NextPlan node place high body) scope s = tt

abbrev IsSafe : Plan → Type 0
IsSafe p = GuardsAreSafe p []

all_back : (plans : List Plan) → AllByRecursion IsSafe plans → AllByRecursion (λ p. AtEach (OfGuard LooksBack) p []) plans
all_back [] h = tt
all_back (p ∷ plans) h = (AtEach-weaker IsSafeNode (OfGuard LooksBack) looks_back p [] h.0, all_back plans h.1)

module _ (entries : List NameEntry) where
  all_safe : (g : ℕ) (policy : List Formula) (made : List Plan) → AllZip (HasPlan entries) policy made → AllByRecursion IsSafe (renumber_all g made)
  all_safe g [] [] h = tt
  all_safe g [] (p ∷ made) h = absurd h
  all_safe g (f ∷ policy) [] h = absurd h
  all_safe g (f ∷ policy) (p ∷ made) h = (safe_stays p 0 g [] (rule_safe entries f p h.0), all_safe (g + guard_count p) policy made h.1)

  abbrev Here : Plan → List VarId → Type 0
  Here p scope = IsFine entries (is_causable entries) (is_suppressible entries) MOST_NODES p scope

  -- what follows of each node with its variables
  all_with : (P : Plan → List VarId → Type 0) → ((p : Plan) (scope : List VarId) → Here p scope
      → P p scope) → (plans : List Plan) → AllByRecursion (IsFinePlan entries) plans
      → AllByRecursion (λ p. AtEach P p []) plans
  all_with P follows [] fine = tt
  all_with P follows (p ∷ plans) fine = (AtEach-weaker Here P follows p [] fine.0, all_with P follows plans fine.1)

  together : (guards : List Guard) (plans : List Plan) → AllByRecursion IsSmallPlan plans
      → AllByRecursion IsNumberedPlan plans → AllByRecursion (λ p. AtEach IsScopedNode p []) plans
      → AllByRecursion IsSafe plans
      → AllByRecursion (λ p. GuardsAreListed guards p []) plans → AllByRecursion (λ p. AllByRecursion EndsInTime (nodes p)) plans → AllByRecursion (IsWellFormed guards) plans
  together guards [] small numbered scoped safe listed ends = tt
  together guards (p ∷ plans) small numbered scoped safe listed ends = (
    record { small = small.0; numbered = numbered.0; scoped = scoped.0; safe = safe.0; listed = listed.0; ends = ends.0 },
    together guards plans small.1 numbered.1 scoped.1 safe.1 listed.1 ends.1,
  )

  module _ (rules : List Rule) (plans : List Plan) (guards : List Guard) (formed : IsWellFormedPolicy entries rules) (are : ArePlanned entries (formulas_of rules) plans guards) where
    fine : AllByRecursion (IsFinePlan entries) plans × AllByRecursion IsSmallPlan plans
    fine = planned_fine entries rules plans guards formed are

    few : length plans ≤ MOST_RULES
    few =
        let made : length are.made ≡ length (formulas_of rules) = AllZip-long (HasPlan entries) (formulas_of rules) are.made are.answered in
        omega (arith, formed.few, length-map rules (λ (rule : Rule). rule.formula), made, as_many 0 are.made, ap length are.numbered)

    of_guards : (Q : Guard → Type 0) → ((p : Plan) (scope : List VarId) → Here p scope → OfGuard Q p scope) → AllByRecursion Q guards
    of_guards Q follows = subst (AllByRecursion Q) (sym are.guarded) (of_all_guards Q plans (all_with (OfGuard Q) follows plans fine.0))

    safe : AllByRecursion IsSafe plans
    safe = subst (AllByRecursion IsSafe) (sym are.numbered) (all_safe 0 (formulas_of rules) are.made are.answered)

    small : sum_by (λ guard. formula_size guard.0) guards < 2 ^ 32
    small =
        let each : AllByRecursion (λ guard. formula_size guard.0 ≤ 401) guards = of_guards (λ guard. formula_size guard.0 ≤ 401) (λ p scope h. h.3) in
        let count : length guards ≡ length (all_guards plans) = ap length are.guarded in
        omega (arith, sum_small guards each, count, few_guards plans fine.1, few)

    pub plans_formed : NothingClashes plans → AreWellFormed plans guards
    plans_formed roles = record {
      few = few;
      each = together guards plans fine.1 (in_order entries (formulas_of rules) plans guards are) (all_with IsScopedNode (λ p scope h. h.0) plans fine.0) safe
          (all_listed entries (formulas_of rules) plans guards are) (fine_all_nodes entries EndsInTime (λ p scope h. h.4) plans fine.0);
      listed = are.guarded;
      roles = roles;
      fresh = of_guards GuardBindsFresh (λ p scope h. h.1);
      back = subst (AllByRecursion LooksBack) (sym are.guarded) (of_all_guards LooksBack plans (all_back plans safe));
      small = small;
    }

    pub plans_end_later : AllEndLater plans
    plans_end_later = all_end_later entries plans fine.0

    pub plans_kept : KeepsToSignature entries plans guards
    plans_kept = record {
      caused = caused_can entries plans fine.0;
      suppressed = suppressed_can entries plans fine.0;
      filled = all_filled entries plans fine.0;
      looked_for = of_guards (LooksBelow (length entries)) (λ p scope h. h.2);
    }
