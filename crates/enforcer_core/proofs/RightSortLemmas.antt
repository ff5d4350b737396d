-- The guards of a plan that keeps to sorts give values of them.
use Rattle.enforcer_core.proofs.Vocabulary.{◌≡◌, ◌∙◌, ℕ, zero, suc, ◌-◌, ◌≤◌, ⊎_elim, Bool, true, false, nat_lt, List, [], ◌∷◌, ◌++◌, Some, length, take, Contains, refl, sym, subst, arith, slice_get}
use Rattle.enforcer_core.proofs.Vocabulary.{AllByRecursion, get_or-take, get_or_past, length-take-le, none-some, same_Some, no_step, Contains-append, none_in_nil, rising_apart, variable_cmp_total}
use Rattle.enforcer_core.proofs.Vocabulary.{Step, VarId, Value, value_at-with_outside, Plan, AtEach, IsScopedPlan, IsScopedNode, has_sort-from_sort, has_sort-sort, FitsSignature, has_sort, NameEntry}
use Rattle.enforcer_core.proofs.Vocabulary.{Sort, Int, KeepsSorts, PlanKeepsSorts, TraceFits, GivesRight}
use Rattle.plan_terms.specs.meaning.Plans as plan

-- ---- the sorts of rules

-- each plan keeps to some sorts
abbrev pub AllKeepSorts : List NameEntry → List Plan → Type 0
AllKeepSorts entries plans = AllByRecursion (λ (plan : Plan). (sorts : VarId → Sort) × PlanKeepsSorts entries sorts plan) plans

-- the sorts of the variables of a rule
abbrev pub sorts_in : (entries : List NameEntry) (plans : List Plan) → AllKeepSorts entries plans → (rule : ℕ) → VarId → Sort
sorts_in entries [] keep rule = λ x. Int
sorts_in entries (plan ∷ plans) keep zero = keep.0.0
sorts_in entries (plan ∷ plans) keep (suc rule) = sorts_in entries plans keep.1 rule

-- what is known of the sorts of a rule is known of its plan
pub sorts_keep : (entries : List NameEntry) (plans : List Plan) (keep : AllKeepSorts entries plans) (rule : ℕ)
    (p : Plan) → slice_get plans rule ≡ Some p → PlanKeepsSorts entries (sorts_in entries plans keep rule) p
sorts_keep entries [] keep rule p at = absurd (none-some p at)
sorts_keep entries (q ∷ plans) keep zero p at = subst (PlanKeepsSorts entries keep.0.0) (same_Some q p at) keep.0.1
sorts_keep entries (q ∷ plans) keep (suc rule) p at = sorts_keep entries plans keep.1 rule p at

front_fits : (entries : List NameEntry) (trace : List Step) (n : ℕ) → n ≤ length trace → TraceFits entries trace → TraceFits entries (take n trace)
front_fits entries trace n le fit i event there = by (nat_lt i n) refl
  where
    by : (b : Bool) → nat_lt i n ≡ b → FitsSignature entries event
    by true less = fit i event (subst (λ (s : Step). Contains s.events event) (get_or-take n trace i no_step (grind (arith, less))) there)
    by false not_less = absurd (none_in_nil event (subst (λ (s : Step). Contains s.events event)
        (get_or_past (take n trace) i no_step (let long : length (take n trace)
        ≡ n = length-take-le n trace le in grind (arith, not_less, long))) there))

-- ---- guards

module _ (entries : List NameEntry) (sorts : VarId → Sort) (trace : List Step) (trace_fits : TraceFits entries trace) where
  abbrev Right : VarId → Value → Bool
  Right x value = has_sort (sorts x) value

  gives : (p : Plan) (scope : List VarId) → AtEach IsScopedNode p scope → AtEach (KeepsSorts entries sorts) p scope → AtEach (GivesRight trace Right) p scope
  gives (plan.CausePlan node place name terms) scope scoped keeps = tt
  gives (plan.SuppressPlan node place name terms) scope scoped keeps = tt
  gives (plan.Both node l r) scope scoped keeps = (tt, gives l scope scoped.1 keeps.1, gives r scope scoped.2 keeps.2)
  gives (plan.Either node l r) scope scoped keeps = (tt, gives l scope scoped.1 keeps.1, gives r scope scoped.2 keeps.2)
  gives (plan.TestOr node guard test body) scope scoped keeps = (tt, gives body scope scoped.1 keeps.1)
  gives (plan.Guarded node xs guard test body) scope scoped keeps = (
    λ steps v row less long right holds x value there at.
        ⊎_elim
        (λ old. right x value old (sym (value_at-with_outside xs row v x (λ also. rising_apart variable_cmp_total scope xs scoped.0.0 x also old)) ∙ at))
        (λ new. has_sort-from_sort (sorts x) value (keeps.0.1 (take (suc steps) trace)
        (length (take (suc steps) trace) - 1) v row
        (front_fits entries trace (suc steps) (omega (arith, less)) trace_fits)
        (λ y y_there other y_at. has_sort-sort (sorts y) other (right y other y_there y_at)) holds x new value at))
        (Contains-append scope xs x there),
    gives body (scope ++ xs) scoped.1 keeps.1,
  )
  gives (plan.EventuallyPlan node place low high body) scope scoped keeps = (tt, gives body scope scoped.1 keeps.1)
  gives (plan.AlwaysPlan node place low high body) scope scoped keeps = (tt, gives body scope scoped.1 keeps.1)
  gives (plan.UntilPlan node place low high l r) scope scoped keeps = (tt, gives l scope scoped.1 keeps.1, gives r scope scoped.2 keeps.2)
  gives (plan.NextPlan node place high body) scope scoped keeps = (tt, gives body scope scoped.1 keeps.1)

-- at each position of a trace that fits
pub gives_right : (entries : List NameEntry) (sorts : VarId → Sort) (plan : Plan) (trace : List Step) → TraceFits entries trace → IsScopedPlan plan [] → PlanKeepsSorts entries sorts plan
    → AtEach (GivesRight trace (λ x value. has_sort (sorts x) value)) plan []
gives_right entries sorts p trace trace_fits scoped keeps = gives entries sorts trace trace_fits p [] scoped keeps
