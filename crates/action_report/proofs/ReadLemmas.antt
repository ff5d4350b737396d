-- What is read after the numbers, and the whole.
use Rattle.action_report.proofs.Vocabulary.{◌≡◌, ℕ, ◌<◌, Bool, true, List, [], ◌∷◌, ◌++◌, length, Option, Some, None, IfNone, slice_get, refl, sym, ap, subst, ◌∙◌, arith, zero, suc, AllByRecursion}
use Rattle.action_report.proofs.Vocabulary.{IsStrictlySortedBy, option_map, Valuation, bindings, no_values, variable_cmp, IsValue, VarId, nothing_rises, nothing_bound, Plan, FoundHasRisingScope}
use Rattle.action_report.proofs.Vocabulary.{IsScopedPlan, scoped_at, AddsBindings, IsRising, BindsJust, StandIn}
use Rattle.action_report.proofs.BindLemmas.{keys}
use Rattle.action_report.proofs.NumberLemmas.{all_at}
use Rattle.std.specs.FinMap as finite

-- where nothing is found, what is said of that case holds
pub when_none : {X P : Type 0} (o : Option X) → ((x : X) → o ≡ Some x → ⊥) → IfNone o P → P
when_none None none p = p
when_none (Some x) none p = absurd (none x refl)

with_node : (o : Option (Plan × List VarId)) (scope : List VarId) → option_map (λ node. node.1) o ≡ Some scope → (node : Plan) × (o ≡ Some (node, scope))
with_node None scope found = absurd cc
with_node (Some found) scope is = let same : found.1 ≡ scope = cc is in (found.0, ap (λ (s : List VarId). Some (found.0, s)) same)

-- the variables in scope at a node rise
pub scope_rises : FoundHasRisingScope → (plans : List Plan) (rule node leaf : ℕ) (scope : List VarId) → AllByRecursion (λ plan. IsScopedPlan plan []) plans
    → StandIn plans rule node leaf scope → IsStrictlySortedBy variable_cmp scope
scope_rises rises plans rule node leaf scope each stands =
    let found = with_node (scoped_at node stands.plan []) scope stands.in_scope in
    rises stands.plan found.0 [] scope node found.1 (all_at (λ plan. IsScopedPlan plan []) plans rule stands.plan each stands.planned) nothing_rises

pub rising_start : (v : Valuation) (list scope : List VarId) → v ≡ no_values → list ≡ scope → IsStrictlySortedBy variable_cmp scope → IsRising (bindings v) list
rising_start v list scope empty is rise =
    let none : bindings v ≡ [] = ap bindings empty ∙ nothing_bound in
    let same : keys (bindings v) ++ list ≡ scope = ap (λ l. keys l ++ list) none ∙ is in
    subst (IsStrictlySortedBy variable_cmp) (sym same) rise

pub binds_start : (v w : Valuation) (list scope : List VarId) (all : Bool) → v ≡ no_values → list ≡ scope → all ≡ true → AddsBindings list (bindings v) (bindings w) all → BindsJust scope w
binds_start v w list scope all empty is stood adds =
    let none : bindings v ≡ [] = ap bindings empty ∙ nothing_bound in
    let added = subst (AddsBindings list (bindings v) (bindings w)) stood adds in
    let same : bindings w ≡ added.0 = added.3 ∙ ap (λ l. l ++ added.0) none in
    record {
      variables = ap keys same ∙ added.1 ∙ is;
      values = subst (AllByRecursion (λ binding. IsValue binding.1)) (sym same) added.2;
    }

pub same_start : (v w u : Valuation) → v ≡ no_values → bindings w ≡ bindings v ++ bindings u → w ≡ u
same_start v w u empty is =
    finite.same_entries_map w u (is ∙ ap (λ l. l ++ bindings u) (ap bindings empty ∙ nothing_bound))

-- an item stands at each place within
pub there : {X : Type 0} (xs : List X) (n : ℕ) → n < length xs → (x : X) × (slice_get xs n ≡ Some x)
there [] n within = absurd (omega (arith, within))
there (x ∷ xs) zero within = (x, refl)
there (x ∷ xs) (suc n) within = there xs n (omega (arith, within))
