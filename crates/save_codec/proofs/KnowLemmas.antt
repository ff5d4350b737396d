-- What is known of rules and windows, one after the other.
use Rattle.save_codec.proofs.Vocabulary.{◌≡◌, ◌++◌, ◌∷◌, ◌+◌, ◌<◌, [], ℕ, zero, suc, List, Some, Contains, IsTrue, length, get_or, take, map, slice_get, inl, inr, ⊎_elim, refl, sym, ap, subst, ◌∙◌}
use Rattle.save_codec.proofs.Vocabulary.{arith, map-append, take_more, Contains-append_left, Contains-append_right, Contains-append, here, Formula, NameEntry, Plan, plan_of, numbered_operator}
use Rattle.save_codec.proofs.Vocabulary.{WindowShape, KnowRules, KnowWindows, KnowsJust, Learns, GuardedPlanTells, GuardTells, PlanTells, has_guard, Known}
use Rattle.plan_terms.specs.declared.plans.Plan.{Plan as Stored}

pub rules_on : (entries : List NameEntry) (plans : List Plan) (known : List Known) (plan : Plan) (more : Known) → KnowRules entries plans known → KnowsJust (PlanTells entries plan) more
    → KnowRules entries (plans ++ plan ∷ []) (known ++ more ∷ [])
rules_on entries [] [] plan more so_far just = (just, tt)
rules_on entries [] (k ∷ known) plan more so_far just = absurd so_far
rules_on entries (p ∷ plans) [] plan more so_far just = absurd so_far
rules_on entries (p ∷ plans) (k ∷ known) plan more so_far just = (so_far.0, rules_on entries plans known plan more so_far.1 just)

pub windows_on : (entries : List NameEntry) (plans : List Plan) (windows : List (ℕ × Formula)) (known : List Known) (window : ℕ × Formula) (more : Known) → KnowWindows entries plans windows known
    → KnowsJust (GuardTells entries plans window.0) more → KnowWindows entries plans (windows ++ window ∷ []) (known ++ more ∷ [])
windows_on entries plans [] [] window more so_far just = (just, tt)
windows_on entries plans [] (k ∷ known) window more so_far just = absurd so_far
windows_on entries plans (w ∷ windows) [] window more so_far just = absurd so_far
windows_on entries plans (w ∷ windows) (k ∷ known) window more so_far just = (so_far.0, windows_on entries plans windows known window more so_far.1 just)

-- what is known of a rule's plan
pub rule_known : (entries : List NameEntry) (plans : List Plan) (known : List Known) (rule : ℕ) (plan : Plan) → KnowRules entries plans known → slice_get plans rule ≡ Some plan
    → (k : Known) × (slice_get known rule ≡ Some k) × KnowsJust (PlanTells entries plan) k
rule_known entries [] known rule plan all found = absurd cc
rule_known entries (p ∷ plans) [] rule plan all found = absurd all
rule_known entries (p ∷ plans) (k ∷ known) zero plan all found =
    let same : p ≡ plan = cc found in
    (k, refl, subst (λ (q : Plan). KnowsJust (PlanTells entries q) k) same all.0)
rule_known entries (p ∷ plans) (k ∷ known) (suc rule) plan all found = rule_known entries plans known rule plan all.1 found

pub window_known : (entries : List NameEntry) (plans : List Plan) (windows : List (ℕ × Formula)) (known : List Known) (number : ℕ) (window : ℕ × Formula) → KnowWindows entries plans windows known
    → slice_get windows number ≡ Some window → (k : Known) × (slice_get known number ≡ Some k) × KnowsJust (GuardTells entries plans window.0) k
window_known entries plans [] known number window all found = absurd cc
window_known entries plans (w ∷ windows) [] number window all found = absurd all
window_known entries plans (w ∷ windows) (k ∷ known) zero window all found =
    let same : w ≡ window = cc found in
    (k, refl, subst (λ (q : ℕ × Formula). KnowsJust (GuardTells entries plans q.0) k) same all.0)
window_known entries plans (w ∷ windows) (k ∷ known) (suc number) window all found = window_known entries plans windows known number window all.1 found

-- ---- steps of loops

pub take_item : {X : Type 0} (xs : List X) (i : ℕ) (x : X) → i < length xs → x ≡ get_or xs i x → take (i + 1) xs ≡ take i xs ++ x ∷ []
take_item xs i x within is = take_more xs i x within ∙ ap (λ y. take i xs ++ y ∷ []) (sym is)

map_item : {X Y : Type 0} (f : X → Y) (xs : List X) (i : ℕ) (x : X) → i < length xs → x ≡ get_or xs i x → map f (take (i + 1) xs) ≡ map f (take i xs) ++ f x ∷ []
map_item f xs i x within is = ap (map f) (take_item xs i x within is) ∙ map-append f (take i xs) (x ∷ [])

pub rules_step : (entries : List NameEntry) (plans : List Stored) (i : ℕ) (plan : Stored) (known after : List Known) (more : Known) → i < length plans → plan ≡ get_or plans i plan
    → KnowRules entries (map plan_of (take i plans)) known → KnowsJust (PlanTells entries (plan_of plan)) more → after ≡ known ++ more ∷ []
    → KnowRules entries (map plan_of (take (i + 1) plans)) after
rules_step entries plans i plan known after more within is so_far just put =
    subst (λ (ps : List Plan). KnowRules entries ps after) (sym (map_item plan_of plans i plan within is))
    (subst (KnowRules entries (map plan_of (take i plans) ++ plan_of plan ∷ [])) (sym put) (rules_on entries (map plan_of (take i plans)) known (plan_of plan) more so_far just))

pub windows_step : (entries : List NameEntry) (plans : List Plan) (shapes : List WindowShape) (i : ℕ) (shape : WindowShape) (known after : List Known) (more : Known) → i < length shapes
    → shape ≡ get_or shapes i shape
    → KnowWindows entries plans (map numbered_operator (take i shapes)) known → KnowsJust (GuardTells entries plans shape.guard) more → after ≡ known ++ more ∷ []
    → KnowWindows entries plans (map numbered_operator (take (i + 1) shapes)) after
windows_step entries plans shapes i shape known after more within is so_far just put =
    subst (λ (ws : List (ℕ × Formula)). KnowWindows entries plans ws after) (sym (map_item numbered_operator shapes i shape within is))
    (subst (KnowWindows entries plans (map numbered_operator (take i shapes) ++ numbered_operator shape ∷ [])) (sym put)
    (windows_on entries plans (map numbered_operator (take i shapes)) known (numbered_operator shape) more so_far just))

one_more_plan : (entries : List NameEntry) (plans : List Plan) (guard : ℕ) (plan : Plan) (before after : Known) → KnowsJust (GuardTells entries plans guard) before
    → Learns (GuardedPlanTells entries guard plan) before after → KnowsJust (GuardTells entries (plans ++ plan ∷ []) guard) after
one_more_plan entries plans guard plan before after just learns = λ x sort. (
  λ knows. ⊎_elim
      (λ k. let t = (just x sort).0 k in (t.0, Contains-append_left plans (plan ∷ []) t.0 t.1, t.2, t.3))
      (λ t. (plan, Contains-append_right plans (plan ∷ []) plan (here plan []), t.0, t.1))
      ((learns x sort).0 knows),
  λ t. ⊎_elim
      (λ there. (learns x sort).1 (inl ((just x sort).1 (t.0, there, t.2, t.3))))
      (λ last. let same : plan ≡ t.0 = only t.0 last in
      (learns x sort).1 (inr (subst (λ (p : Plan). IsTrue (has_guard guard p)) (sym same) t.2, subst (λ (p : Plan). PlanTells entries p x sort) (sym same) t.3)))
      (Contains-append plans (plan ∷ []) t.0 t.1),
)
  where
    only : (other : Plan) → Contains (plan ∷ []) other → plan ≡ other
    only other (zero, within, is) = is
    only other (suc k, within, is) = absurd (omega (arith, within))

pub guard_step : (entries : List NameEntry) (plans : List Stored) (guard i : ℕ) (plan : Stored) (before after : Known) → i < length plans → plan ≡ get_or plans i plan
    → KnowsJust (GuardTells entries (map plan_of (take i plans)) guard) before → Learns (GuardedPlanTells entries guard (plan_of plan)) before after
    → KnowsJust (GuardTells entries (map plan_of (take (i + 1) plans)) guard) after
guard_step entries plans guard i plan before after within is just learns =
    subst (λ (ps : List Plan). KnowsJust (GuardTells entries ps guard) after) (sym (map_item plan_of plans i plan within is))
    (one_more_plan entries (map plan_of (take i plans)) guard (plan_of plan) before after just learns)
