-- A rule misses nothing where the step has no event of a name that wakes it.
use Rattle.choice_step.proofs.Vocabulary.{◌≡◌, ℕ, zero, suc, ◌<◌, List, [], ◌∷◌, Option, None, Some, ◌++◌, Contains, length, map, get_or, refl, sym, subst, ap, ⊎_elim, inl, inr, ◌⊎◌, arith, Bor}
use Rattle.choice_step.proofs.Vocabulary.{option_map, option_or, slice_get, All-contains, Contains-append_cases, Contains-append_left, here, later, Contains-append_right, none-some, same_Some}
use Rattle.choice_step.proofs.Vocabulary.{step_at, none_in_nil, Contains-flat_map, Valuation, Event, NameId, Step, VarId, Formula, And, Atom, Exists, Or, HaveSameEvents, names_in_formula}
use Rattle.choice_step.proofs.Vocabulary.{shown_events, Plan, CausePlan, SuppressPlan, Both, Either, TestOr, Guarded, EventuallyPlan, AlwaysPlan, UntilPlan, NextPlan, nodes, suppressed_at}
use Rattle.choice_step.proofs.Vocabulary.{suppressed_below, of_each, triggers, waking_names, looks_at, IsGuard, guard_formula, guard_names, PlacedGuard, CanAskIn, CanAskPlan}
use Rattle.choice_step.proofs.Vocabulary.{placed_guard, Missing, AreMetBy, UnwokenMissesNothing, last_position, GainsNoSuppressed, HasNoneOf, IsAway}

-- ---- the names that wake a plan are among those of its guards, or the plan suppresses them

either_named : (a b : Option (List NameId)) (P : NameId → Type 0)
    → ((names : List NameId) → a ≡ Some names → (name : NameId) → Contains names name → P name)
    → ((names : List NameId) → b ≡ Some names → (name : NameId) → Contains names name → P name)
    → (names : List NameId) → option_or a b ≡ Some names → (name : NameId) → Contains names name → P name
either_named None b P front back names is name there = back names is name there
either_named (Some own) b P front back names is name there = front names is name there

each_named : (a b : Option (List NameId)) (P : NameId → Type 0)
    → ((names : List NameId) → a ≡ Some names → (name : NameId) → Contains names name → P name)
    → ((names : List NameId) → b ≡ Some names → (name : NameId) → Contains names name → P name)
    → (names : List NameId) → of_each a b ≡ Some names → (name : NameId) → Contains names name → P name
each_named None b P front back names is name there = absurd (none-some names is)
each_named (Some own) None P front back names is name there = absurd (none-some names is)
each_named (Some own) (Some others) P front back names is name there =
    ⊎_elim
    (λ left. front own refl name left)
    (λ right. back others refl name right)
    (Contains-append_cases own others name (subst (λ l. Contains l name) (sym (same_Some (own ++ others) names is)) there))

triggers_within : (f : Formula) (names : List NameId) → triggers f ≡ Some names → (name : NameId) → Contains names name
    → Contains (names_in_formula f) name
triggers_within (Atom place own terms) names is name there = subst (λ l. Contains l name) (sym (same_Some (own ∷ []) names is)) there
triggers_within (And place g h) names is name there =
    either_named (triggers g) (triggers h) (Contains (names_in_formula g ++ names_in_formula h))
    (λ own same n among. Contains-append_left (names_in_formula g) (names_in_formula h) n (triggers_within g own same n among))
    (λ own same n among. Contains-append_right (names_in_formula g) (names_in_formula h) n (triggers_within h own same n among))
    names is name there
triggers_within (Or place g h) names is name there =
    each_named (triggers g) (triggers h) (Contains (names_in_formula g ++ names_in_formula h))
    (λ own same n among. Contains-append_left (names_in_formula g) (names_in_formula h) n (triggers_within g own same n among))
    (λ own same n among. Contains-append_right (names_in_formula g) (names_in_formula h) n (triggers_within h own same n among))
    names is name there
triggers_within (Exists place xs g) names is name there = triggers_within g names is name there
triggers_within f names is name there = absurd (none-some names is)

-- the guard of a plan that can be asked is among those of the step
guard_at : (guards : List PlacedGuard) (number : ℕ) (test : Formula) (scope : List VarId)
    → slice_get (map placed_guard guards) number ≡ Some (test, scope)
    → (g : PlacedGuard) × IsGuard guards number g × (guard_formula g ≡ test)
guard_at [] number test scope is = absurd (none-some (test, scope) is)
guard_at (g ∷ guards) zero test scope is =
    (g, refl, ap (λ (p : Formula × List VarId). p.0) (same_Some (placed_guard g) (test, scope) is))
guard_at (g ∷ guards) (suc number) test scope is = guard_at guards number test scope is

pub test_named : (guards : List PlacedGuard) (number : ℕ) (test : Formula) (scope : List VarId)
    → slice_get (map placed_guard guards) number ≡ Some (test, scope) → (name : NameId) → Contains (names_in_formula test) name
    → Contains (guard_names guards) name
test_named guards number test scope is name there =
    let g = guard_at guards number test scope is in
    looks_at guards number g.0 name g.1 (subst (λ f. Contains (names_in_formula f) name) (sym g.2) there)

module _ (guards : List PlacedGuard) where
  abbrev IsNamed : Plan → NameId → Type 0
  IsNamed plan name = Contains (guard_names guards) name ⊎ ((leaf : Plan) × Contains (nodes plan) leaf × Contains (suppressed_at leaf) name)

  inside : (part whole : Plan) (name : NameId) → ((leaf : Plan) → Contains (nodes part) leaf → Contains (nodes whole) leaf) → IsNamed part name
      → IsNamed whole name
  inside part whole name deeper named = ⊎_elim (λ looked. inl looked) (λ found. inr (found.0, deeper found.0 found.1, found.2)) named

  on_left : (whole left right : Plan) (name : NameId) → nodes whole ≡ whole ∷ nodes left ++ nodes right → IsNamed left name → IsNamed whole name
  on_left whole left right name is named = inside left whole name (λ leaf there. subst (λ l. Contains l leaf) (sym is)
      (later leaf whole (nodes left ++ nodes right) (Contains-append_left (nodes left) (nodes right) leaf there))) named

  on_right : (whole left right : Plan) (name : NameId) → nodes whole ≡ whole ∷ nodes left ++ nodes right → IsNamed right name → IsNamed whole name
  on_right whole left right name is named = inside right whole name (λ leaf there. subst (λ l. Contains l leaf) (sym is)
      (later leaf whole (nodes left ++ nodes right) (Contains-append_right (nodes left) (nodes right) leaf there))) named

  below : (whole body : Plan) (name : NameId) → nodes whole ≡ whole ∷ nodes body → IsNamed body name → IsNamed whole name
  below whole body name is named = inside body whole name (λ leaf there. subst (λ l. Contains l leaf) (sym is) (later leaf whole (nodes body) there)) named

  woken_within : (plan : Plan) (scope : List VarId) → CanAskIn (map placed_guard guards) plan scope → (names : List NameId)
      → waking_names plan ≡ Some names → (name : NameId) → Contains names name → IsNamed plan name
  woken_within (SuppressPlan node place own terms) scope can names is name there =
      inr (SuppressPlan node place own terms, here (SuppressPlan node place own terms) [], subst (λ l. Contains l name) (sym (same_Some (own ∷ []) names is)) there)
  woken_within (Both node left right) scope can names is name there =
      each_named (waking_names left) (waking_names right) (IsNamed (Both node left right))
      (λ own same n among. on_left (Both node left right) left right n refl (woken_within left scope can.1 own same n among))
      (λ own same n among. on_right (Both node left right) left right n refl (woken_within right scope can.2 own same n among))
      names is name there
  woken_within (Either node left right) scope can names is name there =
      each_named (waking_names left) (waking_names right) (IsNamed (Either node left right))
      (λ own same n among. on_left (Either node left right) left right n refl (woken_within left scope can.1 own same n among))
      (λ own same n among. on_right (Either node left right) left right n refl (woken_within right scope can.2 own same n among))
      names is name there
  woken_within (TestOr node guard test body) scope can names is name there =
      below (TestOr node guard test body) body name refl (woken_within body scope can.1 names is name there)
  woken_within (Guarded node xs guard test body) scope can names is name there =
      either_named (triggers test) (waking_names body) (IsNamed (Guarded node xs guard test body))
      (λ own same n among. inl (test_named guards guard test scope can.0.0.listed n (triggers_within test own same n among)))
      (λ own same n among. below (Guarded node xs guard test body) body n refl (woken_within body (scope ++ xs) can.1 own same n among))
      names is name there
  woken_within (CausePlan node place own terms) scope can names is name there = absurd (none-some names is)
  woken_within (EventuallyPlan node place low high body) scope can names is name there = absurd (none-some names is)
  woken_within (AlwaysPlan node place low high body) scope can names is name there = absurd (none-some names is)
  woken_within (UntilPlan node place low high left right) scope can names is name there = absurd (none-some names is)
  woken_within (NextPlan node place high body) scope can names is name there = absurd (none-some names is)

-- ---- rules that sleep

pub none_met : (events : List Event) (own : Option (List NameId)) → HasNoneOf (Some own) events → AreMetBy events own → ⊥
none_met events None away met = away
none_met events (Some names) away (event, there, named) = All-contains (IsAway events) names event.name away named event there refl

-- where the events were in order before they changed in names that no guard looks for, those of the names that wake a
-- plan were there then
module _ (plans : List Plan) (plan : Plan) (guards : List PlacedGuard) (ordered events : List Event) (among : Contains plans plan)
    (alike : HaveSameEvents (guard_names guards) ordered events) (fewer : GainsNoSuppressed plans ordered events) where
  met_before : (own : Option (List NameId)) → ((names : List NameId) → own ≡ Some names → (name : NameId) → Contains names name → IsNamed guards plan name)
      → AreMetBy events own → AreMetBy ordered own
  met_before None within met = tt
  met_before (Some names) within (event, there, named) = (
    event,
    ⊎_elim
        (λ looked. (alike event looked).1 there)
        (λ found. fewer event (Contains-flat_map suppressed_below plans plan event.name among (Contains-flat_map suppressed_at (nodes plan) found.0 event.name found.1 found.2)) there)
        (within names refl event.name named),
    named,
  )

  -- so it is of the rule of a number
  pub rule_sleeps : (trace : List Step) (v : Valuation) (at : Option (Option (List NameId))) → UnwokenMissesNothing
      → CanAskPlan (map placed_guard guards) plan v → at ≡ Some (waking_names plan) → (step_at trace (last_position trace)).events ≡ events
      → HasNoneOf at ordered → Missing trace plan v []
  rule_sleeps trace v at unwoken can is same away =
      unwoken (map placed_guard guards) trace plan v can (λ met. none_met ordered (waking_names plan) (subst (λ o. HasNoneOf o ordered) is away)
      (met_before (waking_names plan) (woken_within guards plan can.scope can.can) (subst (λ l. AreMetBy l (waking_names plan)) same met)))

-- ---- lists

pub none_shown : (events : List (Bor Event)) (event : Event) → length events ≡ 0 → Contains (shown_events events) event → ⊥
none_shown [] event none there = none_in_nil event there
none_shown (e ∷ events) event none there = omega (arith, none)

pub get_map : {X Y : Type 0} (f : X → Y) (xs : List X) (k : ℕ) → slice_get (map f xs) k ≡ option_map f (slice_get xs k)
get_map f [] k = refl
get_map f (x ∷ xs) zero = refl
get_map f (x ∷ xs) (suc k) = get_map f xs k

-- there is one at each place below the length
pub some_at : {X : Type 0} (xs : List X) (k : ℕ) → k < length xs → (x : X) × (x ≡ get_or xs k x)
some_at [] k within = absurd (omega (arith, within))
some_at (x ∷ xs) zero within = (x, refl)
some_at (x ∷ xs) (suc k) within = some_at xs k (omega (arith, within))
