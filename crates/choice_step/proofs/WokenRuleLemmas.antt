-- Rules that a step does not wake: by the index of the names that wake them, and what they miss.
use Rattle.choice_step.proofs.Vocabulary.{◌≡◌, ◌∙◌, ℕ, zero, suc, ◌+◌, ◌-◌, ◌<◌, ◌≤◌, Bool, true, List, [], ◌∷◌, Option, None, Some, Contains, length, map, get_or, refl, sym, subst, ap, ⊎_elim, arith}
use Rattle.choice_step.proofs.Vocabulary.{is_some, slice_get, option_map, cases_lt, false≢true, All-from_recursion, none-some, step_at, AllByRecursion-contains, AllByRecursion-from_contains}
use Rattle.choice_step.proofs.Vocabulary.{there_from_get, no_values, Event, NameId, Step, slice_get_at, HaveSameEvents, guard_names, PlacedGuard, Plan, waking_names, UnwokenMissesNothing}
use Rattle.choice_step.proofs.Vocabulary.{placed_guard, last_position, CanAskRoot, CanAskRoots, RootsAreMet, AreAllIn, GainsNoSuppressed, HasNoneOf, IsAway, woken_by, Woken}
use Rattle.choice_step.proofs.FirstActionLemmas.{one_more_root}
use Rattle.choice_step.proofs.RuleTriggerLemmas.{get_map, rule_sleeps, some_at}

-- what holds below a number and there holds below the next
pub one_more : (P : ℕ → Type 0) (n : ℕ) → ((r : ℕ) → r < n → P r) → P n → (r : ℕ) → r < n + 1 → P r
one_more P n below this r within =
    ⊎_elim (λ lt. below r lt) (λ le. subst P {x = n} {y = r} (omega (arith, within, le)) this) (cases_lt r n)

none_at : {X : Type 0} (xs : List X) (r : ℕ) → r < length xs → slice_get xs r ≡ None → ⊥
none_at xs r within is = let found = some_at xs r within in none-some found.0 (sym is ∙ slice_get_at xs r found.0 within found.1)

pub within_from : {X : Type 0} (xs : List X) (k : ℕ) (x : X) → slice_get xs k ≡ Some x → k < length xs
within_from [] k x is = absurd (none-some x is)
within_from (y ∷ xs) zero x is = omega arith
within_from (y ∷ xs) (suc k) x is = omega (arith, within_from xs k x is)

-- the entry of a place
pub listed : {X Y : Type 0} (f : X → Y) (xs : List (Option X)) (k : ℕ) (x : Option X) → k < length xs → x ≡ get_or xs k x
    → slice_get (map (option_map f) xs) k ≡ Some (option_map f x)
listed f xs k x within is = get_map (option_map f) xs k ∙ ap (option_map (option_map f)) (slice_get_at xs k x within is)

pub not_none : {X Y : Type 0} (f : X → Y) (x : Option X) → is_some x ≡ true → option_map f x ≡ None → ⊥
not_none f None some none = false≢true some
not_none f (Some x) some none = none-some (f x) (sym none)

-- the rules from one on sleep that are below each that the index has for the events
pub none_of : (wakes : List (Option (List NameId))) (always : List ℕ) (by_name : List Woken) (events : List Event)
    (from first r : ℕ) → AreAllIn wakes always by_name → from ≤ r → r < first → r < length wakes
    → ((rule : ℕ) → Contains always rule → from ≤ rule → first ≤ rule)
    → ((event : Event) → Contains events event → (entry : Woken) → Contains by_name entry → entry.name ≡ event.name
    → from ≤ entry.rule → first ≤ entry.rule) → HasNoneOf (slice_get wakes r) events
none_of wakes always by_name events from first r all behind below within unnamed named = by (slice_get wakes r) refl
  where
    by : (at : Option (Option (List NameId))) → slice_get wakes r ≡ at → HasNoneOf at events
    by None is = absurd (none_at wakes r within is)
    by (Some None) is = absurd (omega (arith, below, unnamed r (all.always_there r is) behind))
    by (Some (Some names)) is =
        All-from_recursion (IsAway events) names (AllByRecursion-from_contains (IsAway events) names (λ name there event among same.
        omega (arith, below, named event among (woken_by r name) (all.named_there r names name is there) (sym same) behind)))

-- ---- the roots of rules that sleep

module _ (plans : List Plan) (inserted : Bool) (trace : List Step) (guards : List PlacedGuard) (ordered events : List Event)
    (unwoken : UnwokenMissesNothing) (can : CanAskRoots (map placed_guard guards) plans)
    (now : (step_at trace (last_position trace)).events ≡ events) (alike : HaveSameEvents (guard_names guards) ordered events)
    (fewer : GainsNoSuppressed plans ordered events) where
  abbrev Sleeps : ℕ → Type 0
  Sleeps r = HasNoneOf (slice_get (map waking_names plans) r) ordered

  one_asleep : (r : ℕ) → Sleeps r → RootsAreMet plans inserted trace r → RootsAreMet plans inserted trace (r + 1)
  one_asleep r sleeps before = by (slice_get plans r) refl
    where
      by : (at : Option Plan) → slice_get plans r ≡ at → RootsAreMet plans inserted trace (r + 1)
      by None is =
          absurd (subst (λ o. HasNoneOf o ordered) (get_map waking_names plans r ∙ ap (option_map waking_names) is) sleeps)
      by (Some plan) is =
          one_more_root plans inserted trace plans r plan is before
          (rule_sleeps plans plan guards ordered events (there_from_get plans r plan is) alike fewer trace no_values
          (slice_get (map waking_names plans) r) unwoken
          (AllByRecursion-contains (CanAskRoot (map placed_guard guards)) plans plan can (there_from_get plans r plan is)).0
          (get_map waking_names plans r ∙ ap (option_map waking_names) is) now sleeps)

  so_many : (k from : ℕ) → ((r : ℕ) → from ≤ r → r < from + k → Sleeps r) → RootsAreMet plans inserted trace from
      → RootsAreMet plans inserted trace (from + k)
  so_many zero from sleep before = subst (RootsAreMet plans inserted trace) {x = from} {y = from + 0} (omega arith) before
  so_many (suc k) from sleep before =
      subst (RootsAreMet plans inserted trace) {x = (from + 1) + k} {y = from + suc k} (omega arith)
      (so_many k (from + 1) (λ r low high. sleep r (omega (arith, low)) (omega (arith, high)))
      (one_asleep from (sleep from (omega arith) (omega arith)) before))

  -- all of them up to one miss nothing
  pub all_asleep : (from to : ℕ) → from ≤ to → ((r : ℕ) → from ≤ r → r < to → Sleeps r) → RootsAreMet plans inserted trace from
      → RootsAreMet plans inserted trace to
  all_asleep from to le sleep before =
      subst (RootsAreMet plans inserted trace) {x = from + (to - from)} {y = to} (omega (arith, le))
      (so_many (to - from) from (λ r low high. sleep r low (omega (arith, high, le))) before)
