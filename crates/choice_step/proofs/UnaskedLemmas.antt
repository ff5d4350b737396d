-- Who misses nothing, where it is known who is still to be asked.
use Rattle.choice_step.proofs.Vocabulary.{◌≡◌, ◌∙◌, ℕ, zero, suc, ◌+◌, ◌<◌, ◌≤◌, Bool, List, [], ◌∷◌, ◌++◌, None, Some, map, take, drop, Contains, arith, refl, sym, ap, subst}
use Rattle.choice_step.proofs.Vocabulary.{inl, inr, ⊎_elim, slice_get, AllByRecursion, AllByRecursion-contains, first_or_later, here, later, none-some, none_in_nil, same_Some, Event, Step}
use Rattle.choice_step.proofs.Vocabulary.{Plan, no_values, guard_names, GuardsWillHold, placed_guard, Missing, MissingOfExists, StaleNowStands, IsNowOf, Now}
use Rattle.choice_step.proofs.Vocabulary.{Action, Instance, Literal, CanAskOf, CanAskRoots, askable, guards_now, step_moment, SleepsNow, Listed, IsWaitOf, SleepersMissNothing, EarlyMissNothing}
use Rattle.choice_step.proofs.Vocabulary.{Situation, CanDecideSituation, situation_plans, IsFirstMissing, MissesNothing, Waiting, roots_from}
use Rattle.choice_step.proofs.Vocabulary.{trace_with_step}
use Rattle.sleepers.specs.declared.entries.Entry.{Entry}
use Rattle.obligations.specs.machine.AskingLaws.{FreshInstanceCanBeAsked, FreshPlanCanBeAsked}
use Rattle.obligations.specs.machine.FreshGuards.{HaveSameFreshEvents}
use Rattle.obligations.specs.machine.MovedPlans.{IgnoresAllOf}
use Rattle.choice_step.proofs.Vocabulary.{CanAskPlan, CanAskRoot, Candidate, GainsNoSuppressed, HasNoneOf, Option, PlacedGuard, UnwokenMissesNothing, there_from_get}
use Rattle.choice_step.proofs.UniquenessLemmas.{last_step}
use Rattle.choice_step.proofs.WokenRuleLemmas.{all_asleep}
use Rattle.pending.proofs.EntryLemmas.{listed_items}
use Rattle.pending.proofs.AskingLaws.{asking_begins, asking_ended, asking_front}
use Rattle.pending.specs.machine.AskedEntries.{AskingList, BeginsAsking, IsFirstAhead}
use Rattle.pending.specs.machine.PendingEntries.{all_listed, items_of, listed_of}
use Rattle.pending.specs.machine.PendingLists.{listed_instances}
use Rattle.choice_step.specs.declared.unasked.Unasked.{Unasked}
use Rattle.choice_step.specs.machine.StillToAsk.{AreToldBut, IsUnasked, InstancesAreMet, InstancesAreMetBut, RootIsMet, IsUnaskedAt, IsAskingIn, FirstRootsAreMet, IsNowOfSituation, RootIgnoresAll, RootsAreMetBut, WillHold}
use Rattle.choice_step.specs.machine.RootOrder.{IsFirstRoot, PassesRoot}
use Rattle.choice_step.proofs.FirstActionLemmas.{Met, MissesFirst, one_more_root}
use Rattle.choice_step.proofs.SleeperLemmas.{sleeper_met}

-- ---- a step as it is asked

-- a step with the order and the tables of one that has the same events of the names that guards look for, but for stale
-- ones
pub now_is : StaleNowStands → (situation : Situation) (now : Now) → IsNowOfSituation situation now → WillHold situation now.events.now (IsNowOf now)
now_is stand situation now is trace stands long later =
    subst (λ t. IsNowOf now (trace_with_step trace t now.events.now)) is.time
    (stand situation.past.now trace now
    (subst (λ (gs : List PlacedGuard). HaveSameFreshEvents now.stale.now (guard_names gs) now.ordered.now now.events.now) (sym is.are.2.0) is.same)
    (subst (λ t. GuardsWillHold situation.past.now t now.ordered.now now.tables.now) (sym is.time) is.hold)
    stands (long ∙ sym is.position) (omega (arith, later, is.time)))

-- instances and roots can be asked where none of their guards looks for a stale name
pub instance_asked : FreshInstanceCanBeAsked → (situation : Situation) (now : Now) → CanDecideSituation situation → IsNowOfSituation situation now → (i : Instance)
    → Contains situation.pending.now.instances i → IgnoresAllOf (situation_plans situation) now.stale.now i → CanAskOf (guards_now now) (situation_plans situation) i
instance_asked fresh situation now can is i there ignores =
    fresh now (situation_plans situation) i ignores
    (subst (λ gs. CanAskOf (map placed_guard gs) (situation_plans situation) i) (sym is.are.2.0)
    (AllByRecursion-contains (CanAskOf (map placed_guard situation.past.now.guards) (situation_plans situation)) situation.pending.now.instances i
    can.step.all.instances there))

pub roots_asked : (situation : Situation) (now : Now) → CanDecideSituation situation → IsNowOfSituation situation now → now.stale.now ≡ []
    → CanAskRoots (guards_now now) (situation_plans situation)
roots_asked situation now can is fresh =
    subst (λ stale. CanAskRoots (map (askable stale) now.tables.now.guards) (situation_plans situation)) (sym fresh)
    (subst (λ gs. CanAskRoots (map placed_guard gs) (situation_plans situation)) (sym is.are.2.0) can.step.all.roots)

-- so can the root of a rule
pub root_asked : FreshPlanCanBeAsked → (situation : Situation) (now : Now) → CanDecideSituation situation → IsNowOfSituation situation now → (rule : ℕ) (plan : Plan)
    → slice_get (situation_plans situation) rule ≡ Some plan → RootIgnoresAll situation rule now.stale.now → CanAskPlan (guards_now now) plan no_values
root_asked fresh situation now can is rule plan at ignores =
    fresh now plan no_values (ignores plan at)
    (subst (λ gs. CanAskPlan (map placed_guard gs) plan no_values) (sym is.are.2.0)
    (AllByRecursion-contains (CanAskRoot (map placed_guard situation.past.now.guards)) (situation_plans situation) plan can.step.all.roots
    (there_from_get (situation_plans situation) rule plan at)).0)

-- ---- entries and their instances

-- the instances of the entries are those that are pending
pub items_are : (situation : Situation) (asking : AskingList) → CanDecideSituation situation → all_listed asking.all ≡ situation.pending.now.listed
    → items_of asking.all ≡ situation.pending.now.instances
items_are situation asking can all =
    sym (listed_items asking.all) ∙ (ap listed_instances all ∙ can.step.kept.instances)

item_there : (entries : List (Entry Instance)) (x : Entry Instance) → Contains entries x → Contains (items_of entries) x.item
item_there [] x there = absurd (none_in_nil x there)
item_there (y ∷ entries) x there =
    ⊎_elim (λ same. subst (λ (z : Entry Instance). Contains (items_of (y ∷ entries)) z.item) same (here y.item (items_of entries)))
    (λ on. later x.item y.item (items_of entries) (item_there entries x on)) (first_or_later x y entries there)

listed_there : (entries : List (Entry Instance)) (x : Entry Instance) → Contains entries x → Contains (all_listed entries) (listed_of x)
listed_there [] x there = absurd (none_in_nil x there)
listed_there (y ∷ entries) x there =
    ⊎_elim (λ same. subst (λ (z : Entry Instance). Contains (all_listed (y ∷ entries)) (listed_of z)) same (here (listed_of y) (all_listed entries)))
    (λ on. later (listed_of x) (listed_of y) (all_listed entries) (listed_there entries x on)) (first_or_later x y entries there)

pub in_pending : (situation : Situation) (asking : AskingList) → CanDecideSituation situation → all_listed asking.all ≡ situation.pending.now.listed
    → (x : Entry Instance) → Contains asking.all x → Contains situation.pending.now.instances x.item
in_pending situation asking can all x there =
    subst (λ l. Contains l x.item) (items_are situation asking can all) (item_there asking.all x there)

-- ---- instances

module _ (situation : Situation) (can : CanDecideSituation situation) (events told : List Event) (asking : AskingList)
    (in_it : IsAskingIn situation events told asking) (trace : List Step) where
  abbrev plans : List Plan
  plans = situation_plans situation

  abbrev S : List Step
  S = trace_with_step trace situation.time events

  abbrev Misses : Candidate → Literal → Type 0
  Misses = MissesFirst plans situation.inserted S

  all_met : (entries : List (Entry Instance)) → ((x : Entry Instance) → Contains entries x → Met plans situation.inserted S x.item)
      → AllByRecursion (MissesNothing plans situation.inserted S) (map Waiting (items_of entries))
  all_met [] met = tt
  all_met (x ∷ entries) met = (met x (here x entries), all_met entries (λ y there. met y (later y x entries there)))

  -- where none is still to be asked, none misses anything
  pub none_waits : asking.ahead ≡ [] → InstancesAreMetBut situation told asking S → InstancesAreMet situation S
  none_waits none but =
      subst (λ l. AllByRecursion (MissesNothing plans situation.inserted S) (map Waiting l)) (items_are situation asking can in_it.all)
      (all_met asking.all (asking_ended (Met plans situation.inserted S) told (step_moment situation.inserted situation.time) asking but none))

  first_behind_met : (front : List (Entry Instance)) (e : Entry Instance) (back : List (Entry Instance)) (literal : Literal)
      → ((x : Entry Instance) → Contains front x → Met plans situation.inserted S x.item) → Misses (Waiting e.item) literal
      → IsFirstMissing plans situation.inserted S (map Waiting (items_of (front ++ e ∷ back))) (Waiting e.item) literal
  first_behind_met [] e back literal met misses = inl (refl, misses.0, misses.1)
  first_behind_met (x ∷ front) e back literal met misses =
      inr (met x (here x front), first_behind_met front e back literal (λ y there. met y (later y x front there)) misses)

  -- the first that is still to be asked is the first that misses something, if it does
  pub first_waits : (i : Instance) (literal : Literal) → IsFirstAhead asking i → InstancesAreMetBut situation told asking S → Misses (Waiting i) literal
      → IsFirstMissing plans situation.inserted S (map Waiting situation.pending.now.instances) (Waiting i) literal
  first_waits i literal first but misses =
      subst (λ l. IsFirstMissing plans situation.inserted S (map Waiting l) (Waiting i) literal) (items_are situation asking can in_it.all)
      (subst (λ (l : List (Entry Instance)). IsFirstMissing plans situation.inserted S (map Waiting (items_of l)) (Waiting i) literal) (sym first.are)
      (subst (λ j. IsFirstMissing plans situation.inserted S (map Waiting (items_of (first.front ++ first.entry ∷ first.back))) (Waiting j) literal) first.is
      (first_behind_met first.front first.entry first.back literal
      (asking_front (Met plans situation.inserted S) told (step_moment situation.inserted situation.time) asking i but first)
      (subst (λ j. Misses (Waiting j) literal) (sym first.is) misses))))

pub ahead_there : (asking : AskingList) (i : Instance) → (first : IsFirstAhead asking i) → Contains asking.all first.entry
ahead_there asking i first =
    subst (λ (l : List (Entry Instance)). Contains l first.entry) (sym first.are) (middle first.front first.entry first.back)
  where
    middle : (front : List (Entry Instance)) (e : Entry Instance) (back : List (Entry Instance)) → Contains (front ++ e ∷ back) e
    middle [] e back = here e back
    middle (x ∷ front) e back = later e x (front ++ e ∷ back) (middle front e back)

pub first_pending : (situation : Situation) (asking : AskingList) → CanDecideSituation situation → all_listed asking.all ≡ situation.pending.now.listed
    → (i : Instance) → IsFirstAhead asking i → Contains situation.pending.now.instances i
first_pending situation asking can all i first =
    subst (Contains situation.pending.now.instances) first.is
    (in_pending situation asking can all first.entry (ahead_there asking i first))

-- one that sleeps misses nothing
pub asleep_met : MissingOfExists → SleepersMissNothing → EarlyMissNothing → (situation : Situation) (can : CanDecideSituation situation) (events : List Event)
    (asking : AskingList) → all_listed asking.all ≡ situation.pending.now.listed → (trace : List Step) (x : Entry Instance) → Contains asking.all x
    → SleepsNow events (step_moment situation.inserted situation.time) (listed_of x)
    → Met (situation_plans situation) situation.inserted (trace_with_step trace situation.time events) x.item
asleep_met exists sleep early situation can events asking all trace x there asleep =
    sleeper_met exists sleep early (map placed_guard situation.past.now.guards) (situation_plans situation) situation.inserted trace situation.time events (listed_of x)
    (AllByRecursion-contains (CanAskOf (map placed_guard situation.past.now.guards) (situation_plans situation)) situation.pending.now.instances x.item can.step.all.instances
    (in_pending situation asking can all x there))
    (AllByRecursion-contains (λ (y : Listed). IsWaitOf (situation_plans situation) y.wait y.instance) situation.pending.now.listed (listed_of x) can.step.kept.waits
    (subst (λ l. Contains l (listed_of x)) all (listed_there asking.all x there)))
    asleep

-- at first those are to be asked that do not sleep
pub begins_asking : MissingOfExists → SleepersMissNothing → EarlyMissNothing → (situation : Situation) → CanDecideSituation situation → (events : List Event)
    (asking : AskingList) → BeginsAsking events (step_moment situation.inserted situation.time) situation.pending.now.listed asking
    → IsAskingIn situation events events asking
begins_asking exists sleep early situation can events asking begins = record {
  all = begins.all;
  but = λ trace stands long later.
      asking_begins (Met (situation_plans situation) situation.inserted (trace_with_step trace situation.time events)) events
      (step_moment situation.inserted situation.time) situation.pending.now.listed asking begins
      (asleep_met exists sleep early situation can events asking begins.all trace);
}

-- and all roots
pub begins_unasked : (situation : Situation) (events : List Event) (actions : List Action) (unasked : Unasked) → IsAskingIn situation events events unasked.asking
    → unasked.from ≡ 0 → unasked.roused ≡ 0 → IsUnaskedAt situation events actions unasked
begins_unasked situation events actions unasked asking from roused = record {
  told = events;
  are = λ e there. inl there;
  within = omega (arith, roused);
  is = record { asking = asking; roots = λ trace stands long later rule plan at within. absurd (omega (arith, within, from)) };
}

-- ---- roots

abbrev pub MissesRootNothing : Situation → ℕ → List Step → Type 0
MissesRootNothing situation rule trace = (plan : Plan) → slice_get (situation_plans situation) rule ≡ Some plan → Missing trace plan no_values []

-- where none of the first is to be asked again, so many of the first roots miss nothing
pub roots_met : (situation : Situation) (from : ℕ) (again : List ℕ) (trace : List Step) (k : ℕ) → k ≤ from
    → ((rule : ℕ) → Contains again rule → k ≤ rule) → RootsAreMetBut situation from again trace → FirstRootsAreMet situation k trace
roots_met situation from again trace zero within least but = tt
roots_met situation from again trace (suc k) within least but =
    by (slice_get (situation_plans situation) k) refl (roots_met situation from again trace k (omega (arith, within)) (λ rule there. omega (arith, least rule there)) but)
  where
    same_take : (ps : List Plan) (n : ℕ) → slice_get ps n ≡ None → take n ps ≡ take (suc n) ps
    same_take [] zero is = refl
    same_take [] (suc n) is = refl
    same_take (p ∷ ps) zero is = absurd (none-some p (sym is))
    same_take (p ∷ ps) (suc n) is = ap (λ l. p ∷ l) (same_take ps n is)

    by : (at : Option Plan) → slice_get (situation_plans situation) k ≡ at → FirstRootsAreMet situation k trace → FirstRootsAreMet situation (suc k) trace
    by None is before =
        subst (λ ps. AllByRecursion (MissesNothing (situation_plans situation) situation.inserted trace) (roots_from 0 ps)) (same_take (situation_plans situation) k is) before
    by (Some plan) is before =
        subst (λ n. FirstRootsAreMet situation n trace) {x = k + 1} {y = suc k} (omega arith)
        (one_more_root (situation_plans situation) situation.inserted trace (situation_plans situation) k plan is before
        (⊎_elim (λ there. absurd (omega (arith, least k there))) (λ met. met) (but k plan is (omega (arith, within)))))

-- and each of them
pub root_at : (plans : List Plan) (inserted : Bool) (trace : List Step) (number : ℕ) (ps : List Plan) (k rule : ℕ) (plan : Plan) → slice_get ps rule ≡ Some plan → rule < k
    → AllByRecursion (MissesNothing plans inserted trace) (roots_from number (take k ps)) → Missing trace plan no_values []
root_at plans inserted trace number [] k rule plan at within met = absurd (none-some plan at)
root_at plans inserted trace number (p ∷ ps) zero rule plan at within met = absurd (omega (arith, within))
root_at plans inserted trace number (p ∷ ps) (suc k) zero plan at within met = subst (λ q. Missing trace q no_values []) (same_Some p plan at) met.0
root_at plans inserted trace number (p ∷ ps) (suc k) (suc rule) plan at within met =
    root_at plans inserted trace (suc number) ps k rule plan at (omega (arith, within)) met.1

pub all_but : (situation : Situation) (k : ℕ) (again : List ℕ) (trace : List Step) → FirstRootsAreMet situation k trace → RootsAreMetBut situation k again trace
all_but situation k again trace met rule plan at within =
    inr (root_at (situation_plans situation) situation.inserted trace 0 (situation_plans situation) k rule plan at within met)

-- a root that was the first to be asked misses nothing
pub passes_root : (situation : Situation) (rule from : ℕ) (again : List ℕ) (next : ℕ) (left : List ℕ) (trace : List Step) → PassesRoot rule from again next left
    → MissesRootNothing situation rule trace → RootsAreMetBut situation from again trace → RootsAreMetBut situation next left trace
passes_root situation rule from again next left trace passes met but other plan at within =
    ⊎_elim
    (λ below. ⊎_elim
    (λ there. ⊎_elim (λ on. inl on) (λ same. inr (met plan (subst (λ r. slice_get (situation_plans situation) r ≡ Some plan) same at))) (passes.kept other there))
    (λ was. inr was)
    (but other plan at below))
    (λ same. inr (met plan (subst (λ r. slice_get (situation_plans situation) r ≡ Some plan) same at)))
    (passes.behind other within)

-- so nobody misses anything but those still to be asked
pub met_keeps : (situation : Situation) (events : List Event) (actions : List Action) (rule : ℕ) (old new : Unasked) → new.asking ≡ old.asking → new.roused ≡ old.roused
    → PassesRoot rule old.from old.again.items new.from new.again.items → RootIsMet situation events rule → IsUnaskedAt situation events actions old
    → IsUnaskedAt situation events actions new
met_keeps situation events actions rule old new asking roused passes met kept = record {
  told = kept.told;
  are = subst (λ n. AreToldBut events kept.told (drop n actions)) (sym roused) kept.are;
  within = omega (arith, kept.within, roused);
  is = record {
    asking = subst (IsAskingIn situation events kept.told) (sym asking) kept.is.asking;
    roots = λ trace stands long later. passes_root situation rule old.from old.again.items new.from new.again.items (trace_with_step trace situation.time events) passes
        (λ plan at. met plan at trace stands long later) (kept.is.roots trace stands long later);
  };
}

-- where some were asked, and sleepers were told of nothing
pub looked_on : (situation : Situation) (events : List Event) (actions : List Action) (old new : Unasked) → new.roused ≡ old.roused
    → ((told : List Event) → IsUnasked situation events told old → IsUnasked situation events told new) → IsUnaskedAt situation events actions old
    → IsUnaskedAt situation events actions new
looked_on situation events actions old new roused keeps kept = record {
  told = kept.told;
  are = subst (λ n. AreToldBut events kept.told (drop n actions)) (sym roused) kept.are;
  within = omega (arith, kept.within, roused);
  is = keeps kept.told kept.is;
}

-- no root before the first that is to be asked misses anything
pub first_met : (situation : Situation) (events told : List Event) (unasked : Unasked) (first : ℕ) → IsFirstRoot unasked.from unasked.again.items first
    → IsUnasked situation events told unasked → WillHold situation events (FirstRootsAreMet situation first)
first_met situation events told unasked first is kept trace stands long later =
    roots_met situation unasked.from unasked.again.items (trace_with_step trace situation.time events) first is.within is.least (kept.roots trace stands long later)

-- and none up to the next that the step can wake
pub sleep_on : UnwokenMissesNothing → StaleNowStands → (situation : Situation) (now : Now) → CanDecideSituation situation → IsNowOfSituation situation now → now.stale.now ≡ []
    → GainsNoSuppressed (situation_plans situation) now.ordered.now now.events.now
    → (from next : ℕ) → from ≤ next → ((rule : ℕ) → from ≤ rule → rule < next → HasNoneOf (slice_get situation.wakes.now rule) now.ordered.now)
    → WillHold situation now.events.now (FirstRootsAreMet situation from) → WillHold situation now.events.now (FirstRootsAreMet situation next)
sleep_on unwoken stand situation now can is fresh fewer from next up sleep met trace stands long later =
    let S : List Step = trace_with_step trace situation.time now.events.now in
    all_asleep (situation_plans situation) situation.inserted S situation.past.now.guards now.ordered.now now.events.now unwoken can.step.all.roots
    (ap (λ (s : Step). s.events) (last_step trace (record { time = situation.time; events = now.events.now })))
    (λ event named. is.same event named (λ there. none_in_nil event.name (subst (λ l. Contains l event.name) fresh there))) fewer
    from next up (λ r low high. subst (λ l. HasNoneOf (slice_get l r) now.ordered.now) can.wakes (sleep r low high)) (met trace stands long later)

-- once those are passed
pub passed_on : (situation : Situation) (events told : List Event) (old new : Unasked) → new.asking ≡ old.asking → WillHold situation events (FirstRootsAreMet situation new.from)
    → IsUnasked situation events told old → IsUnasked situation events told new
passed_on situation events told old new asking met kept = record {
  asking = subst (IsAskingIn situation events told) (sym asking) kept.asking;
  roots = λ trace stands long later. all_but situation new.from new.again.items (trace_with_step trace situation.time events) (met trace stands long later);
}

-- and once one was asked
pub met_on : (situation : Situation) (events told : List Event) (rule : ℕ) (old new : Unasked) → new.asking ≡ old.asking
    → PassesRoot rule old.from old.again.items new.from new.again.items → RootIsMet situation events rule → IsUnasked situation events told old → IsUnasked situation events told new
met_on situation events told rule old new asking passes met kept = record {
  asking = subst (IsAskingIn situation events told) (sym asking) kept.asking;
  roots = λ trace stands long later. passes_root situation rule old.from old.again.items new.from new.again.items (trace_with_step trace situation.time events) passes
      (λ plan at. met plan at trace stands long later) (kept.roots trace stands long later);
}
