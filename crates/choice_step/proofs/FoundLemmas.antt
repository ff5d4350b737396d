-- The action for the first that misses something, of those that are still to be asked.
use Rattle.choice_step.proofs.Vocabulary.{Action, AllByRecursion, AreThoseWith, Bool, CanDecideSituation, ChangesEvents, Contains, Event, FirstMissing, FirstMissingOf, IfSome, Instance}
use Rattle.choice_step.proofs.Vocabulary.{IsNowOf, IsPlain, IsStillWanted, IsWanted, IsWantedOf, List, Literal, Missing, None, Now, Option, Plan, Root, Situation, SituationFinds, Some}
use Rattle.choice_step.proofs.Vocabulary.{StaleNowStands, Step, Waiting, [], action_at, action_at_root, ap, arith, here, inl, is_forced, last_position, later, length, length-append}
use Rattle.choice_step.proofs.Vocabulary.{map, no_values, nodes, refl, roots_from, same_Some, situation_plans, slice_get, step_moment, subst, sym, there_from_get, time_now}
use Rattle.choice_step.proofs.Vocabulary.{trace_with_step, ℕ, ⊎_elim, ◌∙◌, ◌∷◌, ◌≡◌, ◌≤◌}
use Rattle.pending.proofs.AskingLaws.{asking_passes}
use Rattle.pending.specs.machine.AskedEntries.{AskingList, IsFirstAhead, PassesFirst}
use Rattle.pending.specs.machine.PendingEntries.{all_listed}
use Rattle.choice_step.specs.machine.StillToAsk.{AreWanted, FirstRootsAreMet, InstancesAreMet, IsAskingIn, IsFoundIn, IsLeftOf, IsMissedAtRoot, IsNowOfSituation, RootIsMet, WillHold}
use Rattle.choice_step.specs.machine.Turns.{IsMetAfter}
use Rattle.choice_step.proofs.FirstActionLemmas.{one_more_root, Met, for_trace, found_behind, found_first, literal_root, misses_root, misses_waiting, no_root, waits, wanted_root, wanted_waiting}
use Rattle.choice_step.proofs.LoopActionLemmas.{changes_now, found_root, wanted_from, wanted_now}
use Rattle.choice_step.proofs.StepLemmas.{literal_behind, wanted_from_at}
use Rattle.choice_step.proofs.UnaskedLemmas.{first_pending, first_waits, now_is}
use Rattle.choice_step.proofs.UniquenessLemmas.{last_step}

-- ---- instances

module _ (stand : StaleNowStands) (situation : Situation) (can : CanDecideSituation situation)
    (now : Now) (is : IsNowOfSituation situation now) (told : List Event) (asking : AskingList) (in_it : IsAskingIn situation now.events.now told asking) (i : Instance) (first : IsFirstAhead asking i)
    (forced : Bool) (found : Option Literal) (at_its_end : forced ≡ is_forced situation.inserted now.time i)
    (misses : (trace : List Step) → IsNowOf now trace → FirstMissingOf (situation_plans situation) trace i forced found) where
  abbrev plans : List Plan
  plans = situation_plans situation

  abbrev pending : List Instance
  pending = situation.pending.now.instances

  pub found_waiting : (literal : Literal) (action : Action) → found ≡ Some literal → IfSome found (IsWantedOf now plans i)
      → action ≡ action_at now.time now.position (Waiting i) literal → IsFoundIn situation now.ordered.now now.events.now action
  found_waiting literal action some wanted made = record {
    finds = λ trace stands long later.
        let of = now_is stand situation now is trace stands long later in
        let S : List Step = trace_with_step trace situation.time now.events.now in
        found_first plans situation.inserted S (map Waiting pending) (roots_from 0 plans) action (
          Waiting i,
          literal,
          first_waits situation can now.events.now told asking in_it trace i literal first (in_it.but trace stands long later)
              (misses_waiting plans situation.inserted S now i forced found literal of at_its_end some (misses S of)),
          for_trace now S (Waiting i) literal action of made,
        );
    wanted = wanted_from_at plans pending situation.past.now situation.time now.ordered.now now.events.now now.tables.now action is.are is.known
        (wanted_waiting plans pending now i literal action (first_pending situation asking can in_it.all i first)
        (subst (λ o. IfSome o (IsWantedOf now plans i)) some wanted) made);
  }

  -- it misses nothing, and goes to those that were asked
  pub passes_waiting : (after : AskingList) → found ≡ None → PassesFirst asking after → IsAskingIn situation now.events.now told after
  passes_waiting after none passes = record {
    all = ap all_listed passes.all ∙ in_it.all;
    but = λ trace stands long later.
        let of = now_is stand situation now is trace stands long later in
        let S : List Step = trace_with_step trace situation.time now.events.now in
        asking_passes (Met plans situation.inserted S) told (step_moment situation.inserted situation.time) asking after i (in_it.but trace stands long later) first passes
        (waits plans situation.inserted S now i forced found of at_its_end none (misses S of));
  }

-- ---- what is left of the literals of a root

-- of none or all but the first the property is told of those that have it
pub those_behind : (P : Literal → Type 0) (l : Literal) (literals left : List Literal) → (P l → ⊥) → AreThoseWith P (l ∷ literals) left → AreThoseWith P literals left
those_behind P l literals left not those = ⊎_elim (λ has. absurd (not has.0)) (λ lacks. lacks.1) those

module _ (situation : Situation) (given events : List Event) (rule : ℕ) where
  abbrev Wanted : Literal → Type 0
  Wanted l = ChangesEvents l.kind l.event events

  still_now : (trace : List Step) (l : Literal) → Wanted l → IsStillWanted (trace_with_step trace situation.time events) l
  still_now trace l = wanted_now (situation_plans situation) situation.pending.now.instances situation.past.now situation.inserted situation.time situation.position trace events l

  -- the first of the literals that is not wanted is passed
  pub missed_behind : (l : Literal) (literals : List Literal) → (Wanted l → ⊥) → IsMissedAtRoot situation given events rule (l ∷ literals)
      → IsMissedAtRoot situation given events rule literals
  missed_behind l literals not is = record {
    plan = is.plan;
    there = is.there;
    plain = is.plain;
    are = λ other there. is.are other (later other l literals there);
    instances = is.instances;
    roots = is.roots;
    left = λ trace stands long later.
        let (left, those, missing) = is.left trace stands long later in (
          left,
          those_behind (IsStillWanted (trace_with_step trace situation.time events)) l literals left
              (λ still. not (changes_now (situation_plans situation) situation.pending.now.instances situation.past.now situation.inserted situation.time situation.position trace events l still)) those,
          missing,
        );
  }

  -- where the last that was left is not wanted, the root misses nothing
  pub last_left : (l : Literal) → (Wanted l → ⊥) → (plan : Plan) → slice_get (situation_plans situation) rule ≡ Some plan → WillHold situation events (IsLeftOf plan (l ∷ []))
      → RootIsMet situation events rule
  last_left l not plan there lefts other at trace stands long later =
      let S : List Step = trace_with_step trace situation.time events in
      let (left, those, missing) = lefts trace stands long later in
      let none : left ≡ [] = those_behind (IsStillWanted S) l [] left
      (λ still. not (changes_now (situation_plans situation) situation.pending.now.instances situation.past.now situation.inserted situation.time situation.position trace events l still)) those in
      subst (λ p. Missing S p no_values []) (same_Some plan other (sym there ∙ at)) (subst (Missing S plan no_values) none missing)

  -- the first that is wanted is for the first that misses something
  pub found_missed : (l : Literal) (literals : List Literal) (action : Action) → Wanted l → IsMissedAtRoot situation given events rule (l ∷ literals)
      → action ≡ action_at_root situation.time situation.position rule l → IsFoundIn situation given events action
  found_missed l literals action wanted is made = record {
    finds = λ trace stands long later.
        let S : List Step = trace_with_step trace situation.time events in
        let step : Step = record { time = situation.time; events = events } in
        let time_is : time_now S ≡ situation.time = ap (λ (s : Step). s.time) (last_step trace step) in
        let position_is : last_position S ≡ situation.position = omega (arith, length-append trace (step ∷ []), long) in
        let (left, those, missing) = is.left trace stands long later in
        ⊎_elim
        (λ has. found_root (situation_plans situation) situation.inserted S situation.pending.now.instances rule is.plan l has.1 action is.there (is.instances trace stands long later) (is.roots trace stands long later)
        (subst (Missing S is.plan no_values) has.3 missing)
        (made ∙ (λ k. action_at (sym time_is k) (sym position_is k) (Root rule is.plan) l)))
        (λ lacks. absurd (lacks.0 (still_now trace l wanted)))
        those;
    wanted = wanted_from (situation_plans situation) situation.pending.now.instances situation.past.now situation.inserted situation.time situation.position given events rule l action
        (is.are l (here l literals)) wanted made;
  }

  -- where none is left, the root misses nothing
  pub missed_none : IsMissedAtRoot situation given events rule [] → RootIsMet situation events rule
  missed_none is plan at trace stands long later =
      let (left, those, missing) = is.left trace stands long later in
      let S : List Step = trace_with_step trace situation.time events in
      subst (λ p. Missing S p no_values []) (same_Some is.plan plan (sym is.there ∙ at)) (subst (Missing S is.plan no_values) those missing)

  -- and nobody up to it misses anything
  pub met_after : IsMissedAtRoot situation given events rule [] → IsMetAfter situation events rule
  met_after is = (
    is.instances,
    λ trace stands long later.
        one_more_root (situation_plans situation) situation.inserted (trace_with_step trace situation.time events) (situation_plans situation) rule is.plan is.there (is.roots trace stands long later)
        (missed_none is is.plan is.there trace stands long later),
  )

-- where no root misses anything either, nothing is missing
pub found_none : (situation : Situation) (events : List Event) (rules : ℕ) → length (situation_plans situation) ≤ rules
    → WillHold situation events (InstancesAreMet situation) → WillHold situation events (FirstRootsAreMet situation rules) → SituationFinds situation events None
found_none situation events rules many instances roots trace stands long later =
    let S : List Step = trace_with_step trace situation.time events in
    found_behind (situation_plans situation) situation.inserted S (map Waiting situation.pending.now.instances) (roots_from 0 (situation_plans situation)) None
    (instances trace stands long later)
    (no_root (situation_plans situation) situation.inserted S 0 (situation_plans situation) rules many (roots trace stands long later))

-- a root that misses nothing as the step is asked
pub met_now : StaleNowStands → (situation : Situation) (now : Now) → IsNowOfSituation situation now → (rule : ℕ) (plan : Plan) → slice_get (situation_plans situation) rule ≡ Some plan
    → ((trace : List Step) → IsNowOf now trace → Missing trace plan no_values []) → RootIsMet situation now.events.now rule
met_now stand situation now is rule plan at misses other there trace stands long later =
    subst (λ p. Missing (trace_with_step trace situation.time now.events.now) p no_values []) (same_Some plan other (sym at ∙ there))
    (misses (trace_with_step trace situation.time now.events.now) (now_is stand situation now is trace stands long later))

-- ---- a root that is asked

module _ (stand : StaleNowStands) (situation : Situation) (now : Now) (is : IsNowOfSituation situation now)
    (instances : WillHold situation now.events.now (InstancesAreMet situation)) (rule : ℕ) (plan : Plan) (at : slice_get (situation_plans situation) rule ≡ Some plan)
    (roots : WillHold situation now.events.now (FirstRootsAreMet situation rule)) (literals : List Literal)
    (wants : (literal : Literal) → Contains literals literal → IsWanted now plan no_values literal) where
  pub found_at_root : (literal : Literal) (action : Action) → slice_get literals 0 ≡ Some literal
      → ((trace : List Step) → IsNowOf now trace → FirstMissing trace plan no_values (slice_get literals 0))
      → action ≡ action_at_root now.time now.position rule literal → IsFoundIn situation now.ordered.now now.events.now action
  found_at_root literal action some misses made = record {
    finds = λ trace stands long later.
        let of = now_is stand situation now is trace stands long later in
        let S : List Step = trace_with_step trace situation.time now.events.now in
        let first = misses_root (situation_plans situation) situation.inserted S rule plan no_values (slice_get literals 0) literal refl some (misses S of) in
        found_root (situation_plans situation) situation.inserted S situation.pending.now.instances rule plan literal first.0 action at
        (instances trace stands long later) (roots trace stands long later) first.1 (for_trace now S (Root rule plan) literal action of made);
    wanted = wanted_from_at (situation_plans situation) situation.pending.now.instances situation.past.now situation.time now.ordered.now now.events.now now.tables.now action is.are is.known
        (wanted_root (situation_plans situation) situation.pending.now.instances now rule plan literal action (there_from_get (situation_plans situation) rule plan at) (wants literal (there_from_get literals 0 literal some)) made);
  }

  -- all that it misses is known, where it has no choices
  pub all_missed : AllByRecursion IsPlain (nodes plan) → ((trace : List Step) → IsNowOf now trace → Missing trace plan no_values literals)
      → IsMissedAtRoot situation now.ordered.now now.events.now rule literals
  all_missed plain misses = record {
    plan = plan;
    there = at;
    plain = plain;
    are = λ literal there. literal_behind (situation_plans situation) situation.pending.now.instances situation.past.now situation.time now.ordered.now now.tables.now literal is.are is.known
        (literal_root (situation_plans situation) situation.pending.now.instances now plan literal (there_from_get (situation_plans situation) rule plan at) (wants literal there));
    instances = instances;
    roots = roots;
    left = λ trace stands long later.
        let S : List Step = trace_with_step trace situation.time now.events.now in (
          literals,
          all_those S literals (λ l there.
              wanted_now (situation_plans situation) situation.pending.now.instances situation.past.now situation.inserted situation.time situation.position trace now.events.now l (wants l there).changes),
          misses S (now_is stand situation now is trace stands long later),
        );
  }
    where
      all_those : (S : List Step) (ls : List Literal) → ((l : Literal) → Contains ls l → IsStillWanted S l) → AreThoseWith (IsStillWanted S) ls ls
      all_those S [] each = refl
      all_those S (l ∷ ls) each = inl (each l (here l ls), ls, all_those S ls (λ m there. each m (later m l ls there)), refl)

  pub all_wanted : (ls : List Literal) → ((l : Literal) → Contains ls l → Contains literals l) → AreWanted now.events.now ls
  all_wanted [] within = tt
  all_wanted (l ∷ ls) within = ((wants l (within l (here l ls))).changes, all_wanted ls (λ m there. within m (later m l ls there)))
