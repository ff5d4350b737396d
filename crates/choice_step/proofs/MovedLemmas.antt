-- What is known of who is still to be asked stays so after an action.
use Rattle.choice_step.proofs.Vocabulary.{◌≡◌, ◌∙◌, ◌⊎◌, ℕ, zero, suc, ◌≤◌, List, [], ◌∷◌, ◌++◌, Some, map, drop, length, take, Contains, arith, refl, sym, ap, subst, inl, inr, ⊎_elim}
use Rattle.choice_step.proofs.Vocabulary.{slice_get, AllByRecursion, AllByRecursion-contains, Contains-push_cases, Contains-append_left, Contains-push, there_from_get, Event, NameId}
use Rattle.choice_step.proofs.Vocabulary.{Step, VarId, Formula, no_values, guard_names, placed_guard, NothingClashes, Plan, time_now, Missing, MissingOf, MissingOfExists, DiffersIn, IsStillWanted, IsUnmovedIn}
use Rattle.choice_step.proofs.Vocabulary.{IsUnreadIn, UnreadInstanceStaysMet, UnreadLeavesRest, UnreadStaysMet, CanAskOf, CanAskRoot, Action, Instance, Literal, LiteralKind, Situation}
use Rattle.choice_step.proofs.Vocabulary.{CanDecideSituation, situation_plans, Applies, HasActionRole, MissesNothing, Waiting, is_forced, roots_from, step_moment, trace_with_step, unread_rest, unread_unmoved}
use Rattle.choice_step.proofs.Vocabulary.{SleepersMissNothing, EarlyMissNothing, AllByRecursion-weaker, first_or_later, here, later, none_in_nil}
use Rattle.sleepers.specs.declared.entries.Entry.{Entry}
use Rattle.obligations.proofs.UnreadInstanceLemmas.{node_unmoved}
use Rattle.obligations.specs.declared.literals.LiteralKind.TheVariants as kind
use Rattle.obligations.specs.machine.MovedPlans.{IsUnmovedOf}
use Rattle.pending.proofs.AskingLaws.{asking_roused, asking_turns, sleeps_of}
use Rattle.pending.specs.machine.AskedEntries.{AskingList, AsksMoved, IsAskingAt}
use Rattle.pending.specs.machine.PendingEntries.{all_listed}
use Rattle.choice_step.specs.declared.unasked.Unasked.{Unasked}
use Rattle.choice_step.specs.machine.StillToAsk.{AreToldBut, AsksMovedAgain, FirstRootsAreMet, InstancesAreMet, InstancesAreMetBut, IsAskingIn, IsLeftOf, IsMissedAtRoot, PassesUnmoved, RootLeavesRest}
use Rattle.choice_step.specs.machine.StillToAsk.{IsUnaskedAt, RootsAreMetBut, WillHold}
use Rattle.choice_step.specs.machine.Turns.{RousesEach, caused_first, events_caused}
use Rattle.choice_step.proofs.Vocabulary.{Contains-append_right, append-nil, append_assoc, length-append}
use Rattle.choice_step.proofs.FirstActionLemmas.{Met, waiting_met}
use Rattle.choice_step.proofs.LoopActionLemmas.{changes_now, differs, fewer_after, still, those_again, wanted_now}
use Rattle.choice_step.proofs.LoopLemmas.{role_of_leaf}
use Rattle.choice_step.proofs.SparedNameLemmas.{spared_unread}
use Rattle.choice_step.proofs.UniquenessLemmas.{last_step}
use Rattle.choice_step.proofs.UnaskedLemmas.{asleep_met, in_pending}

-- a name is acted on in one way alone
one_way : (plans : List Plan) → NothingClashes plans → (k other : LiteralKind) (name : NameId) → HasActionRole plans k name
    → HasActionRole plans other name → (k ≡ other → ⊥) → ⊥
one_way plans nothing kind.Cause kind.Cause name role again not = not refl
one_way plans nothing kind.Cause kind.Suppress name caused suppressed not = nothing name (caused, suppressed)
one_way plans nothing kind.Suppress kind.Cause name suppressed caused not = nothing name (caused, suppressed)
one_way plans nothing kind.Suppress kind.Suppress name role again not = not refl

-- ---- those that sleep are told of events

-- one event after another
pub told_each : (Met : Instance → Type 0) (moment : ℕ) (more told : List Event) (before after : AskingList) → RousesEach more before after
    → IsAskingAt Met told moment before → IsAskingAt Met (told ++ more) moment after
told_each Met moment [] told before after same is =
    subst (λ l. IsAskingAt Met l moment after) (sym (append-nil told)) (subst (λ (a : AskingList). IsAskingAt Met told moment a) (sym same) is)
told_each Met moment (event ∷ more) told before after (between, rouses, each) is =
    subst (λ l. IsAskingAt Met l moment after) (append_assoc told (event ∷ []) more)
    (told_each Met moment more (told ++ event ∷ []) between after each (asking_roused Met told moment event before between rouses is))

pub rouse_keeps_all : (more : List Event) (before after : AskingList) → RousesEach more before after → after.all ≡ before.all
rouse_keeps_all [] before after same = ap (λ (a : AskingList). a.all) same
rouse_keeps_all (event ∷ more) before after (between, rouses, each) = rouse_keeps_all more between after each ∙ rouses.all

-- the events that actions added are among those
caused_there : (actions : List Action) (action : Action) → Contains actions action → action.kind ≡ kind.Cause → Contains (events_caused actions) action.event
caused_there [] action there is = absurd (none_in_nil action there)
caused_there (a ∷ actions) action there is =
    ⊎_elim
    (λ (one : a ≡ action). subst (λ (b : Action). Contains (caused_first b.kind b.event (events_caused actions)) action.event) (sym one)
    (subst (λ k. Contains (caused_first k action.event (events_caused actions)) action.event) (sym is) (here action.event (events_caused actions))))
    (λ on. behind a.kind (caused_there actions action on is))
    (first_or_later action a actions there)
  where
    behind : (k : LiteralKind) → Contains (events_caused actions) action.event → Contains (caused_first k a.event (events_caused actions)) action.event
    behind kind.Cause on = later action.event a.event (events_caused actions) on
    behind kind.Suppress on = on

-- once they were told of what later actions added, they know of all
pub knows_all : (events told : List Event) (more : List Action) → AreToldBut events told more → (e : Event) → Contains events e
    → Contains (told ++ events_caused more) e
knows_all events told more are e there =
    ⊎_elim (λ on. Contains-append_left told (events_caused more) e on)
    (λ by. Contains-append_right told (events_caused more) e
    (subst (Contains (events_caused more)) by.3 (caused_there more by.0 by.1 by.2)))
    (are e there)

-- and after one action more
pub told_more : (events told : List Event) (more : List Action) (action : Action) (after : List Event) → Applies action.kind action.event events after
    → AreToldBut events told more → AreToldBut after told (more ++ action ∷ [])
told_more events told more action after applies are e there =
    by action.kind refl
  where
    still_told : Contains events e → Contains told e ⊎ ((other : Action) × Contains (more ++ action ∷ []) other × (other.kind ≡ kind.Cause) × (other.event ≡ e))
    still_told on = ⊎_elim (λ known. inl known)
        (λ was. inr (was.0, Contains-append_left more (action ∷ []) was.0 was.1, was.2, was.3)) (are e on)

    by : (k : LiteralKind) → action.kind ≡ k
        → Contains told e ⊎ ((other : Action) × Contains (more ++ action ∷ []) other × (other.kind ≡ kind.Cause) × (other.event ≡ e))
    by kind.Cause same =
        ⊎_elim still_told (λ last. inr (action, Contains-push more action, same, last))
        (Contains-push_cases events action.event e (subst (λ l. Contains l e) (subst (λ k. Applies k action.event events after) same applies) there))
    by kind.Suppress same = still_told (fewer_after action.event events after (subst (λ k. Applies k action.event events after) same applies) e there)

-- ---- after an action

module _ (met : UnreadStaysMet) (instances_met : UnreadInstanceStaysMet) (rest : UnreadLeavesRest) (situation : Situation) (can : CanDecideSituation situation)
    (k : LiteralKind) (event : Event) (events after : List Event) (applies : Applies k event events after) where
  abbrev plans : List Plan
  plans = situation_plans situation

  abbrev guards : List (Formula × List VarId)
  guards = map placed_guard situation.past.now.guards

  abbrev before_it : List Step → List Step
  before_it trace = trace_with_step trace situation.time events

  abbrev behind_it : List Step → List Step
  behind_it trace = trace_with_step trace situation.time after

  differ : (trace : List Step) → DiffersIn k event.name (before_it trace) (behind_it trace)
  differ trace = differs k event events after trace situation.time applies

  same_time : (trace : List Step) → time_now (before_it trace) ≡ time_now (behind_it trace)
  same_time trace =
      ap (λ (s : Step). s.time) (last_step trace (record { time = situation.time; events = events }))
      ∙ sym (ap (λ (s : Step). s.time) (last_step trace (record { time = situation.time; events = after })))

  pub instance_stays : (trace : List Step) (i : Instance) → Contains situation.pending.now.instances i → IsUnmovedOf plans k event.name i
      → Met plans situation.inserted (before_it trace) i → Met plans situation.inserted (behind_it trace) i
  instance_stays trace i there unmoved was =
      subst (λ t. MissingOf plans (behind_it trace) i (is_forced situation.inserted t i) []) (same_time trace)
      (instances_met guards k event.name (before_it trace) (behind_it trace) plans i (is_forced situation.inserted (time_now (before_it trace)) i)
      (differ trace) unmoved (AllByRecursion-contains (CanAskOf guards plans) situation.pending.now.instances i can.step.all.instances there) was)

  -- where those that sleep know of the events after it, and those that were asked are asked again that it may move
  pub asking_moves : MissingOfExists → SleepersMissNothing → EarlyMissNothing → (told : List Event) (old new : AskingList) → AsksMoved plans k event.name old new
      → ((e : Event) → Contains after e → Contains told e) → all_listed old.all ≡ situation.pending.now.listed
      → WillHold situation events (InstancesAreMetBut situation told old) → IsAskingIn situation after told new
  asking_moves exists sleep early told old new moves knows all but = record {
    all = ap all_listed moves.all ∙ all;
    but = λ trace stands long later.
        let moment = step_moment situation.inserted situation.time in
        let listed = ap all_listed moves.all ∙ all in
        asking_turns (Met plans situation.inserted (before_it trace)) (Met plans situation.inserted (behind_it trace)) told moment old new moves.all moves.ahead
        (λ x there asleep. asleep_met exists sleep early situation can after new listed trace x there (sleeps_of told after moment x knows asleep))
        (λ x there asked was. ⊎_elim (λ back. inl back)
        (λ stays. inr (stays.0, instance_stays trace x.item (in_pending situation new can listed x there) stays.1 was)) (moves.asked x asked))
        (but trace stands long later);
  }

  pub roots_stay : (from : ℕ) (again left : List ℕ) → ((rule : ℕ) → Contains again rule → Contains left rule)
      → AsksMovedAgain situation k event.name from left → WillHold situation events (RootsAreMetBut situation from again)
      → WillHold situation after (RootsAreMetBut situation from left)
  roots_stay from again left kept moved but trace stands long soon rule plan at within =
      ⊎_elim (λ there. inl there)
      (λ unmoved. ⊎_elim (λ there. inl (kept rule there)) (λ was. inr (root_stays trace rule plan at unmoved was)) (but trace stands long soon rule plan at within))
      (moved rule plan at within)
    where
      root_stays : (trace : List Step) (rule : ℕ) (plan : Plan) → slice_get plans rule ≡ Some plan → IsUnmovedIn k event.name plan
          → Missing (before_it trace) plan no_values [] → Missing (behind_it trace) plan no_values []
      root_stays trace rule plan at unmoved was =
          met guards k event.name (before_it trace) (behind_it trace) plan no_values (differ trace) unmoved
          (AllByRecursion-contains (CanAskRoot guards) plans plan can.step.all.roots (there_from_get plans rule plan at)).0 was

  -- what a root misses is the rest of what it missed
  pub left_rest : HasActionRole plans k event.name → (given : List Event) (rule : ℕ) (literals : List Literal) → RootLeavesRest situation k event.name rule
      → (is : IsMissedAtRoot situation given events rule literals) → WillHold situation after (IsLeftOf is.plan literals)
  left_rest role given rule literals leaves is trace stands long later =
      let (left, those, missing) = is.left trace stands long later in
      let (now_left, now_those, now_missing) =
      rest k event.name (before_it trace) (behind_it trace) is.plan no_values left (differ trace) (leaves is.plan is.there) is.plain missing in (
        now_left,
        those_again (IsStillWanted (before_it trace)) (IsStillWanted (behind_it trace)) literals left now_left
            (λ l there wanted. let leaf = is.are l there in
            wanted_now plans situation.pending.now.instances situation.past.now situation.inserted situation.time situation.position trace events l
            (still k l.kind event l.event events after applies
            (λ not same. one_way plans can.step.roles k l.kind event.name role
            (subst (HasActionRole plans l.kind) same (role_of_leaf plans leaf.leaf l.kind l.leaf l.event leaf.there leaf.is)) not)
            (changes_now plans situation.pending.now.instances situation.past.now situation.inserted situation.time situation.position trace after l wanted)))
            those now_those,
        now_missing,
      )

  -- it comes next, where nobody before it misses anything
  pub missed_rest : HasActionRole plans k event.name → (given : List Event) (rule : ℕ) (literals : List Literal) → RootLeavesRest situation k event.name rule
      → WillHold situation after (InstancesAreMet situation) → WillHold situation after (FirstRootsAreMet situation rule)
      → IsMissedAtRoot situation given events rule literals → IsMissedAtRoot situation given after rule literals
  missed_rest role given rule literals leaves instances roots is = record {
    plan = is.plan;
    there = is.there;
    plain = is.plain;
    are = is.are;
    instances = instances;
    roots = roots;
    left = left_rest role given rule literals leaves is;
  }

  -- ---- no plan is moved by an action on a name that no guard looks for, and each misses the rest

  module _ (role : HasActionRole plans k event.name) (apart : Contains (guard_names situation.past.now.guards) event.name → ⊥) where
    unread : AllByRecursion (IsUnreadIn k event.name) plans
    unread = spared_unread plans situation.past.now.guards k event.name can.step.roles role can.step.all.roots apart

    unread_at : (rule : ℕ) (plan : Plan) → slice_get plans rule ≡ Some plan → IsUnreadIn k event.name plan
    unread_at rule plan at = AllByRecursion-contains (IsUnreadIn k event.name) plans plan unread (there_from_get plans rule plan at)

    unmoved : AllByRecursion (IsUnmovedIn k event.name) plans
    unmoved = AllByRecursion-weaker (IsUnreadIn k event.name) (IsUnmovedIn k event.name) plans (unread_unmoved k event.name) unread

    pub all_leave : (rule : ℕ) → RootLeavesRest situation k event.name rule
    all_leave rule plan at = unread_rest k event.name plan (unread_at rule plan at)

    pub spared_roots : (from : ℕ) (again : List ℕ) → WillHold situation events (RootsAreMetBut situation from again)
        → WillHold situation after (RootsAreMetBut situation from again)
    spared_roots from again but =
        roots_stay from again again (λ rule there. there) (λ rule plan at within. inr (unread_unmoved k event.name plan (unread_at rule plan at))) but

    pub spared_asking : (told : List Event) (asking : AskingList) → IsAskingIn situation events told asking → IsAskingIn situation after told asking
    spared_asking told asking is = record {
      all = is.all;
      but = λ trace stands long later x there.
          ⊎_elim (λ ahead. inl ahead)
          (λ on. inr (instance_stays trace x.item (in_pending situation asking can is.all x there) (node_unmoved k event.name plans unmoved x.item) on.0, on.1))
          (is.but trace stands long later x there);
    }

    -- so all that misses nothing before a root stays so
    pub spared_instances : WillHold situation events (InstancesAreMet situation) → WillHold situation after (InstancesAreMet situation)
    spared_instances were trace stands long soon = each situation.pending.now.instances (λ i there. there) (were trace stands long soon)
      where
        each : (is : List Instance) → ((i : Instance) → Contains is i → Contains situation.pending.now.instances i)
            → AllByRecursion (MissesNothing plans situation.inserted (before_it trace)) (map Waiting is)
            → AllByRecursion (MissesNothing plans situation.inserted (behind_it trace)) (map Waiting is)
        each [] within were = tt
        each (i ∷ is) within were = (
          instance_stays trace i (within i (here i is)) (node_unmoved k event.name plans unmoved i) were.0,
          each is (λ j there. within j (later j i is there)) were.1,
        )

    pub spared_first : (rule : ℕ) → WillHold situation events (FirstRootsAreMet situation rule) → WillHold situation after (FirstRootsAreMet situation rule)
    spared_first rule were trace stands long soon =
        first_stay rule 0 plans can.step.all.roots unmoved (were trace stands long soon)
      where
        first_stay : (so_many number : ℕ) (ps : List Plan) → AllByRecursion (CanAskRoot guards) ps → AllByRecursion (IsUnmovedIn k event.name) ps
            → AllByRecursion (MissesNothing plans situation.inserted (before_it trace)) (roots_from number (take so_many ps))
            → AllByRecursion (MissesNothing plans situation.inserted (behind_it trace)) (roots_from number (take so_many ps))
        first_stay zero number ps can_ask are were = tt
        first_stay (suc so_many) number [] can_ask are were = tt
        first_stay (suc so_many) number (p ∷ ps) can_ask are were = (
          met guards k event.name (before_it trace) (behind_it trace) p no_values (differ trace) are.0 can_ask.0.0 were.0,
          first_stay so_many (suc number) ps can_ask.1 are.1 were.1,
        )

  -- those that were passed unmoved miss nothing still, where nobody missed anything
  pub passes_on : (told : List Event) (old new : AskingList) → PassesUnmoved plans k event.name old new → WillHold situation events (InstancesAreMet situation)
      → IsAskingIn situation after told old → IsAskingIn situation after told new
  passes_on told old new passes were is = record {
    all = ap all_listed passes.all ∙ is.all;
    but = λ trace stands long later x there.
        let inside = subst (λ (l : List (Entry Instance)). Contains l x) passes.all there in
        let pending = in_pending situation old can is.all x inside in
        ⊎_elim
        (λ ahead. ⊎_elim (λ on. inl on)
        (λ passed. inr (
          instance_stays trace x.item pending passed.1
              (waiting_met plans situation.inserted (before_it trace) situation.pending.now.instances x.item (were trace stands long later) pending),
          inr passed.0,
        ))
        (passes.ahead x ahead))
        (λ on. inr (on.0, ⊎_elim (λ asleep. inl asleep) (λ asked. inr (passes.asked x asked)) on.1))
        (is.but trace stands long later x inside);
  }

-- ---- all that is known after an action

pub drop_push : (actions : List Action) (action : Action) (k : ℕ) → k ≤ length actions → drop k (actions ++ action ∷ []) ≡ drop k actions ++ action ∷ []
drop_push actions action zero within = refl
drop_push [] action (suc k) within = absurd (omega (arith, within))
drop_push (a ∷ actions) action (suc k) within = drop_push actions action k (omega (arith, within))

drop_whole : (actions : List Action) (k : ℕ) → k ≡ length actions → drop k actions ≡ []
drop_whole [] zero at = refl
drop_whole [] (suc k) at = refl
drop_whole (a ∷ actions) zero at = absurd (omega (arith, at))
drop_whole (a ∷ actions) (suc k) at = drop_whole actions k (omega (arith, at))

module _ (met : UnreadStaysMet) (instances_met : UnreadInstanceStaysMet) (rest : UnreadLeavesRest) (situation : Situation) (can : CanDecideSituation situation)
    (action : Action) (role : HasActionRole (situation_plans situation) action.kind action.event.name) (events after : List Event) (applies : Applies action.kind action.event events after)
    (actions all : List Action) (pushed : all ≡ actions ++ action ∷ []) (old : Unasked) (kept : IsUnaskedAt situation events actions old) where
  later_is : drop old.roused all ≡ drop old.roused actions ++ action ∷ []
  later_is = ap (λ l. drop old.roused l) pushed ∙ drop_push actions action old.roused kept.within

  knows : AreToldBut after kept.told (drop old.roused all)
  knows = subst (AreToldBut after kept.told) (sym later_is) (told_more events kept.told (drop old.roused actions) action after applies kept.are)

  -- on a name that no guard looks for
  pub act_spared : (Contains (guard_names situation.past.now.guards) action.event.name → ⊥) → IsUnaskedAt situation after all old
  act_spared apart = record {
    told = kept.told;
    are = knows;
    within = omega (arith, kept.within, ap length pushed, length-append actions (action ∷ []));
    is = record {
      asking = spared_asking met instances_met rest situation can action.kind action.event events after applies role apart kept.told old.asking kept.is.asking;
      roots = spared_roots met instances_met rest situation can action.kind action.event events after applies role apart old.from old.again.items kept.is.roots;
    };
  }

  -- and on one for which guards look
  pub act_moves : MissingOfExists → SleepersMissNothing → EarlyMissNothing → (new : Unasked) → new.from ≡ old.from → new.roused ≡ length all
      → ((rule : ℕ) → Contains old.again.items rule → Contains new.again.items rule)
      → AsksMovedAgain situation action.kind action.event.name new.from new.again.items
      → (between : AskingList) → RousesEach (events_caused (drop old.roused all)) old.asking between
      → AsksMoved (situation_plans situation) action.kind action.event.name between new.asking → IsUnaskedAt situation after all new
  act_moves exists sleep early new same_from told_all again moved between rouses moves =
      let told = kept.told ++ events_caused (drop old.roused all) in
      record {
        told = told;
        are = λ e there. inl (knows_all after kept.told (drop old.roused all) knows e there);
        within = omega (arith, told_all);
        is = record {
          asking = asking_moves met instances_met rest situation can action.kind action.event events after applies exists sleep early told between new.asking moves
              (knows_all after kept.told (drop old.roused all) knows)
              (ap all_listed (rouse_keeps_all (events_caused (drop old.roused all)) old.asking between rouses) ∙ kept.is.asking.all)
              (λ trace stands long later. told_each (Met (situation_plans situation) situation.inserted (trace_with_step trace situation.time events))
              (step_moment situation.inserted situation.time) (events_caused (drop old.roused all)) kept.told old.asking between rouses
              (kept.is.asking.but trace stands long later));
          roots = roots_stay met instances_met rest situation can action.kind action.event events after applies new.from old.again.items new.again.items again moved
              (subst (λ n. WillHold situation events (RootsAreMetBut situation n old.again.items)) (sym same_from) kept.is.roots);
        };
      }
