-- What is begun at an inserted step has a lower class than something that was due; so what can be owed never grows.
use Rattle.enforcer_core.proofs.Vocabulary.{◌≡◌, ◌⊎◌, ℕ, suc, ◌+◌, ◌*◌, ◌<◌, ◌≤◌, Bool, true, false, cond, List, [], ◌∷◌, ◌++◌, length, map, Contains, Option, None, Some, refl, sym, ap}
use Rattle.enforcer_core.proofs.Vocabulary.{subst, ◌∙◌, arith, inl, inr, ⊎_elim, unsigned_Decides, flat_map, cases_lt, false≢true, All-contains, All-from_recursion}
use Rattle.enforcer_core.proofs.Vocabulary.{Contains-append_left, suc-mul, mul-le, same_Some, IsTrace, step_at, AllByRecursion-contains, AllByRecursion-from_contains, Contains-append}
use Rattle.enforcer_core.proofs.Vocabulary.{first_or_later, here, later, none_in_nil, there_from_get, Contains-filter, Contains-from_map, Contains-map, Valuation, no_values, Event, NameId}
use Rattle.enforcer_core.proofs.Vocabulary.{MOST_INTERVAL_END, Step, last_time, most_time, Inserted, LastIsAtTheEnd, AllEndLater, EndsLater, EndsInTime, AreWellFormed, IsWellFormed, has_deadline}
use Rattle.enforcer_core.proofs.Vocabulary.{nodes, window_end, Plan, CausePlan, SuppressPlan, Both, Either, TestOr, Guarded, EventuallyPlan, AlwaysPlan, UntilPlan, NextPlan, NodesStandIn, IsRank}
use Rattle.enforcer_core.proofs.Vocabulary.{AreRanked, class_of, greatest, horizon_of, rank_in, with_deadlines, EdgesRise, Edge, begun_later, below, needs_trigger, AreAccepted, Typed, WorkTogether}
use Rattle.enforcer_core.proofs.Vocabulary.{Begun, LacksNothing, LacksSome, time_now, last_position, MissingIsOne, PendIsOne, WellFormedStand, After, AtNode, BecomesAt, BegunByRoots, PendingAfter}
use Rattle.enforcer_core.proofs.Vocabulary.{HasDeadline, IsNowIn, MissesAt, MissingOf, NoneIsOver, Pend, node_of, BegunByRoots-contains, Gathers-contains, BegunIsNamed, BegunIsReached}
use Rattle.enforcer_core.proofs.Vocabulary.{MissedIsReached, ReachedIsInside, IsBegunBy, IsBegunIn, IsReached, last_events, IsBegunAt, PendCame, PendingWasBegun, Action, Instance, Decides}
use Rattle.enforcer_core.proofs.Vocabulary.{MissesNothing, Waiting, all_asked, is_forced, roots_from, trace_with_step, DecidedMissesNothing, AnyDeadlinesFall, DeadlinesAreWithinReach, HighsAreNear}
use Rattle.enforcer_core.proofs.Vocabulary.{NoneGoesOver, ReachIsWithinHorizon, ServedDeadlinesFall, WindowsAreInOrder, WindowsAreOrdered, reach_at, reach_of, widest_window}
use Rattle.std.proofs.Common.{slice_get}
use Rattle.enforcer_core.proofs.ClassLemmas.{class_below, class_higher, greatest_is, greatest_within, in_flat, least, least_behind, nodes_in}
use Rattle.enforcer_core.proofs.TriggerLemmas.{AreOwed, Ends, IsAsked, IsDue, anew_asked, behind_event, decided_owed, due_asked, ends_now, has_node, last_step, root_asked}
use Rattle.obligations.proofs.UnmetGoalLemmas.{front_not_later}

-- ---- reach

pub reach_is : (ranks : List ℕ) (plans : List Plan) (i : Instance) (node : Plan) → node_of plans i ≡ Some node
    → has_deadline node ≡ true
    → reach_at ranks plans i.high (node_of plans i) ≡ i.high + class_of ranks plans node * widest_window plans
reach_is ranks plans i node found has =
    ap (reach_at ranks plans i.high) found
    ∙ ap (λ (b : Bool). cond b (i.high + class_of ranks plans node * widest_window plans) 0) has

-- it is within a bound where it is so for an instance of a node with a deadline
pub reach_within : (ranks : List ℕ) (plans : List Plan) (i : Instance) (node : Plan) (most : ℕ) → node_of plans i ≡ Some node
    → (has_deadline node ≡ true → i.high + class_of ranks plans node * widest_window plans ≤ most)
    → reach_at ranks plans i.high (node_of plans i) ≤ most
reach_within ranks plans i node most found each =
    subst (λ (o : Option Plan). reach_at ranks plans i.high o ≤ most) (sym found) (by (has_deadline node) each)
  where
    by : (b : Bool) → (b ≡ true → i.high + class_of ranks plans node * widest_window plans ≤ most)
        → cond b (i.high + class_of ranks plans node * widest_window plans) 0 ≤ most
    by true each = each refl
    by false each = omega arith

-- each of what is pending is within what all of it can be owed
pub in_reach : (ranks : List ℕ) (plans : List Plan) (pending : List Instance) (i : Instance) → Contains pending i
    → reach_at ranks plans i.high (node_of plans i) ≤ reach_of ranks plans pending
in_reach ranks plans pending i there =
    greatest_is (map (λ (j : Instance). reach_at ranks plans j.high (node_of plans j)) pending) (reach_at ranks plans i.high (node_of plans i))
    (Contains-map (λ (j : Instance). reach_at ranks plans j.high (node_of plans j)) pending i there)

pub reach_of_within : (ranks : List ℕ) (plans : List Plan) (pending : List Instance) (most : ℕ)
    → ((i : Instance) → Contains pending i → reach_at ranks plans i.high (node_of plans i) ≤ most)
    → reach_of ranks plans pending ≤ most
reach_of_within ranks plans pending most each =
    greatest_within (map (λ (j : Instance). reach_at ranks plans j.high (node_of plans j)) pending) most
    (λ n there. let from = Contains-from_map (λ (j : Instance). reach_at ranks plans j.high (node_of plans j)) pending n there in
    subst (λ (k : ℕ). k ≤ most) from.2 (each from.0 from.1))

-- a deadline is that of the node
pub due_at : (plans : List Plan) (i : Instance) (deadline : ℕ) → HasDeadline plans i deadline
    → (node : Plan) × (node_of plans i ≡ Some node) × (has_deadline node ≡ true) × (i.high ≡ deadline)
due_at plans i deadline due = by (node_of plans i) refl due
  where
    by : (at : Option Plan) → node_of plans i ≡ at → AtNode at (λ node. (has_deadline node ≡ true) × (i.high ≡ deadline))
        → (node : Plan) × (node_of plans i ≡ Some node) × (has_deadline node ≡ true) × (i.high ≡ deadline)
    by None is due = absurd due
    by (Some node) is due = (node, is, due.0, due.1)

pub deadline_of : (plans : List Plan) (i : Instance) (node : Plan) → node_of plans i ≡ Some node → has_deadline node ≡ true
    → HasDeadline plans i i.high
deadline_of plans i node found has =
    subst (λ (o : Option Plan). AtNode o (λ n. (has_deadline n ≡ true) × (i.high ≡ i.high))) (sym found) (has, refl)

pub deadlines_are_within_reach : DeadlinesAreWithinReach
deadlines_are_within_reach ranks plans pending i deadline there due =
    let d = due_at plans i deadline due in
    let reach = in_reach ranks plans pending i there in
    let is = reach_is ranks plans i d.0 d.1 d.2 in
    omega (arith, reach, is, d.3)

-- a lower class has one window less
pub below_reach : (time window most class other high last reach : ℕ) → high ≡ time + window → window ≤ most → class < other
    → time ≤ last → last + other * most ≤ reach → high + class * most ≤ reach
below_reach time window most class other high last reach is within less later reached =
    let one : suc class * most ≤ other * most = mul-le (suc class) most other most (omega (arith, less)) (omega arith) in
    omega (arith, is, within, later, reached, one, suc-mul class most)

-- ---- windows

-- the end of the window of what is begun, and that it does not end at once
pub begun_high : (time position rule : ℕ) (node : Plan) (i : Instance) → IsBegunAt time position rule node i
    → has_deadline node ≡ true → i.high ≡ time + window_end node
begun_high time position rule (EventuallyPlan n place low high body) i (v, same) has = sym (ap (λ (j : Instance). j.high) same)
begun_high time position rule (UntilPlan n place low high l r) i (v, same) has = sym (ap (λ (j : Instance). j.high) same)
begun_high time position rule (NextPlan n place high body) i (v, same) has = sym (ap (λ (j : Instance). j.high) same)
begun_high time position rule (AlwaysPlan n place low high body) i begins has = absurd (false≢true has)
begun_high time position rule (CausePlan n place name terms) i begins has = absurd begins
begun_high time position rule (SuppressPlan n place name terms) i begins has = absurd begins
begun_high time position rule (Both n l r) i begins has = absurd begins
begun_high time position rule (Either n l r) i begins has = absurd begins
begun_high time position rule (TestOr n guard test body) i begins has = absurd begins
begun_high time position rule (Guarded n xs guard test body) i begins has = absurd begins

pub later_end : (node : Plan) → EndsLater node → has_deadline node ≡ true → 0 < window_end node
later_end (EventuallyPlan n place low high body) later has = later
later_end (UntilPlan n place low high l r) later has = later
later_end (NextPlan n place high body) later has = later
later_end (AlwaysPlan n place low high body) later has = absurd (false≢true has)
later_end (CausePlan n place name terms) later has = absurd (false≢true has)
later_end (SuppressPlan n place name terms) later has = absurd (false≢true has)
later_end (Both n l r) later has = absurd (false≢true has)
later_end (Either n l r) later has = absurd (false≢true has)
later_end (TestOr n guard test body) later has = absurd (false≢true has)
later_end (Guarded n xs guard test body) later has = absurd (false≢true has)

pub needs : (node : Plan) → has_deadline node ≡ true → needs_trigger node ≡ true
needs (EventuallyPlan n place low high body) has = refl
needs (UntilPlan n place low high l r) has = refl
needs (NextPlan n place high body) has = refl
needs (AlwaysPlan n place low high body) has = absurd (false≢true has)
needs (CausePlan n place name terms) has = refl
needs (SuppressPlan n place name terms) has = absurd (false≢true has)
needs (Both n l r) has = absurd (false≢true has)
needs (Either n l r) has = absurd (false≢true has)
needs (TestOr n guard test body) has = absurd (false≢true has)
needs (Guarded n xs guard test body) has = absurd (false≢true has)

pub ordered_window : (trace : List Step) (rule : ℕ) (node : Plan) (i : Instance) → IsBegunBy trace rule node i → EndsInTime node
    → i.low ≤ i.high
ordered_window trace rule (EventuallyPlan n place low high body) i (v, same) ends =
    omega (arith, ap (λ (j : Instance). j.low) same, ap (λ (j : Instance). j.high) same, ends.0)
ordered_window trace rule (AlwaysPlan n place low high body) i (v, same) ends =
    omega (arith, ap (λ (j : Instance). j.low) same, ap (λ (j : Instance). j.high) same, ends.0)
ordered_window trace rule (UntilPlan n place low high l r) i (v, same) ends =
    omega (arith, ap (λ (j : Instance). j.low) same, ap (λ (j : Instance). j.high) same, ends.0)
ordered_window trace rule (NextPlan n place high body) i (v, same) ends =
    omega (arith, ap (λ (j : Instance). j.low) same, ap (λ (j : Instance). j.high) same)
ordered_window trace rule (CausePlan n place name terms) i begins ends = absurd begins
ordered_window trace rule (SuppressPlan n place name terms) i begins ends = absurd begins
ordered_window trace rule (Both n l r) i begins ends = absurd begins
ordered_window trace rule (Either n l r) i begins ends = absurd begins
ordered_window trace rule (TestOr n guard test body) i begins ends = absurd begins
ordered_window trace rule (Guarded n xs guard test body) i begins ends = absurd begins

-- ---- deadlines

module _ (plans : List Plan) where
  pub in_deadlines : (plan node : Plan) → Contains plans plan → Contains (nodes plan) node → has_deadline node ≡ true
      → Contains (with_deadlines plans) node
  in_deadlines plan node among there has =
      Contains-filter has_deadline (flat_map nodes plans) node (in_flat nodes plans plan node among there) has

  pub window_within : (node : Plan) → Contains (with_deadlines plans) node → window_end node ≤ widest_window plans
  window_within node there =
      greatest_is (map window_end (with_deadlines plans)) (window_end node) (Contains-map window_end (with_deadlines plans) node there)

  pub over_from : (time : ℕ) (after : List Instance)
      → ((i : Instance) → Contains after i → (deadline : ℕ) → HasDeadline plans i deadline → time ≤ deadline)
      → NoneIsOver plans after time
  over_from time after each =
      All-from_recursion (λ (i : Instance). (deadline : ℕ) → HasDeadline plans i deadline → time ≤ deadline) after
      (AllByRecursion-from_contains (λ (i : Instance). (deadline : ℕ) → HasDeadline plans i deadline → time ≤ deadline) after each)

  pub over_at : (time : ℕ) (pending : List Instance) → NoneIsOver plans pending time → (i : Instance) → Contains pending i
      → (deadline : ℕ) → HasDeadline plans i deadline → time ≤ deadline
  over_at time pending over i there =
      All-contains (λ (j : Instance). (deadline : ℕ) → HasDeadline plans j deadline → time ≤ deadline) pending i over there

-- where no deadline is later, nothing is owed after the horizon of that time
pub reach_later : (typed : Typed) → WorkTogether typed → (pending : List Instance) (last : ℕ)
    → ((i : Instance) → Contains pending i → (deadline : ℕ) → HasDeadline typed.plans i deadline → deadline ≤ last)
    → reach_of typed.ranked.ranks typed.plans pending ≤ last + typed.ranked.horizon
reach_later typed works pending last until =
    reach_of_within typed.ranked.ranks typed.plans pending (last + typed.ranked.horizon) (λ i there. by i there (node_of typed.plans i) refl)
  where
    by : (i : Instance) → Contains pending i → (at : Option Plan) → node_of typed.plans i ≡ at
        → reach_at typed.ranked.ranks typed.plans i.high (node_of typed.plans i) ≤ last + typed.ranked.horizon
    by i there None found =
        subst (λ (o : Option Plan). reach_at typed.ranked.ranks typed.plans i.high o ≤ last + typed.ranked.horizon) (sym found) (omega arith)
    by i there (Some node) found = reach_within typed.ranked.ranks typed.plans i node (last + typed.ranked.horizon) found (λ has.
        let h = has_node typed.plans i node found in
        let there' = in_deadlines typed.plans h.plan node (there_from_get typed.plans i.rule h.plan h.plan_is) h.inside has in
        let class = greatest_is (map (class_of typed.ranked.ranks typed.plans) (with_deadlines typed.plans)) (class_of typed.ranked.ranks typed.plans node)
        (Contains-map (class_of typed.ranked.ranks typed.plans) (with_deadlines typed.plans) node there') in
        let due = until i there i.high (deadline_of typed.plans i node found has) in
        let most = mul-le (class_of typed.ranked.ranks typed.plans node) (widest_window typed.plans)
        (greatest (map (class_of typed.ranked.ranks typed.plans) (with_deadlines typed.plans)) + 1) (widest_window typed.plans) (omega (arith, class)) (omega arith) in
        omega (arith, due, most, works.ranked.horizon))

-- ---- what becomes of what is pending

-- a node is met at the last position: its instance is not pending any longer
abbrev pub IsMet : List Step → Instance → Plan → Type 0
IsMet trace i (EventuallyPlan n place low high body) = IsNowIn trace i × LacksNothing trace body i.valuation
IsMet trace i (UntilPlan n place low high l r) = IsNowIn trace i × LacksNothing trace r i.valuation
IsMet trace i (NextPlan n place high body) = Unit {0}
IsMet trace i node = ⊥

-- it waits, and what it begins anew is after it
pub record Stays (trace : List Step) (i : Instance) (node : Plan) (after : List Instance) : Type 0 where
  pub more : List Instance
  pub are : after ≡ i ∷ more
  pub unmet : IsMet trace i node → ⊥
  pub anew : (more ≡ []) ⊎ ((part : Plan) × Contains (begun_later node) part × Begun trace i.rule part i.valuation more)

-- it is met, and what is below it begins
pub record Leaves (trace : List Step) (i : Instance) (node : Plan) (after : List Instance) : Type 0 where
  pub has : has_deadline node ≡ true
  pub met : IsMet trace i node
  pub part : Plan
  pub at : Contains (below node) part
  pub begins : Begun trace i.rule part i.valuation after

-- or it is over
pub record Passes (node : Plan) (after : List Instance) : Type 0 where
  pub has : has_deadline node ≡ false
  pub none : after ≡ []

abbrev pub Becomes : List Step → Instance → Plan → List Instance → Type 0
Becomes trace i node after = Stays trace i node after ⊎ (Leaves trace i node after ⊎ Passes node after)

module _ (one : MissingIsOne) (trace : List Step) (i : Instance) (after : List Instance) where
  apart : (part : Plan) → (IsNowIn trace i → LacksSome trace part i.valuation)
      → IsNowIn trace i × LacksNothing trace part i.valuation → ⊥
  apart part some (now, nothing) =
      let lacks : LacksSome trace part i.valuation = some now in
      let same : [] ≡ lacks.0 ∷ lacks.1 = one trace part i.valuation [] (lacks.0 ∷ lacks.1) nothing lacks.2 in
      let none : 0 ≡ length (lacks.0 ∷ lacks.1) = ap length same in omega arith

  becomes_at : (node : Plan) → BecomesAt trace node i after → Becomes trace i node after
  becomes_at (EventuallyPlan n place low high body) becomes = ⊎_elim
      (λ met. inr (inl (record { has = refl; met = (met.0, met.1); part = body; at = here body []; begins = met.2 })))
      (λ waits. inl (record { more = []; are = waits.1; unmet = apart body waits.0; anew = inl refl })) becomes
  becomes_at (NextPlan n place high body) becomes =
      inr (inl (record { has = refl; met = tt; part = body; at = here body []; begins = becomes }))
  becomes_at (AlwaysPlan n place low high body) becomes = ⊎_elim
      (λ early. inl (record { more = []; are = early.1; unmet = λ met. met; anew = inl refl })) (λ others. ⊎_elim
      (λ inside. inl (record { more = inside.1.0; are = inside.1.2; unmet = λ met. met; anew = inr (body, here body [], inside.1.1) }))
      (λ over. inr (inr (record { has = refl; none = over.2 }))) others) becomes
  becomes_at (UntilPlan n place low high l r) becomes = ⊎_elim
      (λ met. inr (inl (record { has = refl; met = (met.0, met.1); part = r; at = later r l (r ∷ []) (here r []); begins = met.2 })))
      (λ waits. inl (record { more = waits.1.0; are = waits.1.2; unmet = apart r waits.0; anew = inr (l, here l [], waits.1.1) })) becomes
  becomes_at (CausePlan n place name terms) becomes = absurd becomes
  becomes_at (SuppressPlan n place name terms) becomes = absurd becomes
  becomes_at (Both n l r) becomes = absurd becomes
  becomes_at (Either n l r) becomes = absurd becomes
  becomes_at (TestOr n guard test body) becomes = absurd becomes
  becomes_at (Guarded n xs guard test body) becomes = absurd becomes

-- where nothing is missed, what has to be met is met
module _ (trace : List Step) (i : Instance) (ordered : i.low ≤ i.high) where
  pub at_end : is_forced true (time_now trace) i ≡ true → IsNowIn trace i
  at_end forced =
      let now : time_now trace ≡ i.high = (unsigned_Decides (time_now trace) i.high).0 forced in
      (omega (arith, now, ordered), omega (arith, now))

  ends_met : (node : Plan) → (forced : Bool) → (forced ≡ true → IsNowIn trace i) → ends_now node forced ≡ true
      → MissesAt trace node i forced [] → IsMet trace i node
  ends_met (EventuallyPlan n place low high body) true now ends quiet = (now refl, quiet)
  ends_met (EventuallyPlan n place low high body) false now ends quiet = absurd (false≢true ends)
  ends_met (UntilPlan n place low high l r) true now ends quiet = ⊎_elim (λ met. (met.0, met.1)) (λ waits. (now refl, waits.1)) quiet
  ends_met (UntilPlan n place low high l r) false now ends quiet = absurd (false≢true ends)
  ends_met (NextPlan n place high body) forced now ends quiet = tt
  ends_met (AlwaysPlan n place low high body) forced now ends quiet = absurd (false≢true ends)
  ends_met (CausePlan n place name terms) forced now ends quiet = absurd quiet
  ends_met (SuppressPlan n place name terms) forced now ends quiet = absurd quiet
  ends_met (Both n l r) forced now ends quiet = absurd quiet
  ends_met (Either n l r) forced now ends quiet = absurd quiet
  ends_met (TestOr n guard test body) forced now ends quiet = absurd quiet
  ends_met (Guarded n xs guard test body) forced now ends quiet = absurd quiet

-- at its deadline a node has to be met
pub due_ends : (time : ℕ) (i : Instance) (node : Plan) → has_deadline node ≡ true → time ≡ i.high → Ends time i node
due_ends time i (EventuallyPlan n place low high body) has now = (unsigned_Decides time i.high).1 now
due_ends time i (UntilPlan n place low high l r) has now = (unsigned_Decides time i.high).1 now
due_ends time i (NextPlan n place high body) has now = refl
due_ends time i (AlwaysPlan n place low high body) has now = absurd (false≢true has)
due_ends time i (CausePlan n place name terms) has now = absurd (false≢true has)
due_ends time i (SuppressPlan n place name terms) has now = absurd (false≢true has)
due_ends time i (Both n l r) has now = absurd (false≢true has)
due_ends time i (Either n l r) has now = absurd (false≢true has)
due_ends time i (TestOr n guard test body) has now = absurd (false≢true has)
due_ends time i (Guarded n xs guard test body) has now = absurd (false≢true has)

-- ---- what is begun at a step

module _ (stand : NodesStandIn) (inside : ReachedIsInside) (named : BegunIsNamed) (begun_reached : BegunIsReached)
    (one : MissingIsOne) (typed : Typed) (formed : AreWellFormed typed.plans typed.guards) where
  abbrev plans : List Plan
  plans = typed.plans

  abbrev ranks : List ℕ
  ranks = typed.ranked.ranks

  -- an instance of a node that is reached from what is asked at the step
  pub record IsNew (trace : List Step) (before : List Instance) (i : Instance) : Type 0 where
    pub rule : ℕ
    pub start : Plan
    pub asked : IsAsked plans before (IsMet trace) rule start
    pub node : Plan
    pub reached : IsReached trace start node
    pub begins : IsBegunBy trace rule node i
    pub found : node_of plans i ≡ Some node
    pub within : Contains (nodes asked.plan) node

  new_from : (trace : List Step) (before : List Instance) (rule : ℕ) (start : Plan) (v : Valuation) (begun : List Instance)
      → IsAsked plans before (IsMet trace) rule start → Begun trace rule start v begun → (i : Instance) → Contains begun i
      → IsNew trace before i
  new_from trace before rule start v begun asked begins i there =
      let is : IsBegunIn trace rule start i = begun_reached trace rule start v begun i begins there in
      record {
        rule = rule;
        start = start;
        asked = asked;
        node = is.0;
        reached = is.1;
        begins = is.2;
        found = (named plans (last_events trace) (time_now trace) (last_position trace) rule start is.0 i
            (stand typed.guards plans rule asked.plan start formed.each asked.plan_is asked.inside) is.1 is.2).1;
        within = nodes_in asked.plan start is.0 asked.inside (inside (last_events trace) start is.0 is.1);
      }

  module _ (trace : List Step) (before : List Instance) (i : Instance) (node : Plan) (after : List Instance)
      (there : Contains before i) (found : node_of plans i ≡ Some node) where
    pub leaves_new : Leaves trace i node after → (j : Instance) → Contains after j → IsNew trace before j
    leaves_new l j among =
        new_from trace before i.rule l.part i.valuation after
        (due_asked plans before (IsMet trace) i node l.part there found l.at l.has l.met) l.begins j among

    pub stays_new : (s : Stays trace i node after) → (j : Instance) → Contains s.more j → IsNew trace before j
    stays_new s j among = ⊎_elim
        (λ none. absurd (none_in_nil j (subst (λ (l : List Instance). Contains l j) none among)))
        (λ anew. new_from trace before i.rule anew.0 i.valuation s.more
        (anew_asked plans before (IsMet trace) i node anew.0 there found anew.1) anew.2 j among) s.anew

  -- what becomes of an instance that was pending
  pub becomes : (trace : List Step) (i : Instance) (after : List Instance) → After plans trace i after
      → (node : Plan) × (node_of plans i ≡ Some node) × Becomes trace i node after
  becomes trace i after is = by (node_of plans i) refl is
    where
      by : (at : Option Plan) → node_of plans i ≡ at → AtNode at (λ node. BecomesAt trace node i after)
          → (node : Plan) × (node_of plans i ≡ Some node) × Becomes trace i node after
      by None found b = absurd b
      by (Some node) found b = (node, found, becomes_at one trace i after node b)

  -- what is pending after a step waited there, or is new
  abbrev Waited : List Step → List Instance → Instance → Type 0
  Waited trace before j = Contains before j × (node : Plan) × (node_of plans j ≡ Some node) × (IsMet trace j node → ⊥)

  kept_or_new : (trace : List Step) (before : List Instance) (i j : Instance) (after : List Instance) → Contains before i
      → After plans trace i after → Contains after j → Waited trace before j ⊎ IsNew trace before j
  kept_or_new trace before i j after there is among =
      let b = becomes trace i after is in
      ⊎_elim
      (λ s. ⊎_elim
      (λ (same : i ≡ j). inl (
        subst (Contains before) same there,
        b.0,
        subst (λ (k : Instance). node_of plans k ≡ Some b.0) same b.1,
        subst (λ (k : Instance). IsMet trace k b.0 → ⊥) same s.unmet,
      ))
      (λ more. inr (stays_new trace before i b.0 after there b.1 s j more))
      (first_or_later j i s.more (subst (λ (l : List Instance). Contains l j) s.are among)))
      (λ others. ⊎_elim
      (λ l. inr (leaves_new trace before i b.0 after there b.1 l j among))
      (λ p. absurd (none_in_nil j (subst (λ (l : List Instance). Contains l j) p.none among))) others)
      b.2

  pub roots_new : (trace : List Step) (before begun : List Instance) → BegunByRoots trace 0 plans begun → (j : Instance)
      → Contains begun j → IsNew trace before j
  roots_new trace before begun begins j there =
      let root = BegunByRoots-contains trace 0 plans begun j begins there in
      new_from trace before root.0 root.1 no_values root.3 (root_asked plans before (IsMet trace) root.0 root.1 root.2)
      (subst (λ (r : ℕ). Begun trace r root.1 no_values root.3) {x = 0 + root.0} {y = root.0} (omega arith) root.4) j root.5

  gone : (trace : List Step) (before after : List Instance) (j : Instance) → PendingAfter plans trace before after → Contains after j
      → Waited trace before j ⊎ IsNew trace before j
  gone trace before after j (kept, begun, goes, begins, are) there = ⊎_elim
      (λ front.
      let from = Gathers-contains (After plans trace) before kept j goes front in
      kept_or_new trace before from.0 j from.2 from.1 from.3 from.4)
      (λ back. inr (roots_new trace before begun begins j back))
      (Contains-append kept begun j (subst (λ (l : List Instance). Contains l j) are there))

  plan_among : (rule : ℕ) (plan : Plan) → slice_get plans rule ≡ Some plan → Contains plans plan
  plan_among rule plan at = there_from_get plans rule plan at

  -- the node of a new instance with a deadline
  new_has : (trace : List Step) (before : List Instance) (i : Instance) (deadline : ℕ) (new : IsNew trace before i)
      → HasDeadline plans i deadline → (has_deadline new.node ≡ true) × (i.high ≡ deadline)
  new_has trace before i deadline new due =
      let d = due_at plans i deadline due in
      (subst (λ (n : Plan). has_deadline n ≡ true) (same_Some d.0 new.node (sym d.1 ∙ new.found)) d.2, d.3)

  none_goes_over : (trace : List Step) (step : Step) (before after : List Instance)
      → PendingAfter plans (trace ++ step ∷ []) before after → NoneIsOver plans before step.time → NoneIsOver plans after step.time
  none_goes_over trace step before after goes over = over_from plans step.time after (λ j there deadline due.
      let now : time_now (trace ++ step ∷ []) ≡ step.time = ap (λ (s : Step). s.time) (last_step trace step) in
      ⊎_elim
      (λ waited. over_at plans step.time before over j waited.0 deadline due)
      (λ new.
      let has = new_has (trace ++ step ∷ []) before j deadline new due in
      let high = begun_high (time_now (trace ++ step ∷ [])) (last_position (trace ++ step ∷ [])) new.rule new.node j new.begins has.0 in
      omega (arith, high, now, has.1))
      (gone (trace ++ step ∷ []) before after j goes there))

  -- the windows of what is pending are in order
  ordered_all : WellFormedStand → PendingWasBegun → (trace : List Step) (pending : List Instance) → Pend plans trace pending
      → (i : Instance) → Contains pending i → i.low ≤ i.high
  ordered_all standing was_begun trace pending pend i there =
      let was = was_begun plans trace pending i (standing plans typed.guards formed) pend there in
      let h = has_node plans i was.0 was.1 in
      let plan = AllByRecursion-contains (IsWellFormed typed.guards) plans h.plan formed.each (plan_among i.rule h.plan h.plan_is) in
      ordered_window was.2 i.rule was.0 i was.6 (AllByRecursion-contains EndsInTime (nodes h.plan) was.0 plan.ends h.inside)

  -- ---- an inserted step

  module _ (accepted : AreAccepted plans) (rise : EdgesRise) (are : (name : NameId) → IsRank (Edge plans) name (rank_in ranks name))
      (trace : List Step) (pending : List Instance) (ordered : (i : Instance) → Contains pending i → i.low ≤ i.high)
      (quiet : (i : Instance) → Contains pending i → MissingOf plans trace i (is_forced true (time_now trace) i) [])
      (owed : AreOwed plans ranks pending (time_now trace) (step_at trace (last_position trace)).events) where
    -- what has to be met is met
    pub ending_met : (i : Instance) (node : Plan) → IsDue plans pending i node → Ends (time_now trace) i node → IsMet trace i node
    ending_met i node due ends =
        ends_met trace i (ordered i due.there) node (is_forced true (time_now trace) i) (at_end trace i (ordered i due.there)) ends
        (subst (λ (o : Option Plan). AtNode o (λ n. MissesAt trace n i (is_forced true (time_now trace) i) [])) due.found (quiet i due.there))

    -- a new instance has a lower class than something that was due and is met
    pub new_lower : (i : Instance) (new : IsNew trace pending i) → has_deadline new.node ≡ true
        → (j : Instance) × (node : Plan) × IsDue plans pending j node × IsMet trace j node
        × class_of ranks plans new.node < class_of ranks plans node
    new_lower i new has = ⊎_elim
        (λ starts.
        let e = behind_event plans accepted.triggered inside (last_events trace) new.rule new.asked.plan new.start
        new.node new.asked.plan_is starts new.asked.inside new.reached (needs new.node has) in
        let owes = (owed e.0 e.1).owes in
        let behind = least_behind ranks plans rise are e.0.name new.node e.2 in (
          owes.instance,
          owes.node,
          owes.due,
          ending_met owes.instance owes.node owes.due owes.ends,
          class_higher ranks plans owes.node new.node new.asked.plan (omega (arith, owes.low, behind)) (plan_among new.rule new.asked.plan new.asked.plan_is) new.within,
        ))
        (λ due. (due.0, due.1, due.2, due.3, class_below ranks plans due.1 new.start new.node due.4 (inside (last_events trace) new.start new.node new.reached)))
        new.asked.from

    module _ (over : NoneIsOver plans pending (time_now trace)) where
      -- so it cannot be owed for longer
      new_reach : (i : Instance) → IsNew trace pending i → reach_at ranks plans i.high (node_of plans i) ≤ reach_of ranks plans pending
      new_reach i new = reach_within ranks plans i new.node (reach_of ranks plans pending) new.found (λ has.
          let low = new_lower i new has in
          let due = low.2 in
          let high = begun_high (time_now trace) (last_position trace) new.rule new.node i new.begins has in
          let window = window_within plans new.node (in_deadlines plans new.asked.plan new.node (plan_among new.rule new.asked.plan new.asked.plan_is) new.within has) in
          let later = over_at plans (time_now trace) pending over low.0 due.there low.0.high (deadline_of plans low.0 low.1 due.found due.has) in
          let reach = in_reach ranks plans pending low.0 due.there in
          let reach_as = reach_is ranks plans low.0 low.1 due.found due.has in
          below_reach (time_now trace) (window_end new.node) (widest_window plans) (class_of ranks plans new.node) (class_of ranks plans low.1) i.high low.0.high (reach_of ranks plans pending)
          high window low.4 later (omega (arith, reach, reach_as)))

      -- what waits has a later deadline
      waited_later : (j : Instance) → Waited trace pending j → (deadline : ℕ) → HasDeadline plans j deadline → time_now trace < deadline
      waited_later j (there, node, found, unmet) deadline due = ⊎_elim
          (λ l. l)
          (λ g.
          let d = due_at plans j deadline due in
          let has : has_deadline node ≡ true = subst (λ (n : Plan). has_deadline n ≡ true) (same_Some d.0 node (sym d.1 ∙ found)) d.2 in
          let least = over_at plans (time_now trace) pending over j there deadline due in
          let now : time_now trace ≡ j.high = omega (arith, g, least, d.3) in
          absurd (unmet (ending_met j node (record { there = there; found = found; has = has }) (due_ends (time_now trace) j node has now))))
          (cases_lt (time_now trace) deadline)

      served_reach : (after : List Instance) → PendingAfter plans trace pending after → (j : Instance) → Contains after j
          → reach_at ranks plans j.high (node_of plans j) ≤ reach_of ranks plans pending
      served_reach after goes j there =
          ⊎_elim (λ waited. in_reach ranks plans pending j waited.0) (new_reach j) (gone trace pending after j goes there)

      served_later : AllEndLater plans → (after : List Instance) → PendingAfter plans trace pending after → (j : Instance)
          → Contains after j → (deadline : ℕ) → HasDeadline plans j deadline → time_now trace < deadline
      served_later later after goes j there deadline due = ⊎_elim
          (λ waited. waited_later j waited deadline due)
          (λ new.
          let has = new_has trace pending j deadline new due in
          let high = begun_high (time_now trace) (last_position trace) new.rule new.node j new.begins has.0 in
          let ends = later_end new.node (AllByRecursion-contains EndsLater (flat_map nodes plans) new.node later
          (in_flat nodes plans new.asked.plan new.node (plan_among new.rule new.asked.plan new.asked.plan_is) new.within)) has.0 in
          omega (arith, high, ends, has.1))
          (gone trace pending after j goes there)

  -- ---- the horizon

  module _ (standing : WellFormedStand) (was_begun : PendingWasBegun) (last : LastIsAtTheEnd) (trace : List Step)
      (is_trace : IsTrace trace) (is_horizon : typed.ranked.horizon ≡ horizon_of ranks plans) where
    within_horizon : (pending : List Instance) (clock : ℕ) → Pend plans trace pending → last_time trace ≤ clock
        → reach_of ranks plans pending ≤ clock + typed.ranked.horizon
    within_horizon pending clock pend not_later = reach_of_within ranks plans pending (clock + typed.ranked.horizon) (λ i there.
        let was = was_begun plans trace pending i (standing plans typed.guards formed) pend there in
        let h = has_node plans i was.0 was.1 in
        reach_within ranks plans i was.0 (clock + typed.ranked.horizon) was.1 (λ has.
        let there' = in_deadlines plans h.plan was.0 (plan_among i.rule h.plan h.plan_is) h.inside has in
        let high = begun_high (time_now was.2) (last_position was.2) i.rule was.0 i was.6 has in
        let time = front_not_later last trace was.2 was.3 is_trace was.4 was.5 in
        let class = greatest_is (map (class_of ranks plans) (with_deadlines plans)) (class_of ranks plans was.0) (Contains-map (class_of ranks plans) (with_deadlines plans) was.0 there') in
        let window = window_within plans was.0 there' in
        below_reach (time_now was.2) (window_end was.0) (widest_window plans) (class_of ranks plans was.0)
        (greatest (map (class_of ranks plans) (with_deadlines plans)) + 1) i.high clock (clock + typed.ranked.horizon)
        high window (omega (arith, class)) (omega (arith, time, not_later)) (omega (arith, is_horizon))))

-- no window ends later than the widest interval after its begin
near_window : (trace : List Step) (rule : ℕ) (node : Plan) (i : Instance) → IsBegunBy trace rule node i → EndsInTime node
    → i.high ≤ time_now trace + MOST_INTERVAL_END
near_window trace rule (EventuallyPlan n place low high body) i (v, same) ends = omega (arith, ap (λ (j : Instance). j.high) same, ends.1)
near_window trace rule (AlwaysPlan n place low high body) i (v, same) ends = omega (arith, ap (λ (j : Instance). j.high) same, ends.1)
near_window trace rule (UntilPlan n place low high l r) i (v, same) ends = omega (arith, ap (λ (j : Instance). j.high) same, ends.1)
near_window trace rule (NextPlan n place high body) i (v, same) ends = omega (arith, ap (λ (j : Instance). j.high) same, ends)
near_window trace rule (CausePlan n place name terms) i begins ends = absurd begins
near_window trace rule (SuppressPlan n place name terms) i begins ends = absurd begins
near_window trace rule (Both n l r) i begins ends = absurd begins
near_window trace rule (Either n l r) i begins ends = absurd begins
near_window trace rule (TestOr n guard test body) i begins ends = absurd begins
near_window trace rule (Guarded n xs guard test body) i begins ends = absurd begins

pub highs_are_near : WellFormedStand → PendingWasBegun → LastIsAtTheEnd → HighsAreNear
highs_are_near standing was_begun last plans guards trace pending clock formed is_trace pend not_later early =
    All-from_recursion (λ (i : Instance). i.high ≤ most_time Inserted) pending
    (AllByRecursion-from_contains (λ (i : Instance). i.high ≤ most_time Inserted) pending (λ i there.
    let was = was_begun plans trace pending i (standing plans guards formed) pend there in
    let h = has_node plans i was.0 was.1 in
    let plan = AllByRecursion-contains (IsWellFormed guards) plans h.plan formed.each (there_from_get plans i.rule h.plan h.plan_is) in
    let near = near_window was.2 i.rule was.0 i was.6 (AllByRecursion-contains EndsInTime (nodes h.plan) was.0 plan.ends h.inside) in
    let time = front_not_later last trace was.2 was.3 is_trace was.4 was.5 in
    omega (arith, near, time, not_later, early)))

pub goes_over : NodesStandIn → ReachedIsInside → BegunIsNamed → BegunIsReached → MissingIsOne → NoneGoesOver
goes_over stand inside named begun one typed trace step before gone works goes over =
    none_goes_over stand inside named begun one typed works.formed trace step before gone goes over

pub reach_is_within_horizon : NodesStandIn → ReachedIsInside → BegunIsNamed → BegunIsReached → MissingIsOne
    → WellFormedStand → PendingWasBegun → LastIsAtTheEnd → ReachIsWithinHorizon
reach_is_within_horizon stand inside named begun one standing was_begun last typed trace pending clock works is_trace pend not_later =
    within_horizon stand inside named begun one typed works.formed standing was_begun last trace is_trace works.ranked.horizon pending clock pend not_later

pub windows_are_in_order : NodesStandIn → ReachedIsInside → BegunIsNamed → BegunIsReached → MissingIsOne → WellFormedStand
    → PendingWasBegun → WindowsAreInOrder
windows_are_in_order stand inside named begun one standing was_begun typed trace pending works pend =
    AllByRecursion-from_contains (λ (i : Instance). i.low ≤ i.high) pending
    (ordered_all stand inside named begun one typed works.formed standing was_begun trace pending pend)

-- ---- a step that serves the least deadline

-- what is known of it
pub record Served (typed : Typed) (trace : List Step) (pending after : List Instance) (deadline : ℕ) : Type 0 where
  pub now : time_now trace ≡ deadline
  pub quiet : (i : Instance) → Contains pending i → MissingOf typed.plans trace i (is_forced true (time_now trace) i) []
  pub owed : AreOwed typed.plans typed.ranked.ranks pending (time_now trace) (step_at trace (last_position trace)).events
  pub goes : PendingAfter typed.plans trace pending after
  pub ordered : (i : Instance) → Contains pending i → i.low ≤ i.high

module _ (stand : NodesStandIn) (inside : ReachedIsInside) (named : BegunIsNamed) (begun_reached : BegunIsReached)
    (missing_one : MissingIsOne) (rise : EdgesRise) (missed : MissedIsReached) (nothing : DecidedMissesNothing) where
  pub is_served : (typed : Typed) (trace : List Step) (pending after : List Instance) (deadline : ℕ) (actions : List Action)
      (events : List Event) → AreAccepted typed.plans → AreRanked typed.plans typed.ranked → WindowsAreOrdered pending
      → Decides typed.plans trace pending true deadline [] actions events
      → PendingAfter typed.plans (trace_with_step trace deadline events) pending after
      → Served typed (trace_with_step trace deadline events) pending after deadline
  is_served typed trace pending after deadline actions events accepted ranked ordered decided goes =
      let last = last_step trace (record { time = deadline; events = events }) in
      let now : time_now (trace_with_step trace deadline events) ≡ deadline = ap (λ (s : Step). s.time) last in
      let quiet = nothing typed.plans trace pending true deadline [] actions events decided in
      let owed : AreOwed typed.plans typed.ranked.ranks pending deadline events =
      decided_owed typed.plans typed.ranked.ranks accepted rise ranked.ranks inside missed pending deadline trace actions [] events decided
      (λ event none. absurd (none_in_nil event none)) in
      record {
        now = now;
        quiet = λ i there. AllByRecursion-contains (MissesNothing typed.plans true (trace_with_step trace deadline events)) (all_asked typed.plans pending) (Waiting i) quiet
            (Contains-append_left (map Waiting pending) (roots_from 0 typed.plans) (Waiting i) (Contains-map Waiting pending i there));
        owed = subst (λ (time : ℕ). AreOwed typed.plans typed.ranked.ranks pending time
            (step_at (trace_with_step trace deadline events)
            (last_position (trace_with_step trace deadline events))).events) (sym now)
            (subst (AreOwed typed.plans typed.ranked.ranks pending deadline) (sym (ap (λ (s : Step). s.events) last)) owed);
        goes = goes;
        ordered = λ i there. AllByRecursion-contains (λ (j : Instance). j.low ≤ j.high) pending i ordered there;
      }

  pub any_deadlines_fall : AnyDeadlinesFall
  any_deadlines_fall typed trace pending after deadline actions events works ordered least decided goes =
      let s = is_served typed trace pending after deadline actions events works.accepted works.ranked ordered decided goes in
      let over = subst (NoneIsOver typed.plans pending) (sym s.now) least.least in (
        over_from typed.plans (deadline + 1) after (λ j there due is.
            let l = served_later stand inside named begun_reached missing_one typed works.formed works.accepted rise
            works.ranked.ranks (trace_with_step trace deadline events) pending s.ordered s.quiet s.owed over
            works.later after s.goes j there due is in
            let now = s.now in
            omega (arith, l, now)),
        reach_of_within typed.ranked.ranks typed.plans after (reach_of typed.ranked.ranks typed.plans pending)
            (served_reach stand inside named begun_reached missing_one typed works.formed works.accepted rise
            works.ranked.ranks (trace_with_step trace deadline events) pending s.ordered s.quiet s.owed over
            after s.goes),
      )

-- what is pending after a trace is in such windows, and goes where the step leads it
pub served_deadlines_fall : AnyDeadlinesFall → WindowsAreInOrder → PendCame → PendIsOne → ServedDeadlinesFall
served_deadlines_fall falls windows came one typed trace pending after deadline o works pend least goes_out pend_after =
    let same : trace ++ o.step ∷ [] ≡ trace_with_step trace deadline o.step.events =
    ap (λ (time : ℕ). trace_with_step trace time o.step.events) goes_out.time_is in
    let from = came typed.plans trace o.step after pend_after in
    falls typed trace pending after deadline o.actions o.step.events works (windows typed trace pending works pend) least
    (subst (λ (l : List Instance). Decides typed.plans trace l true deadline [] o.actions o.step.events) (one typed.plans trace goes_out.pending pending goes_out.pend pend) goes_out.decided)
    (subst (λ (steps : List Step). PendingAfter typed.plans steps pending after) same
    (subst (λ (l : List Instance). PendingAfter typed.plans (trace ++ o.step ∷ []) l after) (one typed.plans trace from.0 pending from.1 pend) from.2))
