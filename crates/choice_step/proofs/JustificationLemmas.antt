-- Each action that is decided is justified.
use Rattle.choice_step.proofs.Vocabulary.{◌≡◌, ◌⊎◌, ◌==◌, ℕ, suc, ◌+◌, ◌<◌, ◌≤◌, Bool, true, false, List, [], ◌∷◌, ◌++◌, length, map, All, Contains, Some, IsTrue, inl, inr, ⊎_elim, refl, sym, ap}
use Rattle.choice_step.proofs.Vocabulary.{subst, ◌∙◌, arith, length-append, slice_get, AllByRecursion, eqb-true, false≢true, IsTrace, AllByRecursion-contains, here, later, there_from_get}
use Rattle.choice_step.proofs.Vocabulary.{HasNoRepeats, no_values, Event, Step, Sat, last_time, TraceGrows, StepKind, System, Inserted, EndsInTime, IsWellFormed, IsLost, LostStaysLost, OwedStaysOwed}
use Rattle.choice_step.proofs.Vocabulary.{is_future, nodes, node_number, node_in, formula_for, Plan, CausePlan, SuppressPlan, Both, Either, TestOr, Guarded, EventuallyPlan, AlwaysPlan, UntilPlan}
use Rattle.choice_step.proofs.Vocabulary.{NextPlan, IsNodeByNumber, first_node, time_now, IsJustified, floor, Missing, last_position, SomethingMissedIsLost, DeadlineIsNeeded, MissedIsServed}
use Rattle.choice_step.proofs.Vocabulary.{MissedIsServedPending, PendingIsEarlier, PendingIsOwed, SomethingMissedIsLostPending, time_behind, PendCanBeAsked, WellFormedCanBeAsked, WellFormedStand}
use Rattle.choice_step.proofs.Vocabulary.{IsClean, MissingOf, NoneIsOver, Pend, node_of, PendIsOne, PlansStand, CanAskOf, Action, Instance, Literal, LiteralKind, Past, Applies, AreJustified}
use Rattle.choice_step.proofs.Vocabulary.{is_inserted, Candidate, Decides, IsFirstMissing, Root, Waiting, action_for, all_asked, is_forced, roots_from, trace_with_step, WillDecide}
use Rattle.choice_step.proofs.Vocabulary.{DecidedAreJustified, LeastDeadlineIsNeeded, WillBeJustified}
use Rattle.std.proofs.lemmas.List.{append-nil}
use Rattle.choice_step.proofs.UniquenessLemmas.{first_leaves_distinct, last_step}
use Rattle.choice_step.proofs.LoopLemmas.{event_is, kind_is}

-- ---- who is first

-- a pending instance misses the literal first
pub record MissesWaiting (plans : List Plan) (inserted : Bool) (trace : List Step) (pending : List Instance)
    (asked : Candidate) (literal : Literal) : Type 0 where
  pub i : Instance
  pub there : Contains pending i
  pub is : Waiting i ≡ asked
  pub rest : List Literal
  pub misses : MissingOf plans trace i (is_forced inserted (time_now trace) i) (literal ∷ rest)

-- or the root of a rule does
pub record MissesRoot (trace : List Step) (from : ℕ) (plans : List Plan) (asked : Candidate) (literal : Literal) : Type 0 where
  pub rule : ℕ
  pub plan : Plan
  pub of_rule : slice_get plans rule ≡ Some plan
  pub is : Root (from + rule) plan ≡ asked
  pub rest : List Literal
  pub misses : Missing trace plan no_values (literal ∷ rest)

first_root : (all plans : List Plan) (inserted : Bool) (trace : List Step) (from : ℕ) (asked : Candidate) (literal : Literal)
    → IsFirstMissing all inserted trace (roots_from from plans) asked literal → MissesRoot trace from plans asked literal
first_root all [] inserted trace from asked literal first = absurd first
first_root all (plan ∷ plans) inserted trace from asked literal first =
    ⊎_elim
    (λ now. record {
      rule = 0;
      plan = plan;
      of_rule = refl;
      is = subst (λ (r : ℕ). Root r plan ≡ asked) {x = from} {y = from + 0} (omega arith) now.0;
      rest = now.1;
      misses = now.2;
    })
    (λ later'. let o = first_root all plans inserted trace (suc from) asked literal later'.1 in record {
      rule = suc o.rule;
      plan = o.plan;
      of_rule = o.of_rule;
      is = subst (λ (r : ℕ). Root r o.plan ≡ asked) {x = suc from + o.rule} {y = from + suc o.rule} (omega arith) o.is;
      rest = o.rest;
      misses = o.misses;
    })
    first

pub first_of : (plans : List Plan) (pending : List Instance) (inserted : Bool) (trace : List Step) (asked : Candidate) (literal : Literal)
    → IsFirstMissing plans inserted trace (map Waiting pending ++ roots_from 0 plans) asked literal
    → MissesWaiting plans inserted trace pending asked literal ⊎ MissesRoot trace 0 plans asked literal
first_of plans [] inserted trace asked literal first = inr (first_root plans plans inserted trace 0 asked literal first)
first_of plans (i ∷ pending) inserted trace asked literal first =
    ⊎_elim
    (λ now. inl (record { i = i; there = here i pending; is = now.0; rest = now.1; misses = now.2 }))
    (λ later'. ⊎_elim
    (λ o. inl (record { i = o.i; there = later o.i i pending o.there; is = o.is; rest = o.rest; misses = o.misses }))
    (λ o. inr o)
    (first_of plans pending inserted trace asked literal later'.1))
    first

-- ---- the first of the nodes of a plan

named_first : (plan : Plan) (P : Plan → Type 0) → AllByRecursion P (nodes plan) → P plan
named_first (CausePlan node place name terms) P all = all.0
named_first (SuppressPlan node place name terms) P all = all.0
named_first (Both node left right) P all = all.0
named_first (Either node left right) P all = all.0
named_first (TestOr node guard test body) P all = all.0
named_first (Guarded node xs guard test body) P all = all.0
named_first (EventuallyPlan node place low high body) P all = all.0
named_first (AlwaysPlan node place low high body) P all = all.0
named_first (UntilPlan node place low high left right) P all = all.0
named_first (NextPlan node place high body) P all = all.0

-- ---- the clock

forced_is : (inserted : Bool) (time : ℕ) (i : Instance) → is_forced inserted time i ≡ true → time ≡ i.high
forced_is true time i is = eqb-true time i.high is
forced_is false time i is = absurd (false≢true is)

behind_floor : (kind : StepKind) (time : ℕ) (i : Instance) → time_behind (is_forced (is_inserted kind) time i) time ≤ floor kind time
behind_floor System time i = omega arith
behind_floor Inserted time i = by (time == i.high)
  where
    by : (forced : Bool) → time_behind forced time ≤ time + 1
    by true = omega arith
    by false = omega arith

module _ (lost : SomethingMissedIsLost) (lost_pending : SomethingMissedIsLostPending) (stay : LostStaysLost)
    (owed : PendingIsOwed) (owed_on : OwedStaysOwed) (earlier : PendingIsEarlier) (served : MissedIsServed)
    (served_pending : MissedIsServedPending) (plans : List Plan) (stand : PlansStand plans) (trace : List Step)
    (pending : List Instance) (clean : IsClean plans trace) (pend : Pend plans trace pending) where
  -- of a node of an instance, that it looks ahead and that its interval does not fall
  abbrev CanBe : Instance → Type 0
  CanBe i = (node : Plan) × (node_of plans i ≡ Some node) × IsTrue (is_future node) × EndsInTime node

  module _ (kind : StepKind) (time : ℕ) (before : List Event) (is_trace : IsTrace (trace_with_step trace time before)) where
    abbrev step : Step
    step = record { time = time; events = before }

    abbrev longer : List Step
    longer = trace_with_step trace time before

    count : length longer ≡ length trace + 1
    count = length-append trace (step ∷ [])

    time_is : time_now longer ≡ time
    time_is = ap (λ (s : Step). s.time) (last_step trace step)

    position_is : last_position longer ≡ length trace
    position_is = omega (arith, count)

    given : All (λ (s : Step). 0 ≤ s.time) (step ∷ [])
    given = λ k d below. omega arith

    -- what is lost from a clock on is lost from the floor on
    lost_from : (node : Plan) (i : Instance) (clock : ℕ) → clock ≤ floor kind time → IsLost longer clock node i.valuation i.origin
        → IsLost longer (floor kind time) node i.valuation i.origin
    lost_from node i clock le is =
        subst (λ (t : List Step). IsLost t (floor kind time) node i.valuation i.origin) (append-nil longer)
        (stay longer [] clock (floor kind time) node i.valuation i.origin (λ k d below. absurd (omega (arith, below))) le is)

    front : IsTrace trace → NoneIsOver plans pending time → (i : Instance) → Contains pending i → CanBe i → (literal : Literal) (rest : List Literal)
        → MissingOf plans longer i (is_forced (is_inserted kind) (time_now longer) i) (literal ∷ rest)
        → IsJustified plans trace kind step (action_for longer (Waiting i) literal)
    front is_front in_time i there (node, named, ahead, ends) literal rest misses =
        let forced : Bool = is_forced (is_inserted kind) time i in
        let misses' : MissingOf plans longer i (is_forced (is_inserted kind) time i) (literal ∷ rest) =
        subst (λ (t : ℕ). MissingOf plans longer i (is_forced (is_inserted kind) t i) (literal ∷ rest)) time_is misses in
        let due : is_forced (is_inserted kind) time i ≡ true → time ≡ i.high = forced_is (is_inserted kind) time i in record {
          time = time_is;
          position = position_is;
          node = node;
          named = named;
          begun = inr (ahead, earlier plans trace pending i node stand is_front pend there named);
          owed = owed_on plans trace (step ∷ []) 0 (floor kind time) i.rule node i.valuation i.origin
              (λ root at. (stand i.rule root at).back) given (omega arith)
              (owed plans trace 0 pending i node stand is_front clean pend there named);
          lost = lost_from node i (time_behind (is_forced (is_inserted kind) time i) time) (behind_floor kind time i)
              (lost_pending plans trace step pending i node (is_forced (is_inserted kind) time i) literal rest stand is_trace pend there named due misses');
          serves = served_pending plans trace step (floor kind time) pending i node (is_forced (is_inserted kind) time i) (literal ∷ rest) literal
              stand is_trace pend in_time there named ends due misses' (here literal rest);
        }

    back : (rule : ℕ) (plan : Plan) → slice_get plans rule ≡ Some plan → node_number plan ≡ 0 → (literal : Literal) (rest : List Literal)
        → Missing longer plan no_values (literal ∷ rest)
        → IsJustified plans trace kind step (action_for longer (Root rule plan) literal)
    back rule plan at number literal rest misses =
        let stands = stand rule plan at in
        let some : 0 < length longer = omega (arith, count) in record {
          time = time_is;
          position = position_is;
          node = plan;
          named = subst (λ (n : ℕ). node_in plans rule n ≡ Some plan) number (named_first plan (IsNodeByNumber plans rule) stands.named);
          begun = inl (refl, position_is, refl);
          owed = record { root = plan; of_rule = at; begun = last_position longer; there = omega (arith, count); moves = []; leads = refl };
          lost = λ further continued holds.
              lost plan longer continued.more no_values literal rest stands.back some misses
              (subst (λ (t : List Step). Sat t (last_position longer) no_values (formula_for plan)) continued.begins holds);
          serves = served plans rule longer (floor kind time) plan no_values (literal ∷ rest) literal stands some misses (here literal rest);
        }

    -- each that is asked, where it is the first that misses something
    asked_is : IsTrace trace → NoneIsOver plans pending time → ((i : Instance) → Contains pending i → CanBe i)
        → ((rule : ℕ) (plan : Plan) → slice_get plans rule ≡ Some plan → node_number plan ≡ 0)
        → (asked : Candidate) (literal : Literal)
        → IsFirstMissing plans (is_inserted kind) longer (all_asked plans pending) asked literal
        → IsJustified plans trace kind step (action_for longer asked literal)
    asked_is is_front in_time can numbered asked literal first =
        ⊎_elim
        (λ w. subst (λ (a : Candidate). IsJustified plans trace kind step (action_for longer a literal)) w.is
        (front is_front in_time w.i w.there (can w.i w.there) literal w.rest w.misses))
        (λ r. subst (λ (a : Candidate). IsJustified plans trace kind step (action_for longer a literal))
        (subst (λ (n : ℕ). Root n r.plan ≡ asked) {x = 0 + r.rule} {y = r.rule} (omega arith) r.is)
        (back r.rule r.plan r.of_rule (numbered r.rule r.plan r.of_rule) literal r.rest r.misses))
        (first_of plans pending (is_inserted kind) longer asked literal first)

  pub decided : TraceGrows → (kind : StepKind) (time : ℕ) → IsTrace trace → last_time trace ≤ time
      → NoneIsOver plans pending time → ((i : Instance) → Contains pending i → CanBe i)
      → ((rule : ℕ) (plan : Plan) → slice_get plans rule ≡ Some plan → node_number plan ≡ 0)
      → (before : List Event) (actions : List Action) (after : List Event) → HasNoRepeats before
      → Decides plans trace pending (is_inserted kind) time before actions after
      → AreJustified plans trace kind time before actions
  decided grows kind time is_front not_later in_time can numbered before [] after distinct decides = tt
  decided grows kind time is_front not_later in_time can numbered before (action ∷ actions) after distinct (asked, literal, between, is, acts, applies, more) =
      let is_trace : IsTrace (trace_with_step trace time before) = grows trace (record { time = time; events = before }) is_front not_later distinct in
      let kind_same : literal.kind ≡ action.kind =
      sym (kind_is (time_now (trace_with_step trace time before)) (last_position (trace_with_step trace time before)) asked literal) ∙ ap (λ (a : Action). a.kind) (sym acts) in
      let event_same : literal.event ≡ action.event =
      sym (event_is (time_now (trace_with_step trace time before)) (last_position (trace_with_step trace time before)) asked literal) ∙ ap (λ (a : Action). a.event) (sym acts) in (
        subst (λ (a : Action). IsJustified plans trace kind (record { time = time; events = before }) a) (sym acts)
            (asked_is kind time before is_trace is_front in_time can numbered asked literal is),
        (
          between,
          subst (λ (e : Event). Applies action.kind e before between) event_same
              (subst (λ (k : LiteralKind). Applies k literal.event before between) kind_same applies),
          decided grows kind time is_front not_later in_time can numbered between actions after
              (first_leaves_distinct plans trace pending (is_inserted kind) time before between asked literal distinct is applies) more,
        ),
      )

-- ---- laws

pub decided_are_justified : TraceGrows → SomethingMissedIsLost → SomethingMissedIsLostPending → LostStaysLost → PendingIsOwed
    → OwedStaysOwed → PendingIsEarlier → MissedIsServed → MissedIsServedPending → WellFormedStand → WellFormedCanBeAsked
    → PendCanBeAsked → PendIsOne → DecidedAreJustified
decided_are_justified grows lost lost_pending stay owed owed_on earlier served served_pending stand_of ask pend_asked
    one guards plans trace kind time pending before actions after formed is_trace ready pend distinct decides =
    let stand = stand_of plans guards formed in
    let can : AllByRecursion (CanAskOf guards plans) pending = pend_asked guards plans trace pending stand (ask plans guards formed) pend in
    let same : ready.pending ≡ pending = one plans trace ready.pending pending ready.pend pend in
    decided lost lost_pending stay owed owed_on earlier served served_pending plans stand trace pending ready.clean pend grows kind time is_trace ready.not_later
    (subst (λ (l : List Instance). NoneIsOver plans l time) same ready.in_time)
    (λ i there. let c = AllByRecursion-contains (CanAskOf guards plans) pending i can there in (c.node, c.found, c.future, named_first c.node EndsInTime c.ends))
    (λ rule plan at. (AllByRecursion-contains (IsWellFormed guards) plans plan formed.each (there_from_get plans rule plan at)).numbered 0 plan (first_node plan))
    before actions after distinct decides

pub will_be_justified : DecidedAreJustified → (plans : List Plan) (pending : List Instance) (past : Past) (inserted : Bool) (time position : ℕ)
    (before : List Event) (actions : List Action) (after : List Event) → HasNoRepeats before
    → WillDecide plans pending past inserted time position before actions after
    → WillBeJustified plans pending past inserted time position before actions
will_be_justified justified plans pending past inserted time position before actions after distinct will guards trace kind formed is_trace stands count ready pend same =
    justified guards plans trace kind time pending before actions after formed is_trace ready pend distinct
    (subst (λ (b : Bool). Decides plans trace pending b time before actions after) (sym same) (will trace stands count ready.not_later))

pub least_deadline_is_needed : DeadlineIsNeeded → WellFormedStand → LeastDeadlineIsNeeded
least_deadline_is_needed needed stand_of guards plans trace time pending formed is_trace ready pend least =
    needed plans trace pending least.instance time (stand_of plans guards formed) is_trace ready.clean pend least.there least.is
