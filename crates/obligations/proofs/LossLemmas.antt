-- What is missed of something pending is lost, and what is pending is owed.
use Rattle.obligations.proofs.Vocabulary.{◌≡◌, ℕ, zero, suc, ◌+◌, ◌-◌, ◌<◌, ◌≤◌, Bool, true, false, List, [], ◌∷◌, ◌++◌, length, take, drop, Contains, Option, None, Some, inr, ⊎_elim, refl, sym, ap}
use Rattle.obligations.proofs.Vocabulary.{subst, ◌∙◌, arith, length-append, take-suc, cases_lt, false≢true, append-nil, get_or-append-add, get_or_append_left, length-take-le, take-append-drop}
use Rattle.obligations.proofs.Vocabulary.{take_all, All-weaker, same_Some, IsTrace, step_at, no_step, none_in_nil, IsIn, Valuation, Step, Sat, elapsed, Continuation, last_time, LastIsAtTheEnd, IsLost}
use Rattle.obligations.proofs.Vocabulary.{IsAhead, IsOwed, LostStaysLost, OwedLeadsOn, OwedStaysOwed, FoundIsFirst, window_end, has_deadline, formula_for, interval_from_to, Plan, CausePlan}
use Rattle.obligations.proofs.Vocabulary.{SuppressPlan, Both, Either, TestOr, Guarded, EventuallyPlan, AlwaysPlan, UntilPlan, NextPlan, StandsIn, IfElse, time_now, IsNeeded, Missing, last_position}
use Rattle.obligations.proofs.Vocabulary.{SomethingMissedIsLost, time_behind, AtNode, PendingAfter, HasDeadline, IsClean, MissesAt, NoneIsOver, PendsBehind, node_of, PlansStand, Instance, Literal}
use Rattle.obligations.proofs.PendingOwedLemmas.{IsFrom, IsHeld, IsHeldAs, goes_held, is_ahead, waits_more, window_still}
use Rattle.obligations.proofs.MissingLeafLemmas.{no_cons}
use Rattle.obligations.proofs.UniquenessLemmas.{pends_one}
use Rattle.obligations.proofs.InstanceLeadLemmas.{left_stands, lost_here, right_stands}
use Rattle.obligations.proofs.RowsLemmas.{rows_are_one}
use Rattle.obligations.proofs.TraceLemmas.{stands_found}

-- ---- the front of a trace

abbrev AreOrdered : List Step → Type 0
AreOrdered trace = (i j : ℕ) → i ≤ j → j < length trace → (step_at trace i).time ≤ (step_at trace j).time

pub front_ordered : (front more : List Step) → AreOrdered (front ++ more) → AreOrdered front
front_ordered front more ordered i j le below =
    let start = ap (λ (s : Step). s.time) (get_or_append_left front more no_step i (omega (arith, le, below))) in
    let end = ap (λ (s : Step). s.time) (get_or_append_left front more no_step j below) in
    omega (arith, start, end, ordered i j le (omega (arith, below, length-append front more)))

-- what is pending after a trace, which is owed where the trace is clean
abbrev pub IsPendingAs : List Plan → List Step → Instance → Plan → Type 0
IsPendingAs plans trace i node = IsHeldAs (IsClean plans trace) plans trace i node

-- ---- what continues a trace

module _ (longer : List Step) (i : Instance) (clock : ℕ) (further : List Step)
    (continued : Continuation longer clock further) where
  same_step : (k : ℕ) → k < length longer → step_at further k ≡ step_at longer k
  same_step k there =
      ap (λ (t : List Step). step_at t k) continued.begins ∙ get_or_append_left longer continued.more no_step k there

  same_time : (k : ℕ) → k < length longer → (step_at further k).time ≡ (step_at longer k).time
  same_time k there = ap (λ (s : Step). s.time) (same_step k there)

  long : length further ≡ length longer + length continued.more
  long = ap (λ (t : List Step). length t) continued.begins ∙ length-append longer continued.more

  -- after the step no time is below the clock
  not_before : (k : ℕ) → length longer ≤ k → k < length further → clock ≤ (step_at further k).time
  not_before k behind there =
      let at : step_at further (length longer + (k - length longer)) ≡ step_at continued.more (k - length longer) =
      ap (λ (t : List Step). step_at t (length longer + (k - length longer))) continued.begins ∙ get_or-append-add longer continued.more (k - length longer) no_step in
      let same : step_at further k ≡ step_at continued.more (k - length longer) =
      subst (λ (n : ℕ). step_at further n ≡ step_at continued.more (k - length longer)) {x = length longer + (k - length longer)} {y = k} (omega (arith, behind)) at in
      let late = continued.later (k - length longer) no_step (omega (arith, behind, there, long)) in
      subst (λ (s : Step). clock ≤ s.time) (sym same) late

  from_0 : Continuation longer 0 further
  from_0 = record {
    more = continued.more;
    begins = continued.begins;
    later = All-weaker (λ (s : Step). clock ≤ s.time) (λ s. 0 ≤ s.time) (λ s h. omega arith) continued.more continued.later;
    is_trace = continued.is_trace;
  }

  -- where a part was lost wherever it is asked up to the step, it holds after the step at best
  met_behind : (low high : ℕ) (part : Plan) (v : Valuation) (o : ℕ) → o < length longer
      → ((k : ℕ) → IsAhead longer low high o k → IsLost longer 0 part v k)
      → (j : ℕ) → o ≤ j → j < length further → IsIn (interval_from_to low high) (elapsed further o j)
      → Sat further j v (formula_for part) → length longer ≤ j
  met_behind low high part v o start so_far j le there distance holds =
      ⊎_elim
      (λ (l : j < length longer).
      let from = same_time o start in
      let to = same_time j l in
      let same : elapsed further o j ≡ elapsed longer o j = omega (arith, from, to) in
      absurd (so_far j (record { not_before = le; there = l; distance = subst (λ (d : ℕ). IsIn (interval_from_to low high) d) same distance }) further from_0 holds))
      (λ g. g)
      (cases_lt j (length longer))

  -- and not even there, where the clock is after the window
  met_never : (low high : ℕ) (part : Plan) → i.origin < length longer → IsFrom (step_at longer i.origin).time low high i
      → i.high < clock → ((k : ℕ) → IsAhead longer low high i.origin k → IsLost longer 0 part i.valuation k)
      → (j : ℕ) → i.origin ≤ j → j < length further → IsIn (interval_from_to low high) (elapsed further i.origin j)
      → Sat further j i.valuation (formula_for part) → ⊥
  met_never low high part start window late so_far j le there distance holds =
      let behind = met_behind low high part i.valuation i.origin start so_far j le there distance holds in
      let time = not_before j behind there in
      let from = same_time i.origin start in
      let upper = distance.1 in
      let upto = window.1 in
      omega (arith, time, from, upper, upto, late)

module _ (lost : SomethingMissedIsLost) (stay : LostStaysLost) (owed_on : OwedStaysOwed) (leads_on : OwedLeadsOn)
    (first : FoundIsFirst) (last : LastIsAtTheEnd) (plans : List Plan) (stand : PlansStand plans) where
  -- ---- along a trace

  module _ (trace : List Step) (ordered : AreOrdered trace) where
    in_time : IsClean plans trace → (n : ℕ) → n < length trace → (before : List Instance) → PendsBehind plans trace n before
        → NoneIsOver plans before (time_now (take (suc n) trace))
    in_time clean n there before pend =
        let c = clean n there in
        let same : c.0 ≡ before = pends_one rows_are_one plans trace n c.0 before c.1 pend in
        let count : length (take (suc n) trace) ≡ suc n = length-take-le (suc n) trace (omega (arith, there)) in
        let now : last_time (take (suc n) trace) ≡ time_now (take (suc n) trace) = last (take (suc n) trace) (last_position (take (suc n) trace)) (omega (arith, count)) in
        subst (λ (t : ℕ). NoneIsOver plans before t) now
        (subst (λ (l : List Instance). NoneIsOver plans l (last_time (take (suc n) trace))) same c.2.in_time)

    held_behind : (n : ℕ) → n ≤ length trace → (pending : List Instance) → PendsBehind plans trace n pending
        → (i : Instance) → Contains pending i → IsHeld (IsClean plans trace) plans (take n trace) i
    held_behind zero le pending none i there =
        absurd (none_in_nil i (subst (λ (l : List Instance). Contains l i) none there))
    held_behind (suc n) le pending (before, pend, goes) i there =
        let splits : take (suc n) trace ≡ take n trace ++ step_at trace n ∷ [] = take-suc trace n no_step (omega (arith, le)) in
        let front : AreOrdered (take (suc n) trace) = front_ordered (take (suc n) trace) (drop (suc n) trace) (subst AreOrdered (sym (take-append-drop (suc n) trace)) ordered) in
        subst (λ (t : List Step). IsHeld (IsClean plans trace) plans t i) (sym splits)
        (goes_held lost stay owed_on leads_on first plans stand (take n trace) (step_at trace n) (subst AreOrdered splits front)
        before pending (λ j there'. held_behind n (omega (arith, le)) before pend j there')
        (λ clean. subst (λ (t : List Step). NoneIsOver plans before (time_now t)) splits (in_time clean n (omega (arith, le)) before pend))
        (subst (λ (t : List Step). PendingAfter plans t before pending) splits goes) i there)

    pub held : (pending : List Instance) (i : Instance) (node : Plan) → PendsBehind plans trace (length trace) pending → Contains pending i
        → node_of plans i ≡ Some node → IsPendingAs plans trace i node
    held pending i node pend there named =
        let h : IsHeld (IsClean plans trace) plans trace i = subst (λ (t : List Step). IsHeld (IsClean plans trace) plans t i) (take_all (length trace) trace (omega arith)) (held_behind (length trace) (omega arith) pending pend i there) in
        subst (IsPendingAs plans trace i) (same_Some h.0 node (sym h.1.named ∙ named)) h.1

  pub pending_is_owed : (trace : List Step) (clock : ℕ) (pending : List Instance) (i : Instance) (node : Plan) → IsTrace trace
      → IsClean plans trace → PendsBehind plans trace (length trace) pending → Contains pending i
      → node_of plans i ≡ Some node → IsOwed plans trace clock i.rule node i.valuation i.origin
  pending_is_owed trace clock pending i node is_trace clean pend there named =
      let h = held trace is_trace.ordered pending i node pend there named in
      subst (λ (t : List Step). IsOwed plans t clock i.rule node i.valuation i.origin) (append-nil trace)
      (owed_on plans trace [] 0 clock i.rule node i.valuation i.origin (λ root at. (stand i.rule root at).back)
      (λ k d below. absurd (omega (arith, below))) (omega arith) (h.owed clean))

  pub pending_is_earlier : (trace : List Step) (pending : List Instance) (i : Instance) (node : Plan) → IsTrace trace
      → PendsBehind plans trace (length trace) pending → Contains pending i → node_of plans i ≡ Some node
      → i.origin < length trace
  pending_is_earlier trace pending i node is_trace pend there named =
      (held trace is_trace.ordered pending i node pend there named).begun

  -- ---- after a deadline

  lost_over : (trace : List Step) (i : Instance) (node : Plan) → IsPendingAs plans trace i node → has_deadline node ≡ true
      → IsLost trace (i.high + 1) node i.valuation i.origin
  lost_over trace i (EventuallyPlan node place low high body) h is further continued holds =
      holds (λ met. met_never trace i (i.high + 1) further continued low high body h.begun h.window (omega arith) h.waited met.0 met.1 met.2 met.3 met.4)
  lost_over trace i (UntilPlan node place low high left right) h is further continued holds =
      holds (λ met. met_never trace i (i.high + 1) further continued low high right h.begun h.window (omega arith) h.waited met.0 met.1 met.2 met.3 met.4)
  lost_over trace i (NextPlan node place high body) h is further continued holds =
      let next : i.origin + 1 ≡ length trace = h.waited in
      let there = holds.0 in
      let time = not_before trace i (i.high + 1) further continued (i.origin + 1) (omega (arith, next)) there in
      let from = same_time trace i (i.high + 1) further continued i.origin h.begun in
      let upper = holds.1.1 in
      let upto = h.window.1 in
      omega (arith, time, from, upper, upto)
  lost_over trace i (AlwaysPlan node place low high body) h is further continued holds = false≢true is
  lost_over trace i (CausePlan node place name terms) h is further continued holds = false≢true is
  lost_over trace i (SuppressPlan node place name terms) h is further continued holds = false≢true is
  lost_over trace i (Both node left right) h is further continued holds = false≢true is
  lost_over trace i (Either node left right) h is further continued holds = false≢true is
  lost_over trace i (TestOr node guard test body) h is further continued holds = false≢true is
  lost_over trace i (Guarded node xs guard test body) h is further continued holds = false≢true is

  ends_over : (trace : List Step) (i : Instance) (node : Plan) → IsPendingAs plans trace i node → has_deadline node ≡ true
      → (step_at trace i.origin).time + window_end node ≡ i.high
  ends_over trace i (EventuallyPlan node place low high body) h is = sym h.window.1
  ends_over trace i (UntilPlan node place low high left right) h is = sym h.window.1
  ends_over trace i (NextPlan node place high body) h is = sym h.window.1
  ends_over trace i (AlwaysPlan node place low high body) h is = absurd (false≢true is)
  ends_over trace i (CausePlan node place name terms) h is = absurd (false≢true is)
  ends_over trace i (SuppressPlan node place name terms) h is = absurd (false≢true is)
  ends_over trace i (Both node left right) h is = absurd (false≢true is)
  ends_over trace i (Either node left right) h is = absurd (false≢true is)
  ends_over trace i (TestOr node guard test body) h is = absurd (false≢true is)
  ends_over trace i (Guarded node xs guard test body) h is = absurd (false≢true is)

  -- the step that is inserted at a deadline is needed
  pub deadline_is_needed : (trace : List Step) (pending : List Instance) (i : Instance) (deadline : ℕ) → IsTrace trace
      → IsClean plans trace → PendsBehind plans trace (length trace) pending → Contains pending i
      → HasDeadline plans i deadline → IsNeeded plans trace deadline
  deadline_is_needed trace pending i deadline is_trace clean pend there has = by (node_of plans i) refl has
    where
      by : (at : Option Plan) → node_of plans i ≡ at → AtNode at (λ n. (has_deadline n ≡ true) × (i.high ≡ deadline)) → IsNeeded plans trace deadline
      by None at none = absurd none
      by (Some node) at is =
          let h = held trace is_trace.ordered pending i node pend there at in record {
            rule = i.rule;
            node = node;
            valuation = i.valuation;
            origin = i.origin;
            deadline = is.0;
            is_now = ends_over trace i node h is.0 ∙ is.1;
            owed = pending_is_owed trace (deadline + 1) pending i node is_trace clean pend there at;
            lost = subst (λ (d : ℕ). IsLost trace (d + 1) node i.valuation i.origin) is.1 (lost_over trace i node h is.0);
          }

  -- ---- one step more

  module _ (trace : List Step) (step : Step) (ordered : AreOrdered (trace ++ step ∷ [])) (i : Instance) where
    abbrev longer : List Step
    longer = trace ++ step ∷ []

    abbrev now : ℕ
    now = last_position longer

    count : length longer ≡ length trace + 1
    count = length-append trace (step ∷ [])

    some : 0 < length longer
    some = omega (arith, count)

    lost_at : (node : Plan) → IsPendingAs plans trace i node → StandsIn plans i.rule node → (forced : Bool)
        → (forced ≡ true → step.time ≡ i.high) → (l : Literal) (ls : List Literal) → MissesAt longer node i forced (l ∷ ls)
        → IsLost longer (time_behind forced step.time) node i.valuation i.origin
    lost_at (CausePlan node place name terms) h stands forced due l ls misses further continued holds = absurd misses
    lost_at (SuppressPlan node place name terms) h stands forced due l ls misses further continued holds = absurd misses
    lost_at (Both node left right) h stands forced due l ls misses further continued holds = absurd misses
    lost_at (Either node left right) h stands forced due l ls misses further continued holds = absurd misses
    lost_at (TestOr node guard test body) h stands forced due l ls misses further continued holds = absurd misses
    lost_at (Guarded node xs guard test body) h stands forced due l ls misses further continued holds = absurd misses
    lost_at (EventuallyPlan node place low high body) h stands false due l ls misses further continued holds = absurd (no_cons l ls misses)
    lost_at (EventuallyPlan node place low high body) h stands true due l ls misses further continued holds =
        let before = h.begun in
        let window = window_still lost stay owed_on leads_on first plans stand trace step ordered i (EventuallyPlan node place low high body) h in
        let so_far = waits_more lost stay owed_on leads_on first plans stand trace step ordered low high body stands.back.1 i window (λ _. (l, ls, misses)) h.waited in
        let time = due refl in
        holds (λ met. met_never longer i (step.time + 1) further continued low high body (omega (arith, before, count)) window (omega (arith, time)) so_far
        met.0 met.1 met.2 met.3 met.4)
    lost_at (NextPlan node place high body) h stands forced due l ls misses further continued holds =
        let next : i.origin + 1 ≡ now = h.waited ∙ omega (arith, count) in
        lost_here lost plans 0 longer some body stands.back.1 i.valuation (time_behind forced step.time) (l, ls, misses) further continued
        (subst (λ (k : ℕ). Sat further k i.valuation (formula_for body)) next holds.2)
    lost_at (AlwaysPlan node place low high body) h stands forced due l ls misses further continued holds =
        let before = h.begun in
        let window = window_still lost stay owed_on leads_on first plans stand trace step ordered i (AlwaysPlan node place low high body) h in
        ⊎_elim
        (λ in_window.
        let ahead = is_ahead lost stay owed_on leads_on first plans stand trace step ordered low high i window (omega (arith, before, count)) (inr in_window.0.0) in_window.0.1 in
        let from = same_time longer i (time_behind forced step.time) further continued i.origin (omega (arith, before, count)) in
        let to = same_time longer i (time_behind forced step.time) further continued now (omega (arith, some)) in
        let same : elapsed longer i.origin now ≡ elapsed further i.origin now = omega (arith, from, to) in
        holds (λ none. none (
          now,
          omega (arith, before, count),
          omega (arith, some, long longer i (time_behind forced step.time) further continued),
          subst (λ (d : ℕ). IsIn (interval_from_to low high) d) same ahead.distance,
          (λ body_holds. lost_here lost plans 0 longer some body stands.back.1 i.valuation (time_behind forced step.time) (l, ls, in_window.1) further continued body_holds),
          (λ k from' before'. tt),
        )))
        (λ out. no_cons l ls out.1)
        misses
    lost_at (UntilPlan node place low high left right) h stands forced due l ls misses further continued holds =
        let before = h.begun in
        let window = window_still lost stay owed_on leads_on first plans stand trace step ordered i (UntilPlan node place low high left right) h in
        let on_right = right_stands plans i.rule left right stands.back.1 stands.named.1 in
        let on_left = left_stands plans i.rule left right stands.back.1 stands.named.1 in
        ⊎_elim
        (λ nothing. no_cons l ls nothing.2)
        (λ lacks.
        let so_far = waits_more lost stay owed_on leads_on first plans stand trace step ordered low high right on_right.back i window lacks.0 h.waited in
        holds (λ met. by forced due lacks.1 further continued so_far (omega (arith, before, count)) window on_left met.0 met.1 met.2 met.3 met.4 met.5))
        misses
      where
        by : (forced : Bool) → (forced ≡ true → step.time ≡ i.high)
            → IfElse forced (Missing longer right i.valuation (l ∷ ls)) (Missing longer left i.valuation (l ∷ ls))
            → (further : List Step) → Continuation longer (time_behind forced step.time) further
            → ((k : ℕ) → IsAhead longer low high i.origin k → IsLost longer 0 right i.valuation k)
            → i.origin < length longer → IsFrom (step_at longer i.origin).time low high i → StandsIn plans i.rule left
            → (j : ℕ) → i.origin ≤ j → j < length further → IsIn (interval_from_to low high) (elapsed further i.origin j)
            → Sat further j i.valuation (formula_for right)
            → ((k : ℕ) → i.origin ≤ k → k < j → Sat further k i.valuation (formula_for left)) → ⊥
        by true due' missing further' continued' so_far start window on_left j le there distance holds' each =
            let time = due' refl in
            met_never longer i (step.time + 1) further' continued' low high right start window (omega (arith, time)) so_far j le there distance holds'
        by false due' missing further' continued' so_far start window on_left j le there distance holds' each =
            let behind = met_behind longer i step.time further' continued' low high right i.valuation i.origin start so_far j le there distance holds' in
            lost_here lost plans 0 longer some left on_left.back i.valuation step.time (l, ls, missing) further' continued'
            (each now (omega (arith, start)) (omega (arith, behind, some)))

  pub missed_is_lost : (trace : List Step) (step : Step) (pending : List Instance) (i : Instance) (node : Plan) (forced : Bool)
      (l : Literal) (ls : List Literal) → IsTrace (trace ++ step ∷ []) → PendsBehind plans trace (length trace) pending
      → Contains pending i → node_of plans i ≡ Some node → (forced ≡ true → step.time ≡ i.high)
      → AtNode (node_of plans i) (λ n. MissesAt (trace ++ step ∷ []) n i forced (l ∷ ls))
      → IsLost (trace ++ step ∷ []) (time_behind forced step.time) node i.valuation i.origin
  missed_is_lost trace step pending i node forced l ls is_trace pend there named due misses =
      lost_at trace step is_trace.ordered i node
      (held trace (front_ordered trace (step ∷ []) is_trace.ordered) pending i node pend there named)
      (stands_found first plans stand i node named) forced due l ls
      (subst (λ (n : Option Plan). AtNode n (λ m. MissesAt (trace ++ step ∷ []) m i forced (l ∷ ls))) named misses)
