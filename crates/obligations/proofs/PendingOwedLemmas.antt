-- What is pending is owed, and waits for what is lost so far: by induction along a trace.
use Rattle.obligations.proofs.Vocabulary.{◌≡◌, ◌⊎◌, ℕ, ◌+◌, ◌<◌, ◌≤◌, true, List, [], ◌∷◌, ◌++◌, length, All, Contains, Option, Some, inl, inr, ⊎_elim, refl, sym, ap, subst, ◌∙◌, arith, length-append}
use Rattle.obligations.proofs.Vocabulary.{AllByRecursion, cases_lt, get_or_append_left, step_at, no_step, Contains-append, first_or_later, none_in_nil, IsIn, Valuation, no_values, Step, elapsed}
use Rattle.obligations.proofs.Vocabulary.{GuardLooksBack, IsLost, IsAhead, IsOwed, LeadsTo, WasLost, obligation, LostStaysLost, OwedLeadsOn, OwedStaysOwed, FoundIsFirst, has_deadline, nodes}
use Rattle.obligations.proofs.Vocabulary.{node_number, node_in, interval_from_to, Plan, CausePlan, SuppressPlan, Both, Either, TestOr, Guarded, EventuallyPlan, AlwaysPlan, UntilPlan, NextPlan}
use Rattle.obligations.proofs.Vocabulary.{StandsIn, Begun, LacksSome, WithBehind, time_now, last_position, SomethingMissedIsLost, After, AtNode, BecomesAt, PendingAfter, HasDeadline, IsInWindow}
use Rattle.obligations.proofs.Vocabulary.{IsNowIn, NoneIsOver, node_of, IsBegunBy, PlansStand, Instance}
use Rattle.std.proofs.Common.{slice_get}
use Rattle.obligations.proofs.GatheredLists.{BegunByRoots-contains, Gathers-contains}
use Rattle.obligations.proofs.SoundnessLemmas.{all_right}
use Rattle.obligations.proofs.InstanceLeadLemmas.{IsLed, WaitsNow, begun_is_led, left_stands, lost_here, right_stands}
use Rattle.obligations.proofs.TraceLemmas.{stands_found}

-- the window of an instance of the node that was begun at a time
abbrev pub IsFrom : (start low high : ℕ) → Instance → Type 0
IsFrom start low high i = (i.low ≡ start + low) × (i.high ≡ start + high)

abbrev pub HasWindow : (start : ℕ) → Plan → Instance → Type 0
HasWindow start (EventuallyPlan node place low high body) i = IsFrom start low high i
HasWindow start (AlwaysPlan node place low high body) i = IsFrom start low high i
HasWindow start (UntilPlan node place low high left right) i = IsFrom start low high i
HasWindow start (NextPlan node place high body) i = IsFrom start 0 high i
HasWindow start plan i = ⊥

-- what it waits for is lost at each position of its window so far; a next was begun at the last position
abbrev pub HasWaited : List Step → Plan → Instance → Type 0
HasWaited trace (EventuallyPlan node place low high body) i =
    (k : ℕ) → IsAhead trace low high i.origin k → IsLost trace 0 body i.valuation k
HasWaited trace (UntilPlan node place low high left right) i =
    (k : ℕ) → IsAhead trace low high i.origin k → IsLost trace 0 right i.valuation k
HasWaited trace (NextPlan node place high body) i = i.origin + 1 ≡ length trace
HasWaited trace plan i = Unit {0}

-- what is pending; it is owed where some condition holds
pub record IsHeldAs (Condition : Type 0) (plans : List Plan) (trace : List Step) (i : Instance) (node : Plan)
    : Type 0 where
  pub named : node_of plans i ≡ Some node
  pub begun : i.origin < length trace
  pub window : HasWindow (step_at trace i.origin).time node i
  pub owed : Condition → IsOwed plans trace 0 i.rule node i.valuation i.origin
  pub waited : HasWaited trace node i

abbrev pub IsHeld : Type 0 → List Plan → List Step → Instance → Type 0
IsHeld Condition plans trace i = (node : Plan) × IsHeldAs Condition plans trace i node

module _ (lost : SomethingMissedIsLost) (stay : LostStaysLost) (owed_on : OwedStaysOwed) (leads_on : OwedLeadsOn)
    (first : FoundIsFirst) (plans : List Plan) (stand : PlansStand plans) (trace : List Step) (step : Step)
    (ordered : (i j : ℕ) → i ≤ j → j < length (trace ++ step ∷ [])
    → (step_at (trace ++ step ∷ []) i).time ≤ (step_at (trace ++ step ∷ []) j).time) where
  abbrev longer : List Step
  longer = trace ++ step ∷ []

  count : length longer ≡ length trace + 1
  count = length-append trace (step ∷ [])

  some : 0 < length longer
  some = omega (arith, count)

  abbrev now : ℕ
  now = last_position longer

  at_end : now ≡ length trace
  at_end = omega (arith, count)

  same_step : (k : ℕ) → k < length trace → step_at longer k ≡ step_at trace k
  same_step k there = get_or_append_left trace (step ∷ []) no_step k there

  given : All (λ (s : Step). 0 ≤ s.time) (step ∷ [])
  given = λ k d below. omega arith

  looks_back : (rule : ℕ) (root : Plan) → slice_get plans rule ≡ Some root → AllByRecursion GuardLooksBack (nodes root)
  looks_back rule root is = (stand rule root is).back

  -- ---- positions ahead

  -- a position that is ahead of an origin is in the window that begins there,
  pub in_window : (low high : ℕ) (i : Instance) (k : ℕ) → IsFrom (step_at longer i.origin).time low high i
      → IsAhead longer low high i.origin k → IsInWindow i (step_at longer k).time
  in_window low high i k window ahead =
      let order = ordered i.origin k ahead.not_before ahead.there in
      let lower = ahead.distance.0 in
      let upper = ahead.distance.1 in
      let from = window.0 in
      let upto = window.1 in
      (omega (arith, order, lower, from), omega (arith, order, upper, upto))

  -- and the other way round
  pub is_ahead : (low high : ℕ) (i : Instance) → IsFrom (step_at longer i.origin).time low high i → i.origin ≤ now
      → (low ≡ 0) ⊎ (i.low ≤ time_now longer) → time_now longer ≤ i.high → IsAhead longer low high i.origin now
  is_ahead low high i window before lower upper =
      let order = ordered i.origin now before (omega (arith, some)) in
      let from = window.0 in
      let upto = window.1 in record {
        not_before = before;
        there = omega (arith, some);
        distance = (
          ⊎_elim (λ (none : low ≡ 0). omega (arith, none)) (λ (le : i.low ≤ time_now longer). omega (arith, order, le, from)) lower,
          omega (arith, order, upper, upto),
        );
      }

  -- so is the last position, up to the end of the window
  pub from_start : (i : Instance) (low high : ℕ) → IsFrom (step_at longer i.origin).time low high i → i.origin ≤ now
      → time_now longer ≤ i.high → IsAhead longer 0 high i.origin now
  from_start i low high window before upper =
      let order = ordered i.origin now before (omega (arith, some)) in
      let upto = window.1 in record {
        not_before = before;
        there = omega (arith, some);
        distance = (omega arith, omega (arith, order, upper, upto));
      }

  was_ahead : (low high o k : ℕ) → k < length trace → IsAhead longer low high o k → IsAhead trace low high o k
  was_ahead low high o k there ahead =
      let before = ahead.not_before in
      let start = ap (λ (s : Step). s.time) (same_step o (omega (arith, before, there))) in
      let end = ap (λ (s : Step). s.time) (same_step k there) in
      let same : elapsed longer o k ≡ elapsed trace o k = omega (arith, start, end) in record {
        not_before = before;
        there = there;
        distance = subst (λ (d : ℕ). IsIn (interval_from_to low high) d) same ahead.distance;
      }

  -- what was lost at each position so far, and is lost now where this is ahead, is lost at each
  pub still_lost : (low high : ℕ) (part : Plan) (v : Valuation) (o : ℕ)
      → ((k : ℕ) → IsAhead trace low high o k → IsLost trace 0 part v k)
      → (IsAhead longer low high o now → IsLost longer 0 part v now)
      → (k : ℕ) → IsAhead longer low high o k → IsLost longer 0 part v k
  still_lost low high part v o before at_now k ahead =
      let there = ahead.there in
      ⊎_elim
      (λ (l : k < length trace). stay trace (step ∷ []) 0 0 part v k given (omega arith) (before k (was_ahead low high o k l ahead)))
      (λ (g : length trace ≤ k).
      let same : k ≡ now = omega (arith, g, there, count) in
      subst (λ (j : ℕ). IsLost longer 0 part v j) (sym same) (at_now (subst (λ (j : ℕ). IsAhead longer low high o j) same ahead)))
      (cases_lt k (length trace))

  lost_now : (part : Plan) → AllByRecursion GuardLooksBack (nodes part) → (v : Valuation) → LacksSome longer part v
      → IsLost longer 0 part v now
  lost_now part back v lacks = lost_here lost plans 0 longer some part back v 0 lacks

  -- what an instance waits for that was begun before or now
  pub waits_more : (low high : ℕ) (part : Plan) → AllByRecursion GuardLooksBack (nodes part) → (i : Instance)
      → IsFrom (step_at longer i.origin).time low high i → (IsNowIn longer i → LacksSome longer part i.valuation)
      → ((k : ℕ) → IsAhead trace low high i.origin k → IsLost trace 0 part i.valuation k)
      → (k : ℕ) → IsAhead longer low high i.origin k → IsLost longer 0 part i.valuation k
  waits_more low high part back i window lacks before =
      still_lost low high part i.valuation i.origin before
      (λ ahead. lost_now part back i.valuation (lacks (in_window low high i now window ahead)))

  -- ---- what is begun

  -- an instance that a node begins names it, and has its window
  names : (rule : ℕ) (node : Plan) (i : Instance) → IsBegunBy longer rule node i
      → (rule ≡ i.rule) × (node_number node ≡ i.node) × (now ≡ i.origin) × HasWindow (time_now longer) node i
  names rule (EventuallyPlan node place low high body) i (v, is) =
      subst (λ (j : Instance). (rule ≡ j.rule) × (node ≡ j.node) × (now ≡ j.origin) × HasWindow (time_now longer) (EventuallyPlan node place low high body) j) is (refl, refl, refl, (refl, refl))
  names rule (AlwaysPlan node place low high body) i (v, is) =
      subst (λ (j : Instance). (rule ≡ j.rule) × (node ≡ j.node) × (now ≡ j.origin) × HasWindow (time_now longer) (AlwaysPlan node place low high body) j) is (refl, refl, refl, (refl, refl))
  names rule (UntilPlan node place low high left right) i (v, is) =
      subst (λ (j : Instance). (rule ≡ j.rule) × (node ≡ j.node) × (now ≡ j.origin) × HasWindow (time_now longer) (UntilPlan node place low high left right) j) is (refl, refl, refl, (refl, refl))
  names rule (NextPlan node place high body) i (v, is) =
      subst (λ (j : Instance). (rule ≡ j.rule) × (node ≡ j.node) × (now ≡ j.origin) × HasWindow (time_now longer) (NextPlan node place high body) j) is (refl, refl, refl, (refl, refl))
  names rule (CausePlan node place name terms) i is = absurd is
  names rule (SuppressPlan node place name terms) i is = absurd is
  names rule (Both node left right) i is = absurd is
  names rule (Either node left right) i is = absurd is
  names rule (TestOr node guard test body) i is = absurd is
  names rule (Guarded node xs guard test body) i is = absurd is

  -- nothing was ahead of what is begun now
  none_before : (low high : ℕ) (part : Plan) (v : Valuation) (o : ℕ) → now ≡ o
      → (k : ℕ) → IsAhead trace low high o k → IsLost trace 0 part v k
  none_before low high part v o is k ahead =
      let from = ahead.not_before in let there = ahead.there in absurd (omega (arith, from, there, is, at_end))

  waited_anew : (node : Plan) (i : Instance) → AllByRecursion GuardLooksBack (nodes node) → now ≡ i.origin
      → HasWindow (step_at longer i.origin).time node i → WaitsNow longer node i → HasWaited longer node i
  waited_anew (EventuallyPlan node place low high body) i back here window waits =
      waits_more low high body back.1 i window waits (none_before low high body i.valuation i.origin here)
  waited_anew (UntilPlan node place low high left right) i back here window waits =
      waits_more low high right (of_right left right back.1) i window waits (none_before low high right i.valuation i.origin here)
    where
      of_right : (left right : Plan) → AllByRecursion GuardLooksBack (nodes left ++ nodes right) → AllByRecursion GuardLooksBack (nodes right)
      of_right left right all = all_right GuardLooksBack (nodes left) (nodes right) all
  waited_anew (NextPlan node place high body) i back here window waits = omega (arith, here, some)
  waited_anew (AlwaysPlan node place low high body) i back here window waits = tt
  waited_anew (CausePlan node place name terms) i back here window waits = tt
  waited_anew (SuppressPlan node place name terms) i back here window waits = tt
  waited_anew (Both node left right) i back here window waits = tt
  waited_anew (Either node left right) i back here window waits = tt
  waited_anew (TestOr node guard test body) i back here window waits = tt
  waited_anew (Guarded node xs guard test body) i back here window waits = tt

  anew : {Condition : Type 0} (rule : ℕ) (plan : Plan) (v : Valuation) (i : Instance)
      → (Condition → IsOwed plans longer 0 rule plan v now) → IsLed plans longer rule plan v i → IsHeld Condition plans longer i
  anew {Condition = Condition} rule plan v i owed led =
      let is = names rule led.node i led.is in
      let window : HasWindow (step_at longer i.origin).time led.node i =
      subst (λ (o : ℕ). HasWindow (step_at longer o).time led.node i) is.2 is.3 in
      let by_rule : Condition → IsOwed plans longer 0 i.rule led.node i.valuation now = λ so.
      subst (λ (r : ℕ). IsOwed plans longer 0 r led.node i.valuation now) is.0
      (leads_on plans longer 0 rule plan v now led.moves (obligation led.node i.valuation now) (owed so) led.leads) in
      let here = is.2 in (
        led.node,
        record {
          named = subst (λ (n : ℕ). node_in plans i.rule n ≡ Some led.node) is.1
              (subst (λ (r : ℕ). node_in plans r (node_number led.node) ≡ Some led.node) is.0 led.named);
          begun = omega (arith, here, some);
          window = window;
          owed = λ so. subst (λ (o : ℕ). IsOwed plans longer 0 i.rule led.node i.valuation o) is.2 (by_rule so);
          waited = waited_anew led.node i led.stands.back is.2 window led.waits;
        },
      )

  -- ---- what was pending

  same_time : (i : Instance) → i.origin < length trace → (step_at trace i.origin).time ≡ (step_at longer i.origin).time
  same_time i there = ap (λ (s : Step). s.time) (sym (same_step i.origin there))

  owed_still : {Condition : Type 0} (i : Instance) (node : Plan) → IsHeldAs Condition plans trace i node → Condition
      → IsOwed plans longer 0 i.rule node i.valuation i.origin
  owed_still i node held so =
      owed_on plans trace (step ∷ []) 0 0 i.rule node i.valuation i.origin (looks_back i.rule) given (omega arith) (held.owed so)

  pub window_still : {Condition : Type 0} (i : Instance) (node : Plan) → IsHeldAs Condition plans trace i node
      → HasWindow (step_at longer i.origin).time node i
  window_still i node held = subst (λ (t : ℕ). HasWindow t node i) (same_time i held.begun) held.window

  stays : {Condition : Type 0} (i : Instance) (node : Plan) → IsHeldAs Condition plans trace i node → HasWaited longer node i
      → IsHeld Condition plans longer i
  stays i node held waited =
      let before = held.begun in (
        node,
        record {
          named = held.named;
          begun = omega (arith, before, count);
          window = window_still i node held;
          owed = owed_still i node held;
          waited = waited;
        },
      )

  stays_alone : {Condition : Type 0} (i : Instance) (node : Plan) → IsHeldAs Condition plans trace i node → HasWaited longer node i
      → (after : List Instance) (j : Instance) → after ≡ i ∷ [] → Contains after j → IsHeld Condition plans longer j
  stays_alone {Condition = Condition} i node held waited after j is there =
      ⊎_elim (λ (same : i ≡ j). subst (IsHeld Condition plans longer) same (stays i node held waited)) (λ none. absurd (none_in_nil j none))
      (first_or_later j i [] (subst (λ (l : List Instance). Contains l j) is there))

  -- what a part begins to which the node leads here
  by_part : {Condition : Type 0} (i : Instance) (node : Plan) → IsHeldAs Condition plans trace i node → (part : Plan)
      → StandsIn plans i.rule part
      → (Condition → LeadsTo longer 0 node i.valuation i.origin (obligation part i.valuation now))
      → (after : List Instance) (j : Instance) → Begun longer i.rule part i.valuation after → Contains after j
      → IsHeld Condition plans longer j
  by_part i node held part stands to after j begins there =
      anew i.rule part i.valuation j
      (λ so. leads_on plans longer 0 i.rule node i.valuation i.origin (obligation part i.valuation now ∷ []) (obligation part i.valuation now) (owed_still i node held so) (to so, refl))
      (begun_is_led lost plans i.rule longer some part stands i.valuation after j begins there)

  stays_before : {Condition : Type 0} (i : Instance) (node : Plan) → IsHeldAs Condition plans trace i node → HasWaited longer node i
      → (part : Plan) → StandsIn plans i.rule part
      → (Condition → LeadsTo longer 0 node i.valuation i.origin (obligation part i.valuation now))
      → (after : List Instance) (j : Instance) → WithBehind i (Begun longer i.rule part i.valuation) after → Contains after j
      → IsHeld Condition plans longer j
  stays_before {Condition = Condition} i node held waited part stands to after j (more, behind, is) there =
      ⊎_elim (λ (same : i ≡ j). subst (IsHeld Condition plans longer) same (stays i node held waited))
      (λ there'. by_part i node held part stands to more j behind there')
      (first_or_later j i more (subst (λ (l : List Instance). Contains l j) is there))

  -- what was lost at each position of the window so far
  pub lost_before : (low high : ℕ) (part : Plan) (i : Instance)
      → ((k : ℕ) → IsAhead trace low high i.origin k → IsLost trace 0 part i.valuation k)
      → WasLost longer 0 low high part i.valuation i.origin now
  lost_before low high part i before k ahead earlier =
      stay trace (step ∷ []) 0 0 part i.valuation k given (omega arith)
      (before k (was_ahead low high i.origin k (omega (arith, earlier, at_end)) ahead))

  became : {Condition : Type 0} (i : Instance) (node : Plan) → IsHeldAs Condition plans trace i node → StandsIn plans i.rule node
      → (Condition → has_deadline node ≡ true → time_now longer ≤ i.high) → (after : List Instance) (j : Instance)
      → BecomesAt longer node i after → Contains after j → IsHeld Condition plans longer j
  became i (CausePlan node place name terms) held stands in_time after j becomes there = absurd becomes
  became i (SuppressPlan node place name terms) held stands in_time after j becomes there = absurd becomes
  became i (Both node left right) held stands in_time after j becomes there = absurd becomes
  became i (Either node left right) held stands in_time after j becomes there = absurd becomes
  became i (TestOr node guard test body) held stands in_time after j becomes there = absurd becomes
  became i (Guarded node xs guard test body) held stands in_time after j becomes there = absurd becomes
  became i (EventuallyPlan node place low high body) held stands in_time after j becomes there =
      let before = held.begun in
      let window = window_still i (EventuallyPlan node place low high body) held in
      ⊎_elim
      (λ met. by_part i (EventuallyPlan node place low high body) held body (record { back = stands.back.1; named = stands.named.1 })
      (λ so. (now, is_ahead low high i window (omega (arith, before, at_end)) (inr met.0.0) met.0.1, lost_before low high body i held.waited, refl))
      after j met.2 there)
      (λ waits. stays_alone i (EventuallyPlan node place low high body) held
      (waits_more low high body stands.back.1 i window waits.0 held.waited) after j waits.1 there)
      becomes
  became i (AlwaysPlan node place low high body) held stands in_time after j becomes there =
      let before = held.begun in
      let window = window_still i (AlwaysPlan node place low high body) held in
      ⊎_elim
      (λ early. stays_alone i (AlwaysPlan node place low high body) held tt after j early.1 there)
      (λ other. ⊎_elim
      (λ met. stays_before i (AlwaysPlan node place low high body) held tt body (record { back = stands.back.1; named = stands.named.1 })
      (λ so. (now, is_ahead low high i window (omega (arith, before, at_end)) (inr met.0.0) met.0.1, refl))
      after j met.1 there)
      (λ over. absurd (none_in_nil j (subst (λ (l : List Instance). Contains l j) over.2 there)))
      other)
      becomes
  became i (UntilPlan node place low high left right) held stands in_time after j becomes there =
      let before = held.begun in
      let window = window_still i (UntilPlan node place low high left right) held in
      let on_right = right_stands plans i.rule left right stands.back.1 stands.named.1 in
      ⊎_elim
      (λ met. by_part i (UntilPlan node place low high left right) held right on_right
      (λ so. inl (now, is_ahead low high i window (omega (arith, before, at_end)) (inr met.0.0) met.0.1, lost_before low high right i held.waited, refl))
      after j met.2 there)
      (λ waits.
      let waited = waits_more low high right on_right.back i window waits.0 held.waited in
      stays_before i (UntilPlan node place low high left right) held waited left (left_stands plans i.rule left right stands.back.1 stands.named.1)
      (λ so. inr (now, from_start i low high window (omega (arith, before, at_end)) (in_time so refl), (λ k ahead le. waited k ahead), refl))
      after j waits.1 there)
      becomes
  became i (NextPlan node place high body) held stands in_time after j becomes there =
      let next : i.origin + 1 ≡ now = held.waited ∙ sym at_end in
      by_part i (NextPlan node place high body) held body (record { back = stands.back.1; named = stands.named.1 })
      (λ so. (omega (arith, next, some), ap (λ (k : ℕ). obligation body i.valuation k) next)) after j becomes there

  -- ---- one step

  after_held : {Condition : Type 0} (i : Instance) → IsHeld Condition plans trace i
      → (Condition → (deadline : ℕ) → HasDeadline plans i deadline → time_now longer ≤ deadline)
      → (after : List Instance) (j : Instance) → After plans longer i after → Contains after j → IsHeld Condition plans longer j
  after_held i (node, held) in_time after j becomes there =
      became i node held (stands_found first plans stand i node held.named)
      (λ so is. in_time so i.high (subst (λ (n : Option Plan). AtNode n (λ m. (has_deadline m ≡ true) × (i.high ≡ i.high))) (sym held.named) (is, refl)))
      after j (subst (λ (n : Option Plan). AtNode n (λ m. BecomesAt longer m i after)) held.named becomes) there

  root_held : {Condition : Type 0} (rule : ℕ) (plan : Plan) → slice_get plans rule ≡ Some plan → (begun : List Instance) (j : Instance)
      → Begun longer rule plan no_values begun → Contains begun j → IsHeld Condition plans longer j
  root_held rule plan at begun j begins there =
      anew rule plan no_values j
      (λ so. record { root = plan; of_rule = at; begun = now; there = omega (arith, some); moves = []; leads = refl })
      (begun_is_led lost plans rule longer some plan (stand rule plan at) no_values begun j begins there)

  pub goes_held : {Condition : Type 0} (before after : List Instance) → ((i : Instance) → Contains before i → IsHeld Condition plans trace i)
      → (Condition → NoneIsOver plans before (time_now longer)) → PendingAfter plans longer before after → (j : Instance)
      → Contains after j → IsHeld Condition plans longer j
  goes_held before after held in_time (kept, begun, goes, begins, are) j there =
      ⊎_elim
      (λ front.
      let from = Gathers-contains (After plans longer) before kept j goes front in
      after_held from.0 (held from.0 from.1)
      (λ so deadline has. subst (λ (i : Instance). (d : ℕ) → HasDeadline plans i d → time_now longer ≤ d) from.1.2 (in_time so from.1.0 from.0 from.1.1) deadline has)
      from.2 j from.3 from.4)
      (λ back.
      let root = BegunByRoots-contains longer 0 plans begun j begins back in
      root_held root.0 root.1 root.2 root.3 j
      (subst (λ (r : ℕ). Begun longer r root.1 no_values root.3) {x = 0 + root.0} {y = root.0} (omega arith) root.4) root.5)
      (Contains-append kept begun j (subst (λ (l : List Instance). Contains l j) are there))
