-- What a step begins is led to by what began it.
use Rattle.obligations.proofs.Vocabulary.{◌≡◌, ◌⊎◌, ℕ, zero, suc, ◌<◌, ◌≤◌, Bool, true, false, ◌||◌, List, [], ◌∷◌, ◌++◌, length, Contains, Some, inl, inr, ⊎_elim, refl, sym, ap, subst, ◌∙◌, arith}
use Rattle.obligations.proofs.Vocabulary.{AllByRecursion, list_any, false≢true, append-nil, All-contains, step_at, Contains-append, first_or_later, none_in_nil, Valuation, with_values, Step, Value}
use Rattle.obligations.proofs.Vocabulary.{Sat, GuardLooksBack, IsLost, IsAhead, IsNotMet, LeadsThrough, LeadsTo, Obligation, obligation, has_future, is_future, nodes, node_number, node_in}
use Rattle.obligations.proofs.Vocabulary.{formula_for, Plan, CausePlan, SuppressPlan, Both, Either, TestOr, Guarded, EventuallyPlan, AlwaysPlan, UntilPlan, NextPlan, IsNodeByNumber, StandsIn, Begun}
use Rattle.obligations.proofs.Vocabulary.{LacksSome, TakesOrElse, TakesPresent, IfElse, WithBehind, begun_now, last_position, SomethingMissedIsLost, IsNowIn, IsBegunBy, Instance}
use Rattle.obligations.proofs.GatheredLists.{Gathers-contains}
use Rattle.obligations.proofs.SoundnessLemmas.{all_left, all_right}

-- ---- nodes that stand

pub left_stands : (plans : List Plan) (rule : ℕ) (left right : Plan) → AllByRecursion GuardLooksBack (nodes left ++ nodes right)
    → AllByRecursion (IsNodeByNumber plans rule) (nodes left ++ nodes right) → StandsIn plans rule left
left_stands plans rule left right back named = record {
  back = all_left GuardLooksBack (nodes left) (nodes right) back;
  named = all_left (IsNodeByNumber plans rule) (nodes left) (nodes right) named;
}

pub right_stands : (plans : List Plan) (rule : ℕ) (left right : Plan) → AllByRecursion GuardLooksBack (nodes left ++ nodes right)
    → AllByRecursion (IsNodeByNumber plans rule) (nodes left ++ nodes right) → StandsIn plans rule right
right_stands plans rule left right back named = record {
  back = all_right GuardLooksBack (nodes left) (nodes right) back;
  named = all_right (IsNodeByNumber plans rule) (nodes left) (nodes right) named;
}

-- ---- a side that looks ahead

some_left : (ps qs : List Plan) → list_any is_future ps ≡ true → list_any is_future (ps ++ qs) ≡ true
some_left [] qs some = absurd (false≢true some)
some_left (p ∷ ps) qs some = by (is_future p) (some_left ps qs) some
  where
    by : (b : Bool) → (list_any is_future ps ≡ true → list_any is_future (ps ++ qs) ≡ true)
        → (b || list_any is_future ps) ≡ true → (b || list_any is_future (ps ++ qs)) ≡ true
    by true others is = refl
    by false others is = others is

some_right : (ps qs : List Plan) → list_any is_future qs ≡ true → list_any is_future (ps ++ qs) ≡ true
some_right [] qs some = some
some_right (p ∷ ps) qs some = by (is_future p) (some_right ps qs some)
  where
    by : (b : Bool) → list_any is_future (ps ++ qs) ≡ true → (b || list_any is_future (ps ++ qs)) ≡ true
    by true others = refl
    by false others = others

-- what an instance that a node begins waits for does not hold where it is begun: what it misses is missed
abbrev pub WaitsNow : List Step → Plan → Instance → Type 0
WaitsNow trace (EventuallyPlan node place low high body) i = IsNowIn trace i → LacksSome trace body i.valuation
WaitsNow trace (UntilPlan node place low high left right) i = IsNowIn trace i → LacksSome trace right i.valuation
WaitsNow trace plan i = Unit {0}

-- the instance is of a node that a plan leads to and that waits
pub record IsLed (plans : List Plan) (trace : List Step) (rule : ℕ) (plan : Plan) (v : Valuation) (i : Instance) : Type 0 where
  pub node : Plan
  pub stands : StandsIn plans rule node
  pub named : node_in plans rule (node_number node) ≡ Some node
  pub is : IsBegunBy trace rule node i
  pub waits : WaitsNow trace node i
  pub ahead : has_future plan ≡ true
  pub moves : List Obligation
  pub leads : LeadsThrough trace 0 (obligation plan v (last_position trace)) moves (obligation node i.valuation (last_position trace))

module _ (lost : SomethingMissedIsLost) (plans : List Plan) (rule : ℕ) (trace : List Step) (some : 0 < length trace) where
  abbrev now : ℕ
  now = last_position trace

  abbrev Led : Plan → Valuation → Instance → Type 0
  Led plan v i = IsLed plans trace rule plan v i

  -- what is missed here is lost, and does not hold
  pub lost_here : (plan : Plan) → AllByRecursion GuardLooksBack (nodes plan) → (v : Valuation) (clock : ℕ)
      → LacksSome trace plan v → IsLost trace clock plan v now
  lost_here plan back v clock lacks longer continued holds =
      lost plan trace continued.more v lacks.0 lacks.1 back some lacks.2
      (subst (λ (t : List Step). Sat t now v (formula_for plan)) continued.begins holds)

  pub fails_here : (plan : Plan) → AllByRecursion GuardLooksBack (nodes plan) → (v : Valuation)
      → LacksSome trace plan v → Sat trace now v (formula_for plan) → ⊥
  fails_here plan back v lacks holds =
      lost plan trace [] v lacks.0 lacks.1 back some lacks.2
      (subst (λ (t : List Step). Sat t now v (formula_for plan)) (sym (append-nil trace)) holds)

  pub at_once : (low high : ℕ) → low ≡ 0 → IsAhead trace low high now now
  at_once low high is = record { not_before = omega arith; there = omega (arith, some); distance = (omega (arith, is), omega arith) }

  lift : (plan body : Plan) (v v' : Valuation) (i : Instance) → (has_future body ≡ true → has_future plan ≡ true)
      → LeadsTo trace 0 plan v now (obligation body v' now) → Led body v' i → Led plan v i
  lift plan body v v' i ahead to led = record {
    node = led.node;
    stands = led.stands;
    named = led.named;
    is = led.is;
    waits = led.waits;
    ahead = ahead led.ahead;
    moves = obligation body v' now ∷ led.moves;
    leads = (to, led.leads);
  }

  -- one instance, and one with others after it
  only : (plan : Plan) (v : Valuation) (first i : Instance) (begun : List Instance) → begun ≡ first ∷ [] → Contains begun i
      → Led plan v first → Led plan v i
  only plan v first i begun is there led =
      ⊎_elim (λ (same : first ≡ i). subst (Led plan v) same led) (λ none. absurd (none_in_nil i none))
      (first_or_later i first [] (subst (λ (l : List Instance). Contains l i) is there))

  first_of : (plan : Plan) (v : Valuation) (first i : Instance) (Behind : List Instance → Type 0) (begun : List Instance)
      → WithBehind first Behind begun → Contains begun i → Led plan v first
      → ((more : List Instance) → Behind more → Contains more i → Led plan v i) → Led plan v i
  first_of plan v first i Behind begun (more, behind, is) there led others =
      ⊎_elim (λ (same : first ≡ i). subst (Led plan v) same led) (λ there'. others more behind there')
      (first_or_later i first more (subst (λ (l : List Instance). Contains l i) is there))

  -- a side that was asked: it looks ahead and was passed over, or was taken, or misses something
  asked : (b : Bool) (side : Plan) (v : Valuation) (Begins Else : Type 0) → IfElse b Else (TakesOrElse trace side v Begins Else)
      → ((b ≡ true) × Else) ⊎ (((b ≡ false) × Begins) ⊎ (LacksSome trace side v × Else))
  asked true side v Begins Else other = inl (refl, other)
  asked false side v Begins Else takes =
      ⊎_elim (λ taken. inr (inl (refl, taken.1))) (λ lacks. inr (inr lacks)) takes

  not_met : (side : Plan) (v : Valuation) → AllByRecursion GuardLooksBack (nodes side)
      → (has_future side ≡ true) ⊎ LacksSome trace side v → IsNotMet trace side v now
  not_met side v back why none holds =
      ⊎_elim (λ ahead. false≢true (sym none ∙ ahead)) (λ lacks. fails_here side back v lacks holds) why

  abbrev Leads : Plan → Type 0
  Leads plan = (v : Valuation) (begun : List Instance) (i : Instance) → Begun trace rule plan v begun → Contains begun i
      → Led plan v i

  none_ahead : (side : Plan) → Leads side → has_future side ≡ false → (v : Valuation) (begun : List Instance) (i : Instance)
      → Begun trace rule side v begun → Contains begun i → ⊥
  none_ahead side leads none v begun i begins there = false≢true (sym none ∙ (leads v begun i begins there).ahead)

  module _ (node : ℕ) (left right : Plan) (on_left : StandsIn plans rule left) (on_right : StandsIn plans rule right)
      (first : Leads left) (second : Leads right) (v : Valuation) (begun : List Instance) (i : Instance)
      (there : Contains begun i) where
    abbrev Left : Type 0
    Left = Begun trace rule left v begun

    abbrev Right : Type 0
    Right = Begun trace rule right v begun

    abbrev Third : Type 0
    Third = TakesOrElse trace right v Right (TakesOrElse trace left v Left (begun ≡ []))

    with_both : (has_future right ≡ true) ⊎ LacksSome trace right v → (has_future left ≡ true) ⊎ LacksSome trace left v
        → Third → Led (Either node left right) v i
    with_both why also third =
        ⊎_elim
        (λ taken. lift (Either node left right) right v v i (some_right (nodes left) (nodes right))
        (not_met left v on_left.back also, not_met right v on_right.back why, inr refl) (second v begun i taken.1 there))
        (λ other. ⊎_elim
        (λ taken. lift (Either node left right) left v v i (some_left (nodes left) (nodes right))
        (not_met left v on_left.back also, not_met right v on_right.back why, inl refl) (first v begun i taken.1 there))
        (λ none. absurd (none_in_nil i (subst (λ (l : List Instance). Contains l i) none.1 there)))
        other.1)
        third

    with_right : (has_future right ≡ true) ⊎ LacksSome trace right v → TakesPresent trace left v Left Third
        → Led (Either node left right) v i
    with_right why takes =
        ⊎_elim
        (λ (passed : (has_future left ≡ true) × Third). with_both why (inl passed.0) passed.1)
        (λ r. ⊎_elim
        (λ (taken : (has_future left ≡ false) × Left). absurd (none_ahead left first taken.0 v begun i taken.1 there))
        (λ (lacks : LacksSome trace left v × Third). with_both why (inr lacks.0) lacks.1)
        r)
        (asked (has_future left) left v Left Third takes)

    either : Begun trace rule (Either node left right) v begun → Led (Either node left right) v i
    either begins =
        ⊎_elim
        (λ (passed : (has_future right ≡ true) × TakesPresent trace left v Left Third). with_right (inl passed.0) passed.1)
        (λ r. ⊎_elim
        (λ (taken : (has_future right ≡ false) × Right). absurd (none_ahead right second taken.0 v begun i taken.1 there))
        (λ (lacks : LacksSome trace right v × TakesPresent trace left v Left Third). with_right (inr lacks.0) lacks.1)
        r)
        (asked (has_future right) right v Right (TakesPresent trace left v Left Third) begins)

  eventually : (node place low high : ℕ) (body : Plan) → StandsIn plans rule (EventuallyPlan node place low high body)
      → Leads body → Leads (EventuallyPlan node place low high body)
  eventually node place zero high body stands inner v begun i begins there =
      ⊎_elim
      (λ taken. lift (EventuallyPlan node place 0 high body) body v v i (λ _. refl)
      (now, at_once 0 high refl, (λ k ahead before. let from = ahead.not_before in absurd (omega (arith, from, before))), refl)
      (inner v begun i taken.1 there))
      (λ lacks. only (EventuallyPlan node place 0 high body) v (begun_now trace rule node 0 high v) i begun lacks.1 there (record {
        node = EventuallyPlan node place 0 high body;
        stands = stands;
        named = stands.named.0;
        is = (v, refl);
        waits = λ _. lacks.0;
        ahead = refl;
        moves = [];
        leads = refl;
      }))
      begins
  eventually node place (suc low) high body stands inner v begun i begins there =
      only (EventuallyPlan node place (suc low) high body) v (begun_now trace rule node (suc low) high v) i begun begins there (record {
        node = EventuallyPlan node place (suc low) high body;
        stands = stands;
        named = stands.named.0;
        is = (v, refl);
        waits = λ in_window. let lower = in_window.0 in absurd (omega (arith, lower));
        ahead = refl;
        moves = [];
        leads = refl;
      })

  always_itself : (node place low high : ℕ) (body : Plan) → StandsIn plans rule (AlwaysPlan node place low high body) → (v : Valuation)
      → Led (AlwaysPlan node place low high body) v (begun_now trace rule node low high v)
  always_itself node place low high body stands v = record {
    node = AlwaysPlan node place low high body;
    stands = stands;
    named = stands.named.0;
    is = (v, refl);
    waits = tt;
    ahead = refl;
    moves = [];
    leads = refl;
  }

  always : (node place low high : ℕ) (body : Plan) → StandsIn plans rule (AlwaysPlan node place low high body)
      → Leads body → Leads (AlwaysPlan node place low high body)
  always node place zero high body stands inner v begun i begins there =
      first_of (AlwaysPlan node place 0 high body) v (begun_now trace rule node 0 high v) i (Begun trace rule body v) begun begins there
      (always_itself node place 0 high body stands v)
      (λ more behind there'. lift (AlwaysPlan node place 0 high body) body v v i (λ _. refl) (now, at_once 0 high refl, refl) (inner v more i behind there'))
  always node place (suc low) high body stands inner v begun i begins there =
      only (AlwaysPlan node place (suc low) high body) v (begun_now trace rule node (suc low) high v) i begun begins there
      (always_itself node place (suc low) high body stands v)

  until_itself : (node place low high : ℕ) (left right : Plan) → StandsIn plans rule (UntilPlan node place low high left right) → (v : Valuation)
      → (IsNowIn trace (begun_now trace rule node low high v) → LacksSome trace right v)
      → Led (UntilPlan node place low high left right) v (begun_now trace rule node low high v)
  until_itself node place low high left right stands v waits = record {
    node = UntilPlan node place low high left right;
    stands = stands;
    named = stands.named.0;
    is = (v, refl);
    waits = waits;
    ahead = refl;
    moves = [];
    leads = refl;
  }

  until_waits : (node place low high : ℕ) (left right : Plan) → StandsIn plans rule (UntilPlan node place low high left right)
      → Leads left → (v : Valuation) (begun : List Instance) (i : Instance)
      → (IsNowIn trace (begun_now trace rule node low high v) → LacksSome trace right v)
      → ((k : ℕ) → IsAhead trace low high now k → k ≤ now → IsLost trace 0 right v k)
      → WithBehind (begun_now trace rule node low high v) (Begun trace rule left v) begun → Contains begun i
      → Led (UntilPlan node place low high left right) v i
  until_waits node place low high left right stands inner v begun i waits lost_so_far begins there =
      first_of (UntilPlan node place low high left right) v (begun_now trace rule node low high v) i (Begun trace rule left v) begun begins there
      (until_itself node place low high left right stands v waits)
      (λ more behind there'. lift (UntilPlan node place low high left right) left v v i (λ _. refl)
      (inr (now, at_once 0 high refl, lost_so_far, refl)) (inner v more i behind there'))

  until : (node place low high : ℕ) (left right : Plan) → StandsIn plans rule (UntilPlan node place low high left right)
      → StandsIn plans rule right → Leads left → Leads right → Leads (UntilPlan node place low high left right)
  until node place zero high left right stands on_right first second v begun i begins there =
      ⊎_elim
      (λ taken. lift (UntilPlan node place 0 high left right) right v v i (λ _. refl)
      (inl (now, at_once 0 high refl, (λ k ahead before. let from = ahead.not_before in absurd (omega (arith, from, before))), refl))
      (second v begun i taken.1 there))
      (λ lacks. until_waits node place 0 high left right stands first v begun i (λ _. lacks.0)
      (λ k ahead le. let from = ahead.not_before in
      subst (IsLost trace 0 right v) {x = now} {y = k} (omega (arith, from, le)) (lost_here right on_right.back v 0 lacks.0))
      lacks.1 there)
      begins
  until node place (suc low) high left right stands on_right first second v begun i begins there =
      until_waits node place (suc low) high left right stands first v begun i
      (λ in_window. let lower = in_window.0 in absurd (omega (arith, lower)))
      (λ k ahead le. absurd (not_yet k ahead le))
      begins there
    where
      not_yet : (k : ℕ) → IsAhead trace (suc low) high now k → k ≤ now → ⊥
      not_yet k ahead le =
          let from = ahead.not_before in
          let same : now ≡ k = omega (arith, from, le) in
          let times : (step_at trace now).time ≡ (step_at trace k).time = ap (λ (j : ℕ). (step_at trace j).time) same in
          let lower = ahead.distance.0 in
          omega (arith, times, lower)

  -- each instance that a plan begins is of a node to which the plan leads
  pub begun_is_led : (plan : Plan) → StandsIn plans rule plan → Leads plan
  begun_is_led (CausePlan node place name terms) stands v begun i begins there =
      absurd (none_in_nil i (subst (λ (l : List Instance). Contains l i) begins there))
  begun_is_led (SuppressPlan node place name terms) stands v begun i begins there =
      absurd (none_in_nil i (subst (λ (l : List Instance). Contains l i) begins there))
  begun_is_led (Both node left right) stands v begun i (first, rest, begins, also, are) there =
      ⊎_elim
      (λ front. lift (Both node left right) left v v i (some_left (nodes left) (nodes right)) (inl refl)
      (begun_is_led left (left_stands plans rule left right stands.back.1 stands.named.1) v first i begins front))
      (λ back. lift (Both node left right) right v v i (some_right (nodes left) (nodes right)) (inr refl)
      (begun_is_led right (right_stands plans rule left right stands.back.1 stands.named.1) v rest i also back))
      (Contains-append first rest i (subst (λ (l : List Instance). Contains l i) are there))
  begun_is_led (Either node left right) stands v begun i begins there =
      let on_left = left_stands plans rule left right stands.back.1 stands.named.1 in
      let on_right = right_stands plans rule left right stands.back.1 stands.named.1 in
      either node left right on_left on_right (begun_is_led left on_left) (begun_is_led right on_right) v begun i there begins
  begun_is_led (TestOr node guard test body) stands v begun i begins there =
      ⊎_elim
      (λ holds. absurd (none_in_nil i (subst (λ (l : List Instance). Contains l i) holds.1 there)))
      (λ fails. lift (TestOr node guard test body) body v v i (λ h. h) (fails.0, refl)
      (begun_is_led body (record { back = stands.back.1; named = stands.named.1 }) v begun i fails.1 there))
      begins
  begun_is_led (Guarded node xs guard test body) stands v begun i (rows, are, gathered) there =
      let from = Gathers-contains (λ row. Begun trace rule body (with_values xs row v)) rows begun i gathered there in
      let fits = All-contains (λ (r : List Value). length r ≡ length xs) rows from.0 are.fit from.1 in
      lift (Guarded node xs guard test body) body v (with_values xs from.0 v) i (λ h. h)
      (from.0, fits, (are.are from.0 fits).0 from.1, refl)
      (begun_is_led body (record { back = stands.back.1; named = stands.named.1 }) (with_values xs from.0 v) from.2 i from.3 from.4)
  begun_is_led (EventuallyPlan node place low high body) stands v begun i begins there =
      eventually node place low high body stands (begun_is_led body (record { back = stands.back.1; named = stands.named.1 })) v begun i begins there
  begun_is_led (AlwaysPlan node place low high body) stands v begun i begins there =
      always node place low high body stands (begun_is_led body (record { back = stands.back.1; named = stands.named.1 })) v begun i begins there
  begun_is_led (UntilPlan node place low high left right) stands v begun i begins there =
      let on_right = right_stands plans rule left right stands.back.1 stands.named.1 in
      until node place low high left right stands on_right
      (begun_is_led left (left_stands plans rule left right stands.back.1 stands.named.1)) (begun_is_led right on_right) v begun i begins there
  begun_is_led (NextPlan node place high body) stands v begun i begins there =
      only (NextPlan node place high body) v (begun_now trace rule node 0 high v) i begun begins there (record {
        node = NextPlan node place high body;
        stands = stands;
        named = stands.named.0;
        is = (v, refl);
        waits = tt;
        ahead = refl;
        moves = [];
        leads = refl;
      })
