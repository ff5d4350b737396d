-- What is missed and begun at a step is below guards that are triggered there: by induction over plans.
use Rattle.obligations.proofs.Vocabulary.{◌≡◌, ◌⊎◌, ℕ, zero, suc, ◌+◌, ◌<◌, ◌≤◌, List, [], ◌∷◌, ◌++◌, length, take, drop, Contains, Option, None, Some, length-append, refl, sym, ap, subst, ◌∙◌, arith}
use Rattle.obligations.proofs.Vocabulary.{inl, inr, ⊎_elim, length-take-le, take-append-drop, AllByRecursion, All-contains, Contains-append_left, Contains-append_right, step_at}
use Rattle.obligations.proofs.Vocabulary.{AllByRecursion-contains, AllByRecursion-from_contains, Contains-append, first_or_later, here, later, none_in_nil, Valuation, no_values, values_of_terms}
use Rattle.obligations.proofs.Vocabulary.{with_values, Event, NameId, Step, Term, VarId, Value, as_many_values, Formula, GuardLooksBack, has_future, nodes, node_number, node_in, Plan, CausePlan}
use Rattle.obligations.proofs.Vocabulary.{SuppressPlan, Both, Either, TestOr, Guarded, EventuallyPlan, AlwaysPlan, UntilPlan, NextPlan, triggers, FoundIsFirst, TriggersAreMet, IsNodeByNumber}
use Rattle.obligations.proofs.Vocabulary.{StandsIn, from_one, Begun, BeginsAlways, BeginsOrWaits, LacksNothing, LacksSome, WithBehind, begun_now, time_now, Missing, MissesAlways, MissesUntil, IsAbsent}
use Rattle.obligations.proofs.Vocabulary.{IsPresent, LiteralUnless, OfEvent, cause_literal, suppress_literal, AreGuardRows, HoldsLast, last_position, After, AtNode, BecomesAt, PendingAfter}
use Rattle.obligations.proofs.Vocabulary.{PendsBehind, node_of, BegunIsNamed, BegunIsReached, MissedIsReached, ReachedIsInside, IsBegunBy, IsBegunIn, IsMissedIn, IsReached, last_events, IsBegunAt}
use Rattle.obligations.proofs.Vocabulary.{IsReachedBy, begun_at, IsNowIn, PendCame, PendingWasBegun, PlansStand, Instance, Literal}
use Rattle.obligations.proofs.ReachWidening.{AreMetAtLast}
use Rattle.obligations.proofs.GatheredLists.{BegunByRoots-contains, Gathers-contains}
use Rattle.obligations.proofs.SoundnessLemmas.{taken}
use Rattle.obligations.proofs.ExistenceLemmas.{present_or_not}
use Rattle.obligations.proofs.TriggeredGuardLemmas.{met_or_not}
use Rattle.obligations.proofs.TraceLemmas.{shorter_pends, stands_found, whole}

-- ---- what is in lists

pub none_there : {X : Type 0} (x : X) (xs : List X) → xs ≡ [] → Contains xs x → ⊥
none_there {X} x xs none there = none_in_nil x (subst (λ (l : List X). Contains l x) none there)

only : {X : Type 0} (x y : X) (xs : List X) → xs ≡ y ∷ [] → Contains xs x → y ≡ x
only {X} x y xs are there =
    ⊎_elim (λ same. same) (λ none. absurd (none_in_nil x none)) (first_or_later x y [] (subst (λ (l : List X). Contains l x) are there))

-- ---- goals

-- something is lacking of what a window is open for from its beginning
abbrev pub LacksAtOnce : List Step → (low : ℕ) → Plan → Valuation → Type 0
LacksAtOnce trace zero goal v = LacksSome trace goal v
LacksAtOnce trace (suc low) goal v = Unit {0}

-- so it is with the goal of a node
abbrev pub LacksAt : List Step → Plan → Instance → Type 0
LacksAt trace (EventuallyPlan node place low high body) i = LacksAtOnce trace low body i.valuation
LacksAt trace (UntilPlan node place low high left right) i = LacksAtOnce trace low right i.valuation
LacksAt trace node i = Unit {0}

-- the instance is begun by an operator of the plan that is reached at the last position, and lacks something of its goal
-- where that was looked at
abbrev pub IsBegunLacking : List Step → (rule : ℕ) → Plan → Instance → Type 0
IsBegunLacking trace rule plan i = (node : Plan) × IsReached trace plan node × IsBegunBy trace rule node i × LacksAt trace node i

-- ---- triggers that are met

module _ (triggers_are_met : TriggersAreMet) (trace : List Step) where
  guard_met : (v : Valuation) (test : Formula) → HoldsLast trace v test → AreMetAtLast trace (triggers test)
  guard_met v test holds = by (triggers test) refl
    where
      by : (names : Option (List NameId)) → triggers test ≡ names → AreMetAtLast trace names
      by None is = tt
      by (Some names) is = ⊎_elim (λ met. met)
          (λ none. absurd (triggers_are_met trace (last_position trace) v test names is holds none))
          (met_or_not names (step_at trace (last_position trace)).events)

  -- a row of a guard is one for which it holds
  row_met : (v : Valuation) (xs : List VarId) (test : Formula) (rows : List (List Value)) → AreGuardRows trace v xs test rows
      → (row : List Value) → Contains rows row → AreMetAtLast trace (triggers test)
  row_met v xs test rows are row there =
      guard_met (with_values xs row v) test
      ((are.are row (All-contains (λ (r : List Value). length r ≡ length xs) rows row are.fit there)).0 there)

  -- ---- what is missed

  -- what is reached from a part is reached from the whole
  abbrev Inside : Plan → Plan → Type 0
  Inside part whole = (end : Plan) → IsReached trace part end → IsReached trace whole end

  missed_inside : (part whole : Plan) (l : Literal) → Inside part whole → IsMissedIn trace part l → IsMissedIn trace whole l
  missed_inside part whole l inside (leaf, reached, is, changes) = (leaf, inside leaf reached, is, changes)

  missed_cause : (node place : ℕ) (name : NameId) (terms : List Term) (v : Valuation) (ls : List Literal) (l : Literal)
      → Missing trace (CausePlan node place name terms) v ls → Contains ls l → IsMissedIn trace (CausePlan node place name terms) l
  missed_cause node place name terms v ls l missing there = by (values_of_terms v terms) refl missing
    where
      by : (o : Option (List Value)) → values_of_terms v terms ≡ o
          → OfEvent name o (λ e. LiteralUnless (IsPresent trace e) (cause_literal e node) ls)
          → IsMissedIn trace (CausePlan node place name terms) l
      by None e is = absurd is
      by (Some args) e is = ⊎_elim
          (λ present. absurd (none_there l ls present.1 there))
          (λ absent. subst (IsMissedIn trace (CausePlan node place name terms)) (only l (cause_literal (record { name = name; args = args }) node) ls absent.1 there)
          (CausePlan node place name terms, refl, (refl, refl, refl, as_many_values v terms args e), absent.0))
          is

  missed_suppress : (node place : ℕ) (name : NameId) (terms : List Term) (v : Valuation) (ls : List Literal) (l : Literal)
      → Missing trace (SuppressPlan node place name terms) v ls → Contains ls l → IsMissedIn trace (SuppressPlan node place name terms) l
  missed_suppress node place name terms v ls l missing there = by (values_of_terms v terms) refl missing
    where
      held : (e : Event) → (IsAbsent trace e → ⊥) → IsPresent trace e
      held e twice = ⊎_elim (λ is. is) (λ absent. absurd (twice absent)) (present_or_not (step_at trace (last_position trace)).events e)

      by : (o : Option (List Value)) → values_of_terms v terms ≡ o
          → OfEvent name o (λ e. LiteralUnless (IsAbsent trace e) (suppress_literal e node) ls)
          → IsMissedIn trace (SuppressPlan node place name terms) l
      by None e is = absurd is
      by (Some args) e is = ⊎_elim
          (λ absent. absurd (none_there l ls absent.1 there))
          (λ present. subst (IsMissedIn trace (SuppressPlan node place name terms)) (only l (suppress_literal (record { name = name; args = args }) node) ls present.1 there)
          (SuppressPlan node place name terms, refl, (refl, refl, refl, as_many_values v terms args e), held (record { name = name; args = args }) present.0))
          is

  missed_always : (low : ℕ) (body : Plan) (v : Valuation) (ls : List Literal) (l : Literal)
      → MissesAlways low (Missing trace body v) ls → Contains ls l
      → ((ms : List Literal) → Missing trace body v ms → Contains ms l → IsMissedIn trace body l) → IsMissedIn trace body l
  missed_always zero body v ls l missing there each = each ls missing there
  missed_always (suc low) body v ls l missing there each = absurd (none_there l ls missing there)

  missed_until : (low : ℕ) (left right : Plan) (v : Valuation) (ls : List Literal) (l : Literal)
      → MissesUntil low (Missing trace left v) (Missing trace right v) ls → Contains ls l
      → ((ms : List Literal) → Missing trace left v ms → Contains ms l → IsMissedIn trace left l) → IsMissedIn trace left l
  missed_until zero left right v ls l missing there each =
      ⊎_elim (λ none. absurd (none_there l ls none.1 there)) (λ some. each ls some.1 there) missing
  missed_until (suc low) left right v ls l missing there each = each ls missing there

  missed : (plan : Plan) (v : Valuation) (ls : List Literal) (l : Literal) → Missing trace plan v ls → Contains ls l
      → IsMissedIn trace plan l
  missed (CausePlan node place name terms) v ls l missing there = missed_cause node place name terms v ls l missing there
  missed (SuppressPlan node place name terms) v ls l missing there = missed_suppress node place name terms v ls l missing there
  missed (Both node left right) v ls l (first, rest, misses, also, are) there =
      ⊎_elim
      (λ front. missed_inside left (Both node left right) l (λ end is. inr (inl is)) (missed left v first l misses front))
      (λ back. missed_inside right (Both node left right) l (λ end is. inr (inr is)) (missed right v rest l also back))
      (Contains-append first rest l (subst (λ (k : List Literal). Contains k l) are there))
  missed (Either node left right) v ls l missing there =
      ⊎_elim (λ none. absurd (none_there l ls none.1 there)) (λ others.
      ⊎_elim (λ none. absurd (none_there l ls none.1 there)) (λ some.
      missed_inside right (Either node left right) l (λ end is. inr (inr is)) (missed right v ls l some.2 there)) others) missing
  missed (TestOr node guard test body) v ls l missing there =
      ⊎_elim (λ none. absurd (none_there l ls none.1 there)) (λ fails.
      missed_inside body (TestOr node guard test body) l (λ end is. inr is) (missed body v ls l fails.1 there)) missing
  missed (Guarded node xs guard test body) v ls l (rows, are, gathered) there =
      let found = Gathers-contains (λ (row : List Value) (ms : List Literal). Missing trace body (with_values xs row v) ms) rows ls l gathered there in
      missed_inside body (Guarded node xs guard test body) l (λ end is. inr (row_met v xs test rows are found.0 found.1, is))
      (missed body (with_values xs found.0 v) found.2 l found.3 found.4)
  missed (EventuallyPlan node place low high body) v ls l missing there = absurd (none_there l ls missing there)
  missed (AlwaysPlan node place low high body) v ls l missing there =
      missed_inside body (AlwaysPlan node place low high body) l (λ end is. inr is)
      (missed_always low body v ls l missing there (λ ms misses among. missed body v ms l misses among))
  missed (UntilPlan node place low high left right) v ls l missing there =
      missed_inside left (UntilPlan node place low high left right) l (λ end is. inr (inl is))
      (missed_until low left right v ls l missing there (λ ms misses among. missed left v ms l misses among))
  missed (NextPlan node place high body) v ls l missing there = absurd (none_there l ls missing there)

  -- ---- what is begun

  module _ (rule : ℕ) where
    begun_inside : (part whole : Plan) (i : Instance) → Inside part whole → IsBegunLacking trace rule part i → IsBegunLacking trace rule whole i
    begun_inside part whole i inside (node, reached, is, lacks) = (node, inside node reached, is, lacks)

    -- at an operator, one side of which is begun in its place where its window begins at once
    begun_or_waits : (low : ℕ) (body : Plan) (v : Valuation) (Begins Waits Wanted : Type 0)
        → BeginsOrWaits trace low body v Begins Waits → (Begins → Wanted) → (LacksAtOnce trace low body v → Waits → Wanted) → Wanted
    begun_or_waits zero body v Begins Waits Wanted begins first second =
        ⊎_elim (λ taken. first taken.1) (λ passed. second passed.0 passed.1) begins
    begun_or_waits (suc low) body v Begins Waits Wanted begins first second = second tt begins

    behind_it : (i j : Instance) (P : List Instance → Type 0) (is : List Instance) (Wanted : Type 0) → WithBehind i P is
        → Contains is j → (i ≡ j → Wanted) → ((more : List Instance) → P more → Contains more j → Wanted) → Wanted
    behind_it i j P is Wanted (more, holds, are) there first second =
        ⊎_elim first (λ behind. second more holds behind) (first_or_later j i more (subst (λ (l : List Instance). Contains l j) are there))

    begun_always : (low : ℕ) (i j : Instance) (P : List Instance → Type 0) (is : List Instance) (Wanted : Type 0)
        → BeginsAlways low i P is → Contains is j → (i ≡ j → Wanted)
        → ((more : List Instance) → P more → Contains more j → Wanted) → Wanted
    begun_always zero i j P is Wanted begins there first second = behind_it i j P is Wanted begins there first second
    begun_always (suc low) i j P is Wanted begins there first second = first (only j i is begins there)

    begun : (plan : Plan) (v : Valuation) (is : List Instance) (i : Instance) → Begun trace rule plan v is → Contains is i
        → IsBegunLacking trace rule plan i
    begun (CausePlan node place name terms) v is i begins there = absurd (none_there i is begins there)
    begun (SuppressPlan node place name terms) v is i begins there = absurd (none_there i is begins there)
    begun (Both node left right) v is i (first, rest, begins, also, are) there =
        ⊎_elim
        (λ front. begun_inside left (Both node left right) i (λ end reached. inr (inl reached)) (begun left v first i begins front))
        (λ back. begun_inside right (Both node left right) i (λ end reached. inr (inr reached)) (begun right v rest i also back))
        (Contains-append first rest i (subst (λ (l : List Instance). Contains l i) are there))
    begun (Either node left right) v is i begins there =
        let on_left : LacksNothing trace left v × Begun trace rule left v is → IsBegunLacking trace rule (Either node left right) i =
        λ side. begun_inside left (Either node left right) i (λ end reached. inr (inl reached)) (begun left v is i side.1 there) in
        let on_right : LacksNothing trace right v × Begun trace rule right v is → IsBegunLacking trace rule (Either node left right) i =
        λ side. begun_inside right (Either node left right) i (λ end reached. inr (inr reached)) (begun right v is i side.1 there) in
        ⊎_elim on_right
        (λ second. ⊎_elim on_left
        (λ third. ⊎_elim on_right (λ fourth. ⊎_elim on_left (λ neither. absurd (none_there i is neither.1 there)) fourth.1) third)
        (taken (has_future left) trace left v second))
        (taken (has_future right) trace right v begins)
    begun (TestOr node guard test body) v is i begins there =
        ⊎_elim (λ met. absurd (none_there i is met.1 there)) (λ fails.
        begun_inside body (TestOr node guard test body) i (λ end reached. inr reached) (begun body v is i fails.1 there)) begins
    begun (Guarded node xs guard test body) v is i (rows, are, gathered) there =
        let found = Gathers-contains (λ (row : List Value) (js : List Instance). Begun trace rule body (with_values xs row v) js) rows is i gathered there in
        begun_inside body (Guarded node xs guard test body) i (λ end reached. inr (row_met v xs test rows are found.0 found.1, reached))
        (begun body (with_values xs found.0 v) found.2 i found.3 found.4)
    begun (EventuallyPlan node place low high body) v is i begins there =
        begun_or_waits low body v (Begun trace rule body v is) (is ≡ begun_now trace rule node low high v ∷ []) (IsBegunLacking trace rule (EventuallyPlan node place low high body) i) begins
        (λ at_once. begun_inside body (EventuallyPlan node place low high body) i (λ end reached. inr reached) (begun body v is i at_once there))
        (λ lacks waits.
        let same = only i (begun_now trace rule node low high v) is waits there in
        (EventuallyPlan node place low high body, inl refl, (v, same), subst (λ (j : Instance). LacksAtOnce trace low body j.valuation) same lacks))
    begun (AlwaysPlan node place low high body) v is i begins there =
        begun_always low (begun_now trace rule node low high v) i (Begun trace rule body v) is (IsBegunLacking trace rule (AlwaysPlan node place low high body) i) begins there
        (λ same. (AlwaysPlan node place low high body, inl refl, (v, same), tt))
        (λ more holds behind. begun_inside body (AlwaysPlan node place low high body) i (λ end reached. inr reached) (begun body v more i holds behind))
    begun (UntilPlan node place low high left right) v is i begins there =
        begun_or_waits low right v (Begun trace rule right v is) (WithBehind (begun_now trace rule node low high v) (Begun trace rule left v) is)
        (IsBegunLacking trace rule (UntilPlan node place low high left right) i) begins
        (λ at_once. begun_inside right (UntilPlan node place low high left right) i (λ end reached. inr (inr reached)) (begun right v is i at_once there))
        (λ lacks waits. behind_it (begun_now trace rule node low high v) i (Begun trace rule left v) is (IsBegunLacking trace rule (UntilPlan node place low high left right) i) waits there
        (λ same. (UntilPlan node place low high left right, inl refl, (v, same), subst (λ (j : Instance). LacksAtOnce trace low right j.valuation) same lacks))
        (λ more holds behind. begun_inside left (UntilPlan node place low high left right) i (λ end reached. inr (inl reached)) (begun left v more i holds behind)))
    begun (NextPlan node place high body) v is i begins there =
        (NextPlan node place high body, inl refl, (v, only i (begun_now trace rule node 0 high v) is begins there), tt)

pub missed_is_reached : TriggersAreMet → MissedIsReached
missed_is_reached met trace plan v ls l missing there = missed met trace plan v ls l missing there

-- what is begun, with what its goal lacks
pub begun_lacking : TriggersAreMet → (trace : List Step) (rule : ℕ) (plan : Plan) (v : Valuation) (is : List Instance) (i : Instance)
    → Begun trace rule plan v is → Contains is i → IsBegunLacking trace rule plan i
begun_lacking met trace rule plan v is i begins there = begun met trace rule plan v is i begins there

pub begun_is_reached : TriggersAreMet → BegunIsReached
begun_is_reached met trace rule plan v is i begins there =
    let found = begun met trace rule plan v is i begins there in
    (found.0, found.1, found.2)

-- ---- instances

-- what a pending instance of a node asks of later positions: its body, or its sides
abbrev pub parts_of : Plan → List Plan
parts_of (EventuallyPlan node place low high body) = body ∷ []
parts_of (AlwaysPlan node place low high body) = body ∷ []
parts_of (UntilPlan node place low high left right) = left ∷ right ∷ []
parts_of (NextPlan node place high body) = body ∷ []
parts_of plan = []

-- a part of the first instance's node begins the second
abbrev pub BegunOf : List Plan → List Step → Instance → Instance → Type 0
BegunOf plans trace i j =
    (node part : Plan) × (node_of plans i ≡ Some node) × Contains (parts_of node) part × IsBegunLacking trace i.rule part j

-- it is the first one, which waits on where something is lacking of its goal in its window
abbrev pub GoesOn : List Plan → List Step → Instance → Instance → Type 0
GoesOn plans trace i j = (i ≡ j) × (node : Plan) × (node_of plans i ≡ Some node) × (IsNowIn trace i → LacksAt trace node i)

module _ (triggers_are_met : TriggersAreMet) (plans : List Plan) (trace : List Step) where
  begun_part : (node part : Plan) (i j : Instance) (after : List Instance) → node_of plans i ≡ Some node
      → Contains (parts_of node) part → Begun trace i.rule part i.valuation after → Contains after j → BegunOf plans trace i j
  begun_part node part i j after is at begins there =
      (node, part, is, at, begun triggers_are_met trace i.rule part i.valuation after j begins there)

  -- it waits, and what a part begins is after it
  waits_part : (node part : Plan) (i j : Instance) (after : List Instance) → node_of plans i ≡ Some node
      → Contains (parts_of node) part → WithBehind i (Begun trace i.rule part i.valuation) after → Contains after j
      → (IsNowIn trace i → LacksAt trace node i) → GoesOn plans trace i j ⊎ BegunOf plans trace i j
  waits_part node part i j after is at (more, begins, are) there lacks =
      ⊎_elim (λ same. inl (same, node, is, lacks)) (λ behind. inr (begun_part node part i j more is at begins behind))
      (first_or_later j i more (subst (λ (l : List Instance). Contains l j) are there))

  lacks_at_once : (low : ℕ) (goal : Plan) (v : Valuation) → LacksSome trace goal v → LacksAtOnce trace low goal v
  lacks_at_once zero goal v lacks = lacks
  lacks_at_once (suc low) goal v lacks = tt

  becomes_at : (node : Plan) (i j : Instance) (after : List Instance) → node_of plans i ≡ Some node
      → BecomesAt trace node i after → Contains after j → GoesOn plans trace i j ⊎ BegunOf plans trace i j
  becomes_at (EventuallyPlan node place low high body) i j after is becomes there =
      ⊎_elim (λ met. inr (begun_part (EventuallyPlan node place low high body) body i j after is (here body []) met.2 there))
      (λ waits. inl (only j i after waits.1 there, EventuallyPlan node place low high body, is, λ within. lacks_at_once low body i.valuation (waits.0 within))) becomes
  becomes_at (NextPlan node place high body) i j after is becomes there =
      inr (begun_part (NextPlan node place high body) body i j after is (here body []) becomes there)
  becomes_at (AlwaysPlan node place low high body) i j after is becomes there =
      ⊎_elim (λ early. inl (only j i after early.1 there, AlwaysPlan node place low high body, is, λ within. tt)) (λ others.
      ⊎_elim (λ inside. waits_part (AlwaysPlan node place low high body) body i j after is (here body []) inside.1 there (λ within. tt))
      (λ late. absurd (none_there j after late.2 there)) others) becomes
  becomes_at (UntilPlan node place low high left right) i j after is becomes there =
      ⊎_elim (λ met. inr (begun_part (UntilPlan node place low high left right) right i j after is (later right left (right ∷ []) (here right [])) met.2 there))
      (λ waits. waits_part (UntilPlan node place low high left right) left i j after is (here left (right ∷ [])) waits.1 there
      (λ within. lacks_at_once low right i.valuation (waits.0 within))) becomes
  becomes_at (CausePlan node place name terms) i j after is becomes there = absurd becomes
  becomes_at (SuppressPlan node place name terms) i j after is becomes there = absurd becomes
  becomes_at (Both node left right) i j after is becomes there = absurd becomes
  becomes_at (Either node left right) i j after is becomes there = absurd becomes
  becomes_at (TestOr node guard test body) i j after is becomes there = absurd becomes
  becomes_at (Guarded node xs guard test body) i j after is becomes there = absurd becomes

pub after_is_reached : TriggersAreMet → (plans : List Plan) (trace : List Step) (i j : Instance) (after : List Instance)
    → After plans trace i after → Contains after j → GoesOn plans trace i j ⊎ BegunOf plans trace i j
after_is_reached met plans trace i j after becomes there = by (node_of plans i) refl becomes
  where
    by : (found : Option Plan) → node_of plans i ≡ found → AtNode found (λ node. BecomesAt trace node i after)
        → GoesOn plans trace i j ⊎ BegunOf plans trace i j
    by None is b = absurd b
    by (Some node) is b = becomes_at met plans trace node i j after is b there

-- ---- where instances were begun

self : (plan end : Plan) (rest : List Plan) → plan ≡ end → Contains (plan ∷ rest) end
self plan end rest same = subst (Contains (plan ∷ rest)) same (here plan rest)

in_one : (plan body end : Plan) {Reached : Type 0} → (plan ≡ end) ⊎ Reached → (Reached → Contains (nodes body) end)
    → Contains (plan ∷ nodes body) end
in_one plan body end reached inside =
    ⊎_elim (self plan end (nodes body)) (λ r. later end plan (nodes body) (inside r)) reached

in_two : (plan left right end : Plan) {OnLeft OnRight : Type 0} → (plan ≡ end) ⊎ (OnLeft ⊎ OnRight)
    → (OnLeft → Contains (nodes left) end) → (OnRight → Contains (nodes right) end)
    → Contains (plan ∷ nodes left ++ nodes right) end
in_two plan left right end reached on_left on_right =
    ⊎_elim (self plan end (nodes left ++ nodes right))
    (λ r. later end plan (nodes left ++ nodes right) (⊎_elim
    (λ l. Contains-append_left (nodes left) (nodes right) end (on_left l))
    (λ r. Contains-append_right (nodes left) (nodes right) end (on_right r)) r)) reached

node_inside : (events : List Event) (plan end : Plan) → IsReachedBy events plan end → Contains (nodes plan) end
node_inside events (CausePlan node place name terms) end reached = self (CausePlan node place name terms) end [] reached
node_inside events (SuppressPlan node place name terms) end reached = self (SuppressPlan node place name terms) end [] reached
node_inside events (Both node left right) end reached =
    in_two (Both node left right) left right end reached (node_inside events left end) (node_inside events right end)
node_inside events (Either node left right) end reached =
    in_two (Either node left right) left right end reached (node_inside events left end) (node_inside events right end)
node_inside events (TestOr node guard test body) end reached =
    in_one (TestOr node guard test body) body end reached (node_inside events body end)
node_inside events (Guarded node xs guard test body) end reached =
    in_one (Guarded node xs guard test body) body end reached (λ r. node_inside events body end r.1)
node_inside events (EventuallyPlan node place low high body) end reached =
    in_one (EventuallyPlan node place low high body) body end reached (node_inside events body end)
node_inside events (AlwaysPlan node place low high body) end reached =
    in_one (AlwaysPlan node place low high body) body end reached (node_inside events body end)
node_inside events (UntilPlan node place low high left right) end reached =
    in_two (UntilPlan node place low high left right) left right end reached (node_inside events left end) (node_inside events right end)
node_inside events (NextPlan node place high body) end reached =
    in_one (NextPlan node place high body) body end reached (node_inside events body end)

pub reached_is_inside : ReachedIsInside
reached_is_inside events plan node reached = node_inside events plan node reached

named : (time position rule number low high : ℕ) (v : Valuation) (i : Instance)
    → begun_at time position rule number low high v ≡ i → (i.rule ≡ rule) × (i.node ≡ number)
named time position rule number low high v i same = (sym (ap (λ (k : Instance). k.rule) same), sym (ap (λ (k : Instance). k.node) same))

rule_and_node : (time position rule : ℕ) (node : Plan) (i : Instance) → IsBegunAt time position rule node i
    → (i.rule ≡ rule) × (i.node ≡ node_number node)
rule_and_node time position rule (EventuallyPlan node place low high body) i (v, same) = named time position rule node low high v i same
rule_and_node time position rule (AlwaysPlan node place low high body) i (v, same) = named time position rule node low high v i same
rule_and_node time position rule (UntilPlan node place low high left right) i (v, same) = named time position rule node low high v i same
rule_and_node time position rule (NextPlan node place high body) i (v, same) = named time position rule node 0 high v i same
rule_and_node time position rule (CausePlan node place name terms) i begins = absurd begins
rule_and_node time position rule (SuppressPlan node place name terms) i begins = absurd begins
rule_and_node time position rule (Both node left right) i begins = absurd begins
rule_and_node time position rule (Either node left right) i begins = absurd begins
rule_and_node time position rule (TestOr node guard test body) i begins = absurd begins
rule_and_node time position rule (Guarded node xs guard test body) i begins = absurd begins

pub begun_is_named : BegunIsNamed
begun_is_named plans events time position rule plan node i stands reached begins =
    let is = rule_and_node time position rule node i begins in (
      is.0,
      ap (λ (n : ℕ). node_in plans i.rule n) is.1 ∙ ap (λ (r : ℕ). node_in plans r (node_number node)) is.0
          ∙ AllByRecursion-contains (IsNodeByNumber plans rule) (nodes plan) node stands.named (node_inside events plan node reached),
    )

parts_inside : (node part end : Plan) → Contains (parts_of node) part → Contains (nodes part) end → Contains (nodes node) end
parts_inside (EventuallyPlan node place low high body) part end at there =
    from_one (EventuallyPlan node place low high body) body part end at there
parts_inside (AlwaysPlan node place low high body) part end at there =
    from_one (AlwaysPlan node place low high body) body part end at there
parts_inside (NextPlan node place high body) part end at there =
    from_one (NextPlan node place high body) body part end at there
parts_inside (UntilPlan node place low high left right) part end at there =
    later end (UntilPlan node place low high left right) (nodes left ++ nodes right) (⊎_elim
    (λ same. Contains-append_left (nodes left) (nodes right) end (subst (λ (p : Plan). Contains (nodes p) end) (sym same) there))
    (λ more. Contains-append_right (nodes left) (nodes right) end (subst (λ (p : Plan). Contains (nodes p) end) (sym (only part right (right ∷ []) refl more)) there))
    (first_or_later part left (right ∷ []) at))
parts_inside (CausePlan node place name terms) part end at there = absurd (none_in_nil part at)
parts_inside (SuppressPlan node place name terms) part end at there = absurd (none_in_nil part at)
parts_inside (Both node left right) part end at there = absurd (none_in_nil part at)
parts_inside (Either node left right) part end at there = absurd (none_in_nil part at)
parts_inside (TestOr node guard test body) part end at there = absurd (none_in_nil part at)
parts_inside (Guarded node xs guard test body) part end at there = absurd (none_in_nil part at)

pub part_stands : (plans : List Plan) (rule : ℕ) (node part : Plan) → StandsIn plans rule node → Contains (parts_of node) part
    → StandsIn plans rule part
part_stands plans rule node part stands at = record {
  back = within GuardLooksBack stands.back;
  named = within (IsNodeByNumber plans rule) stands.named;
}
  where
    within : (P : Plan → Type 0) → AllByRecursion P (nodes node) → AllByRecursion P (nodes part)
    within P all = AllByRecursion-from_contains P (nodes part)
        (λ end there. AllByRecursion-contains P (nodes node) end all (parts_inside node part end at there))

-- ---- along a trace

pub pend_came : PendCame
pend_came plans trace step after pend =
    let steps : length (trace ++ step ∷ []) ≡ suc (length trace) = omega (arith, length-append trace (step ∷ [])) in
    let last = subst (λ (n : ℕ). PendsBehind plans (trace ++ step ∷ []) n after) steps pend in (
      last.0,
      shorter_pends plans trace (step ∷ []) (length trace) (omega arith) last.0 last.1,
      subst (λ (front : List Step). PendingAfter plans front last.0 after) (whole trace step) last.2,
    )

module _ (first : FoundIsFirst) (met : TriggersAreMet) (plans : List Plan)
    (stand : PlansStand plans) (trace : List Step) where
  abbrev WasBegun : Instance → Type 0
  WasBegun i = (node : Plan) × (node_of plans i ≡ Some node) × (front more : List Step) × (front ++ more ≡ trace)
      × (0 < length front) × IsBegunBy front i.rule node i

  was_begun_here : (front more : List Step) → front ++ more ≡ trace → 0 < length front → (rule : ℕ) (plan : Plan) (i : Instance)
      → StandsIn plans rule plan → IsBegunIn front rule plan i → WasBegun i
  was_begun_here front more splits some rule plan i stands (node, reached, begins) =
      let is = begun_is_named plans (last_events front) (time_now front) (last_position front) rule plan node i stands reached begins in
      (node, is.1, front, more, splits, some, subst (λ (r : ℕ). IsBegunBy front r node i) (sym is.0) begins)

  was_begun : (n : ℕ) → n ≤ length trace → (pending : List Instance) → PendsBehind plans trace n pending → (i : Instance)
      → Contains pending i → WasBegun i
  was_begun zero le pending none i there = absurd (none_there i pending none there)
  was_begun (suc n) le pending (before, pend, (kept, begun, goes, begins, are)) i there =
      let splits : take (suc n) trace ++ drop (suc n) trace ≡ trace = take-append-drop (suc n) trace in
      let some : 0 < length (take (suc n) trace) = omega (arith, length-take-le (suc n) trace le) in
      ⊎_elim
      (λ front.
      let from = Gathers-contains (After plans (take (suc n) trace)) before kept i goes front in
      ⊎_elim
      (λ (on : GoesOn plans (take (suc n) trace) from.0 i). was_begun n (omega (arith, le)) before pend i (subst (λ (j : Instance). Contains before j) on.0 from.1))
      (λ (anew : BegunOf plans (take (suc n) trace) from.0 i).
      was_begun_here (take (suc n) trace) (drop (suc n) trace) splits some from.0.rule anew.1 i
      (part_stands plans from.0.rule anew.0 anew.1 (stands_found first plans stand from.0 anew.0 anew.2) anew.3) (anew.4.0, anew.4.1, anew.4.2))
      (after_is_reached met plans (take (suc n) trace) from.0 i from.2 from.3 from.4))
      (λ back.
      let root = BegunByRoots-contains (take (suc n) trace) 0 plans begun i begins back in
      let from : Begun (take (suc n) trace) root.0 root.1 no_values root.3 =
      subst (λ (r : ℕ). Begun (take (suc n) trace) r root.1 no_values root.3) {x = 0 + root.0} {y = root.0} (omega arith) root.4 in
      was_begun_here (take (suc n) trace) (drop (suc n) trace) splits some root.0 root.1 i (stand root.0 root.1 root.2)
      (begun_is_reached met (take (suc n) trace) root.0 root.1 no_values root.3 i from root.5))
      (Contains-append kept begun i (subst (λ (l : List Instance). Contains l i) are there))

pub pending_was_begun : FoundIsFirst → TriggersAreMet → PendingWasBegun
pending_was_begun first met plans trace pending i stand pend there =
    was_begun first met plans stand trace (length trace) (omega arith) pending pend i there
