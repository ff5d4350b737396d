-- That nothing is missed at a step, and what is begun there is met after it, is enough: by induction over plans.
use Rattle.obligations.proofs.Vocabulary.{◌≡◌, ℕ, zero, suc, ◌+◌, ◌<◌, ◌≤◌, Bool, true, false, List, [], ◌∷◌, ◌++◌, length, Contains, Option, None, Some, IsTrue, refl, sym, ap, subst, arith, inl, inr}
use Rattle.obligations.proofs.Vocabulary.{⊎_elim, ◌⊎◌, length-append, AllByRecursion, cases_lt, All-contains, get_or_append_left, step_at, no_step, Valuation, values_of_terms, with_values, NameId}
use Rattle.obligations.proofs.Vocabulary.{Step, VarId, Value, Formula, HoldsUntil, IsEventAmong, Sat, elapsed, PastDecides, is_past, IsIn, AllByRecursion-contains, nil_not_cons, has_future, nodes}
use Rattle.obligations.proofs.Vocabulary.{node_number, has_deadline, formula_for, interval_from_to, Plan, CausePlan, SuppressPlan, Both, Either, TestOr, Guarded, EventuallyPlan, AlwaysPlan, UntilPlan}
use Rattle.obligations.proofs.Vocabulary.{NextPlan, Begun, LacksNothing, LacksSome, TakesOrElse, IfElse, begun_now, time_now, Missing, HasSome, IsAbsent, IsPresent, LiteralUnless, MissesEither}
use Rattle.obligations.proofs.Vocabulary.{MissesUntil, OfEvent, cause_literal, suppress_literal, Gathers, last_position, GuardLooksBack, IsNodeByNumber, MissingIsOne, RowsAreOne, AtNode, BecomesAt}
use Rattle.obligations.proofs.Vocabulary.{IsNowIn, MissesAt, node_of, Residual, OwesAt, IsPositionLeft, Instance, Literal}
use Rattle.obligations.proofs.MissingLeafLemmas.{cause_absent, no_cons, some_row, suppress_present}

pub nil_left : {X : Type 0} (xs ys : List X) → [] ≡ xs ++ ys → xs ≡ []
nil_left [] ys same = refl
nil_left (x ∷ xs) ys same = let n : 0 ≡ length (x ∷ (xs ++ ys)) = ap length same in absurd (omega arith)

pub nil_right : {X : Type 0} (xs ys : List X) → [] ≡ xs ++ ys → ys ≡ []
nil_right [] ys same = sym same
nil_right (x ∷ xs) ys same = let n : 0 ≡ length (x ∷ (xs ++ ys)) = ap length same in absurd (omega arith)

-- of all of two lists, all of each
pub all_left : {X : Type 0} (P : X → Type 0) (xs ys : List X) → AllByRecursion P (xs ++ ys) → AllByRecursion P xs
all_left P [] ys all = tt
all_left P (x ∷ xs) ys all = (all.0, all_left P xs ys all.1)

pub all_right : {X : Type 0} (P : X → Type 0) (xs ys : List X) → AllByRecursion P (xs ++ ys) → AllByRecursion P ys
all_right P [] ys all = all
all_right P (x ∷ xs) ys all = all_right P xs ys all.1

-- a leaf that misses nothing
cause_present : (trace : List Step) (name : NameId) (node : ℕ) (args : Option (List Value))
    → OfEvent name args (λ e. LiteralUnless (IsPresent trace e) (cause_literal e node) [])
    → IsEventAmong (step_at trace (last_position trace)).events name args
cause_present trace name node None missing = missing
cause_present trace name node (Some args) missing =
    ⊎_elim (λ present. present.0) (λ absent. absurd (nil_not_cons _ [] absent.1)) missing

suppress_absent : (trace : List Step) (name : NameId) (node : ℕ) (args : Option (List Value))
    → OfEvent name args (λ e. LiteralUnless (IsAbsent trace e) (suppress_literal e node) [])
    → IsEventAmong (step_at trace (last_position trace)).events name args → ⊥
suppress_absent trace name node None missing = λ among. among
suppress_absent trace name node (Some args) missing =
    ⊎_elim (λ absent. absent.0) (λ present. absurd (nil_not_cons _ [] present.1)) missing

-- a side that is taken if it does not look ahead
pub taken : (ahead : Bool) (trace : List Step) (side : Plan) (v : Valuation) {Begins Else : Type 0}
    → IfElse ahead Else (TakesOrElse trace side v Begins Else) → (LacksNothing trace side v × Begins) ⊎ Else
taken true trace side v next = inr next
taken false trace side v next = ⊎_elim (λ begins. inl begins) (λ passed. inr passed.1) next

module _ (past : PastDecides) (rows_are_one : RowsAreOne) (missing_is_one : MissingIsOne)
    (plans : List Plan) (rule : ℕ) (trace more : List Step) (some : 0 < length trace) where
  abbrev now : ℕ
  now = last_position trace

  abbrev longer : List Step
  longer = trace ++ more

  abbrev Owed : Instance → Type 0
  Owed i = Residual plans longer (length trace) i

  same_step : step_at longer now ≡ step_at trace now
  same_step = get_or_append_left trace more no_step now (omega arith)

  same_time : (step_at longer now).time ≡ time_now trace
  same_time = ap (λ (s : Step). s.time) same_step

  there : now < length longer
  there = omega (arith, length-append trace more)

  -- a guard holds on both traces, or on none
  ahead : (v : Valuation) (f : Formula) → IsTrue (is_past f) → Sat trace now v f → Sat longer now v f
  ahead v f back = (past trace longer now v f back (λ k le. sym (get_or_append_left trace more no_step k (omega (arith, le))))).0

  behind : (v : Valuation) (f : Formula) → IsTrue (is_past f) → Sat longer now v f → Sat trace now v f
  behind v f back = (past trace longer now v f back (λ k le. sym (get_or_append_left trace more no_step k (omega (arith, le))))).1

  only : (i : Instance) (begun : List Instance) → begun ≡ i ∷ [] → AllByRecursion Owed begun → Owed i
  only i begun are owed = (subst (AllByRecursion Owed) {y = i ∷ []} are owed).0

  both : (plan : Plan) (v : Valuation) → LacksNothing trace plan v → LacksSome trace plan v → ⊥
  both plan v nothing lacks = nil_not_cons lacks.0 lacks.1 (missing_is_one trace plan v [] (lacks.0 ∷ lacks.1) nothing lacks.2)

  -- where nothing is missing of a body that begins something, its formula holds
  abbrev IsEnough : Plan → Type 0
  IsEnough plan = (v : Valuation) (begun : List Instance) → Missing trace plan v [] → Begun trace rule plan v begun
      → AllByRecursion Owed begun → Sat longer now v (formula_for plan)

  at_rows : (body : Plan) → IsEnough body → (v : Valuation) (xs : List VarId) (rows : List (List Value))
      (begun : List Instance) → Gathers (λ row. Missing trace body (with_values xs row v)) rows []
      → Gathers (λ row. Begun trace rule body (with_values xs row v)) rows begun → AllByRecursion Owed begun
      → AllByRecursion (λ row. Sat longer now (with_values xs row v) (formula_for body)) rows
  at_rows body enough v xs [] begun missing begins owed = tt
  at_rows body enough v xs (row ∷ rows) begun (first, rest, misses, others, lists) (begun1, begun2, begins, behinds, are) owed =
      let owed' : AllByRecursion Owed (begun1 ++ begun2) = subst (AllByRecursion Owed) are owed in
      let misses' = subst (Missing trace body (with_values xs row v)) (nil_left first rest lists) misses in
      let others' = subst (Gathers (λ row. Missing trace body (with_values xs row v)) rows) (nil_right first rest lists) others in (
        enough (with_values xs row v) begun1 misses' begins (all_left Owed begun1 begun2 owed'),
        at_rows body enough v xs rows begun2 others' behinds (all_right Owed begun1 begun2 owed'),
      )

  -- what is owed to an instance that is begun here
  owed_to : (node : Plan) (low high : ℕ) (v : Valuation) → IsNodeByNumber plans rule node
      → Owed (begun_now trace rule (node_number node) low high v)
      → OwesAt longer (length trace) node (begun_now trace rule (node_number node) low high v)
  owed_to node low high v named owed =
      subst (λ (found : Option Plan). AtNode found (λ n. OwesAt longer (length trace) n (begun_now trace rule (node_number node) low high v))) named owed

  at_row : (xs : List VarId) (body : Plan) (v : Valuation) (rows : List (List Value)) (row : List Value)
      → AllByRecursion (λ r. Sat longer now (with_values xs r v) (formula_for body)) rows → Contains rows row
      → Sat longer now (with_values xs row v) (formula_for body)
  at_row xs body v rows row all within =
      AllByRecursion-contains (λ r. Sat longer now (with_values xs r v) (formula_for body)) rows row all within

  -- a position after the present one, in the window of an instance that is begun here
  in_window : (node : ℕ) (low high : ℕ) (v : Valuation) (j : ℕ)
      → IsPositionLeft longer (begun_now trace rule node low high v) (length trace) j
      → IsIn (interval_from_to low high) (elapsed longer now j)
  in_window node low high v j left =
      let lower = left.in_window.0 in let upper = left.in_window.1 in
      (omega (arith, same_time, lower, upper), omega (arith, same_time, lower, upper))

  is_left : (node : ℕ) (low high : ℕ) (v : Valuation) (j : ℕ) → length trace ≤ j → j < length longer
      → (step_at longer now).time ≤ (step_at longer j).time
      → IsIn (interval_from_to low high) (elapsed longer now j)
      → IsPositionLeft longer (begun_now trace rule node low high v) (length trace) j
  is_left node low high v j from below later within = record {
    from_there = from;
    is_there = below;
    in_window = (omega (arith, same_time, later, within.0), omega (arith, same_time, later, within.1));
  }

  -- an eventually is met here or waits
  enough_eventually : (node place low high : ℕ) (body : Plan) → IsNodeByNumber plans rule (EventuallyPlan node place low high body)
      → (v : Valuation) → Owed (begun_now trace rule node low high v)
      → Sat longer now v (formula_for (EventuallyPlan node place low high body))
  enough_eventually node place low high body named v owed never =
      owed_to (EventuallyPlan node place low high body) low high v named owed (λ met.
      never (met.0, omega (arith, met.1.from_there), met.1.is_there, in_window node low high v met.0 met.1, met.2, λ k from before. tt))

  enough_next : (node place high : ℕ) (body : Plan) → IsNodeByNumber plans rule (NextPlan node place high body)
      → (v : Valuation) → Owed (begun_now trace rule node 0 high v)
      → Sat longer now v (formula_for (NextPlan node place high body))
  enough_next node place high body named v owed =
      let met = owed_to (NextPlan node place high body) 0 high v named owed in
      let at : length trace ≡ now + 1 = omega arith in
      let upper = met.1 in
      let time : (step_at longer (length trace)).time ≡ (step_at longer (now + 1)).time = ap (λ j. (step_at longer j).time) at in (
        omega (arith, met.0),
        (omega arith, omega (arith, same_time, upper, time)),
        subst (λ j. Sat longer j v (formula_for body)) at met.2,
      )

  no_side : (left right : Plan) (v : Valuation) → MissesEither (Missing trace left v) (Missing trace right v) []
      → LacksSome trace left v → LacksSome trace right v → ⊥
  no_side left right v missing on_left on_right =
      ⊎_elim
      (λ nothing. both left v nothing.0 on_left)
      (λ other. ⊎_elim (λ nothing. both right v nothing.0 on_right) (λ lacks. both right v lacks.2 on_right) other)
      missing

  -- each position from the present one on is the present one or one after it
  now_or_behind : (j : ℕ) → now ≤ j → (now ≡ j) ⊎ (length trace ≤ j)
  now_or_behind j from = ⊎_elim (λ (l : j < length trace). inl (omega (arith, from, l))) (λ g. inr g) (cases_lt j (length trace))

  -- at no distance from the present position
  at_once : (low high : ℕ) → low ≡ 0 → IsIn (interval_from_to low high) (elapsed longer now now)
  at_once low high is = (omega (arith, is), omega arith)

  -- ---- what misses something is lost

  abbrev IsLost : Plan → Type 0
  IsLost plan = (v : Valuation) (l : Literal) (ls : List Literal) → Missing trace plan v (l ∷ ls)
      → Sat longer now v (formula_for plan) → ⊥

  lost_both : (left right : Plan) → IsLost left → IsLost right → (v : Valuation) (l : Literal) (ls first rest : List Literal)
      → Missing trace left v first → Missing trace right v rest → l ∷ ls ≡ first ++ rest
      → Sat longer now v (formula_for left) → Sat longer now v (formula_for right) → ⊥
  lost_both left right on_left on_right v l ls [] rest misses others are holds too =
      on_right v l ls (subst (Missing trace right v) (sym are) others) too
  lost_both left right on_left on_right v l ls (k ∷ ks) rest misses others are holds too = on_left v k ks misses holds

  lost_until : (low high : ℕ) (left right : Plan) → IsLost left → IsLost right → (v : Valuation) (l : Literal)
      (ls : List Literal) → MissesUntil low (Missing trace left v) (Missing trace right v) (l ∷ ls)
      → HoldsUntil longer now (interval_from_to low high) (λ k. Sat longer k v (formula_for left)) (λ j. Sat longer j v (formula_for right))
      → ⊥
  lost_until zero high left right on_left on_right v l ls missing holds =
      ⊎_elim
      (λ nothing. no_cons l ls nothing.1)
      (λ (lacks : HasSome (Missing trace right v) × Missing trace left v (l ∷ ls)). holds (λ met.
      ⊎_elim
      (λ (same : now ≡ met.0). on_right v lacks.0.0 lacks.0.1 lacks.0.2 (subst (λ j. Sat longer j v (formula_for right)) (sym same) met.4))
      (λ later. on_left v l ls lacks.1 (met.5 now (omega arith) (omega (arith, later))))
      (now_or_behind met.0 met.1)))
      missing
  lost_until (suc low) high left right on_left on_right v l ls missing holds = holds (λ met.
      ⊎_elim
      (λ (same : now ≡ met.0). let time : (step_at longer now).time ≡ (step_at longer met.0).time = ap (λ j. (step_at longer j).time) same in let low_end = met.3.0 in omega (arith, time, low_end))
      (λ later. on_left v l ls missing (met.5 now (omega arith) (omega (arith, later))))
      (now_or_behind met.0 met.1))

  pub lost : (plan : Plan) → AllByRecursion GuardLooksBack (nodes plan) → IsLost plan
  lost (CausePlan node place name terms) back v l ls missing holds =
      cause_absent trace name node (values_of_terms v terms) l ls missing (subst (λ (s : Step). IsEventAmong s.events name (values_of_terms v terms)) same_step holds)
  lost (SuppressPlan node place name terms) back v l ls missing holds =
      suppress_present trace name node (values_of_terms v terms) l ls missing (λ among. holds (subst (λ (s : Step). IsEventAmong s.events name (values_of_terms v terms)) (sym same_step) among))
  lost (Both node left right) back v l ls (first, rest, misses, others, are) holds =
      lost_both left right (lost left (all_left GuardLooksBack (nodes left) (nodes right) back.1)) (lost right (all_right GuardLooksBack (nodes left) (nodes right) back.1)) v l ls first
      rest misses others are holds.0 holds.1
  lost (Either node left right) back v l ls missing holds =
      ⊎_elim
      (λ nothing. no_cons l ls nothing.1)
      (λ other. ⊎_elim
      (λ nothing. no_cons l ls nothing.1)
      (λ lacks. holds (lost left (all_left GuardLooksBack (nodes left) (nodes right) back.1) v lacks.0.0 lacks.0.1 lacks.0.2)
      (lost right (all_right GuardLooksBack (nodes left) (nodes right) back.1) v lacks.1.0 lacks.1.1 lacks.1.2))
      other)
      missing
  lost (TestOr node guard test body) back v l ls missing holds =
      ⊎_elim
      (λ met. no_cons l ls met.1)
      (λ fails. holds (λ test_holds. fails.0 (behind v test back.0 test_holds)) (lost body back.1 v l ls fails.1))
      missing
  lost (Guarded node xs guard test body) back v l ls (rows, are, gathered) holds =
      let some_lacks = some_row (λ row. Missing trace body (with_values xs row v)) rows l ls gathered in
      let row = some_lacks.0 in
      let fits = All-contains (λ (r : List Value). length r ≡ length xs) rows row are.fit some_lacks.1 in
      lost body back.1 (with_values xs row v) some_lacks.2.0 some_lacks.2.1 some_lacks.2.2
      (holds row fits (ahead (with_values xs row v) test back.0 ((are.are row fits).0 some_lacks.1)))
  lost (EventuallyPlan node place low high body) back v l ls missing holds = no_cons l ls missing
  lost (AlwaysPlan node place zero high body) back v l ls missing holds =
      holds (λ never. never (now, omega arith, there, at_once 0 high refl, lost body back.1 v l ls missing, λ k from before. tt))
  lost (AlwaysPlan node place (suc low) high body) back v l ls missing holds = no_cons l ls missing
  lost (UntilPlan node place low high left right) back v l ls missing holds =
      lost_until low high left right (lost left (all_left GuardLooksBack (nodes left) (nodes right) back.1)) (lost right (all_right GuardLooksBack (nodes left) (nodes right) back.1)) v l ls
      missing holds
  lost (NextPlan node place high body) back v l ls missing holds = no_cons l ls missing

  -- ---- what is met after the present position

  module _ (ordered : (j : ℕ) → now ≤ j → j < length longer → (step_at longer now).time ≤ (step_at longer j).time) where
    enough_always : (node place low high : ℕ) (body : Plan) → IsNodeByNumber plans rule (AlwaysPlan node place low high body)
        → (v : Valuation) → Owed (begun_now trace rule node low high v)
        → (low ≡ 0 → Sat longer now v (formula_for body))
        → Sat longer now v (formula_for (AlwaysPlan node place low high body))
    enough_always node place low high body named v owed at_first broken =
        let later = owed_to (AlwaysPlan node place low high body) low high v named owed in
        broken (λ some.
        ⊎_elim
        (λ (same : now ≡ some.0). some.4 (subst (λ j. Sat longer j v (formula_for body)) same
        (at_first (let time : (step_at longer now).time ≡ (step_at longer some.0).time = ap (λ j. (step_at longer j).time) same in let low_end = some.3.0 in omega
        (arith, time, low_end)))))
        (λ from. some.4 (later some.0 (is_left node low high v some.0 from some.2 (ordered some.0 some.1 some.2) some.3)))
        (now_or_behind some.0 some.1))

    enough_until : (node place low high : ℕ) (left right : Plan)
        → IsNodeByNumber plans rule (UntilPlan node place low high left right)
        → (v : Valuation) → Owed (begun_now trace rule node low high v) → Sat longer now v (formula_for left)
        → Sat longer now v (formula_for (UntilPlan node place low high left right))
    enough_until node place low high left right named v owed holds never =
        owed_to (UntilPlan node place low high left right) low high v named owed (λ met.
        never (
          met.0,
          omega (arith, met.1.from_there),
          met.1.is_there,
          in_window node low high v met.0 met.1,
          met.2,
          λ k from before.
              ⊎_elim
              (λ (same : now ≡ k). subst (λ j. Sat longer j v (formula_for left)) same holds)
              (λ later. met.3 k later before)
              (now_or_behind k from),
        ))

    -- where the right side lacks something, an until that misses nothing misses nothing on the left
    left_holds : (low : ℕ) (left right : Plan) (v : Valuation) → LacksSome trace right v
        → MissesUntil low (Missing trace left v) (Missing trace right v) [] → LacksNothing trace left v
    left_holds zero left right v lacks missing =
        ⊎_elim (λ nothing. absurd (both right v nothing.0 lacks)) (λ waits. waits.1) missing
    left_holds (suc low) left right v lacks missing = missing

    pub enough : (plan : Plan) → AllByRecursion GuardLooksBack (nodes plan) → AllByRecursion (IsNodeByNumber plans rule) (nodes plan)
        → IsEnough plan
    enough (CausePlan node place name terms) back named v begun missing begins owed =
        subst (λ (s : Step). IsEventAmong s.events name (values_of_terms v terms)) (sym same_step) (cause_present trace name node (values_of_terms v terms) missing)
    enough (SuppressPlan node place name terms) back named v begun missing begins owed = λ among.
        suppress_absent trace name node (values_of_terms v terms) missing (subst (λ (s : Step). IsEventAmong s.events name (values_of_terms v terms)) same_step among)
    enough (Both node left right) back named v begun (first, rest, misses, others, lists) (begun1, begun2, begins, behinds, are) owed =
        let owed' : AllByRecursion Owed (begun1 ++ begun2) = subst (AllByRecursion Owed) are owed in (
          enough left (all_left GuardLooksBack (nodes left) (nodes right) back.1) (all_left (IsNodeByNumber plans rule) (nodes left) (nodes right) named.1) v begun1
              (subst (Missing trace left v) (nil_left first rest lists) misses) begins (all_left Owed begun1 begun2 owed'),
          enough right (all_right GuardLooksBack (nodes left) (nodes right) back.1) (all_right (IsNodeByNumber plans rule) (nodes left) (nodes right) named.1) v begun2
              (subst (Missing trace right v) (nil_right first rest lists) others) behinds (all_right Owed begun1 begun2 owed'),
        )
    enough (Either node left right) back named v begun missing begins owed =
        let on_left : LacksNothing trace left v × Begun trace rule left v begun → Sat longer now v (formula_for left) = λ side. enough left
        (all_left GuardLooksBack (nodes left) (nodes right) back.1) (all_left (IsNodeByNumber plans rule) (nodes left) (nodes right) named.1) v begun side.0 side.1 owed in
        let on_right : LacksNothing trace right v × Begun trace rule right v begun → Sat longer now v (formula_for right) = λ side. enough right
        (all_right GuardLooksBack (nodes left) (nodes right) back.1) (all_right (IsNodeByNumber plans rule) (nodes left) (nodes right) named.1) v begun side.0 side.1 owed in
        λ not_left not_right.
        ⊎_elim
        (λ side. not_right (on_right side))
        (λ second. ⊎_elim
        (λ side. not_left (on_left side))
        (λ third. ⊎_elim
        (λ side. not_right (on_right side))
        (λ fourth. ⊎_elim
        (λ side. not_left (on_left side))
        (λ neither. no_side left right v missing neither.0 fourth.0)
        fourth.1)
        third)
        (taken (has_future left) trace left v second))
        (taken (has_future right) trace right v begins)
    enough (TestOr node guard test body) back named v begun missing begins owed = λ no_test no_body.
        ⊎_elim
        (λ holds. no_test (ahead v test back.0 holds.0))
        (λ fails. ⊎_elim
        (λ holds. fails.0 holds.0)
        (λ more. no_body (enough body back.1 named.1 v begun more.1 fails.1 owed))
        missing)
        begins
    enough (Guarded node xs guard test body) back named v begun (rows, are, missing) (others, too, begins) owed = λ values fits holds.
        let same : others ≡ rows = rows_are_one trace v xs test others rows too are in
        let begins' = subst (λ r. Gathers (λ row. Begun trace rule body (with_values xs row v)) r begun) same begins in
        at_row xs body v rows values
        (at_rows body (enough body back.1 named.1) v xs rows begun missing begins' owed)
        ((are.are values fits).1 (behind (with_values xs values v) test back.0 holds))
    enough (EventuallyPlan node place zero high body) back named v begun missing begins owed =
        ⊎_elim
        (λ met. λ never. never (now, omega arith, there, at_once 0 high refl, enough body back.1 named.1 v begun met.0 met.1 owed, λ k from before. tt))
        (λ waits. enough_eventually node place zero high body named.0 v (only _ begun waits.1 owed))
        begins
    enough (EventuallyPlan node place (suc low) high body) back named v begun missing begins owed =
        enough_eventually node place (suc low) high body named.0 v (only _ begun begins owed)
    enough (AlwaysPlan node place zero high body) back named v begun missing (behinds, begins, are) owed =
        let owed' = subst (AllByRecursion Owed) are owed in
        enough_always node place zero high body named.0 v owed'.0 (λ is. enough body back.1 named.1 v behinds missing begins owed'.1)
    enough (AlwaysPlan node place (suc low) high body) back named v begun missing begins owed =
        enough_always node place (suc low) high body named.0 v (only _ begun begins owed) (λ is. absurd (omega (arith, is)))
    enough (UntilPlan node place zero high left right) back named v begun missing begins owed =
        ⊎_elim
        (λ met. λ never. never (
          now,
          omega arith,
          there,
          at_once 0 high refl,
          enough right (all_right GuardLooksBack (nodes left) (nodes right) back.1)
              (all_right (IsNodeByNumber plans rule) (nodes left) (nodes right) named.1) v begun met.0 met.1 owed,
          λ k from before. absurd (omega (arith, from, before)),
        ))
        (λ waits.
        let owed' = subst (AllByRecursion Owed) waits.1.2 owed in
        enough_until node place zero high left right named.0 v owed'.0
        (enough left (all_left GuardLooksBack (nodes left) (nodes right) back.1) (all_left (IsNodeByNumber plans rule) (nodes left) (nodes right) named.1) v waits.1.0
        (left_holds zero left right v waits.0 missing) waits.1.1 owed'.1))
        begins
    enough (UntilPlan node place (suc low) high left right) back named v begun missing (behinds, begins, are) owed =
        let owed' = subst (AllByRecursion Owed) are owed in
        enough_until node place (suc low) high left right named.0 v owed'.0
        (enough left (all_left GuardLooksBack (nodes left) (nodes right) back.1) (all_left (IsNodeByNumber plans rule) (nodes left) (nodes right) named.1) v behinds missing begins owed'.1)
    enough (NextPlan node place high body) back named v begun missing begins owed =
        enough_next node place high body named.0 v (only _ begun begins owed)

    -- a position of the window at or after the present one
    here : (i : Instance) → IsNowIn trace i → IsPositionLeft longer i now now
    here i inside = record {
      from_there = omega arith;
      is_there = there;
      in_window = (omega (arith, same_time, inside.0), omega (arith, same_time, inside.1));
    }

    from_now : (i : Instance) (j : ℕ) → IsPositionLeft longer i (length trace) j → IsPositionLeft longer i now j
    from_now i j left = record {
      from_there = let from = left.from_there in omega (arith, from);
      is_there = left.is_there;
      in_window = left.in_window;
    }

    is_behind : (i : Instance) (j : ℕ) → length trace ≤ j → IsPositionLeft longer i now j → IsPositionLeft longer i (length trace) j
    is_behind i j from left = record { from_there = from; is_there = left.is_there; in_window = left.in_window }

    at_now : (i : Instance) → IsPositionLeft longer i now now → IsNowIn trace i
    at_now i left =
        let lower = left.in_window.0 in let upper = left.in_window.1 in
        (omega (arith, same_time, lower), omega (arith, same_time, upper))

    owed_of : (node : Plan) (i : Instance) → node_of plans i ≡ Some node → Owed i → OwesAt longer (length trace) node i
    owed_of node i found owed =
        subst (λ (n : Option Plan). AtNode n (λ m. OwesAt longer (length trace) m i)) found owed

    -- what is owed after the present position to an eventually is owed from it on
    eventually_later : (node place low high : ℕ) (body : Plan) (i : Instance)
        → OwesAt longer (length trace) (EventuallyPlan node place low high body) i
        → OwesAt longer now (EventuallyPlan node place low high body) i
    eventually_later node place low high body i owed never = owed (λ met. never (met.0, from_now i met.0 met.1, met.2))

    always_later : (node place low high : ℕ) (body : Plan) (i : Instance)
        → OwesAt longer (length trace) (AlwaysPlan node place low high body) i
        → (IsNowIn trace i → Sat longer now i.valuation (formula_for body))
        → OwesAt longer now (AlwaysPlan node place low high body) i
    always_later node place low high body i owed holds j left =
        ⊎_elim
        (λ (same : now ≡ j). subst (λ k. Sat longer k i.valuation (formula_for body)) same (holds (at_now i (subst (IsPositionLeft longer i now) (sym same) left))))
        (λ behind. owed j (is_behind i j behind left))
        (now_or_behind j left.from_there)

    until_later : (node place low high : ℕ) (left right : Plan) (i : Instance)
        → OwesAt longer (length trace) (UntilPlan node place low high left right) i
        → Sat longer now i.valuation (formula_for left)
        → OwesAt longer now (UntilPlan node place low high left right) i
    until_later node place low high left right i owed holds never = owed (λ met. never (
      met.0,
      from_now i met.0 met.1,
      met.2,
      λ k from before.
          ⊎_elim
          (λ (same : now ≡ k). subst (λ j. Sat longer j i.valuation (formula_for left)) same holds)
          (λ later. met.3 k later before)
          (now_or_behind k from),
    ))

    module _ (i : Instance) (named_rule : i.rule ≡ rule) where
      abbrev Meets : Plan → Type 0
      Meets node = (after : List Instance) → MissesAt trace node i false [] → (has_deadline node ≡ true → time_now trace ≤ i.high)
          → BecomesAt trace node i after → AllByRecursion Owed after → OwesAt longer now node i

      -- what the body of an instance's node begins
      body_holds : (body : Plan) → AllByRecursion GuardLooksBack (nodes body) → AllByRecursion (IsNodeByNumber plans rule) (nodes body)
          → (begun : List Instance) → LacksNothing trace body i.valuation → Begun trace i.rule body i.valuation begun
          → AllByRecursion Owed begun → Sat longer now i.valuation (formula_for body)
      body_holds body back named begun nothing begins owed =
          enough body back named i.valuation begun nothing (subst (λ r. Begun trace r body i.valuation begun) named_rule begins) owed

      pub meets_eventually : (node place low high : ℕ) (body : Plan)
          → node_of plans i ≡ Some (EventuallyPlan node place low high body)
          → AllByRecursion GuardLooksBack (nodes body) → AllByRecursion (IsNodeByNumber plans rule) (nodes body)
          → Meets (EventuallyPlan node place low high body)
      meets_eventually node place low high body found back named after misses deadline becomes owed =
          ⊎_elim
          (λ met. λ never. never (now, here i met.0, body_holds body back named after met.1 met.2 owed))
          (λ waits. eventually_later node place low high body i (owed_of (EventuallyPlan node place low high body) i found (only i after waits.1 owed)))
          becomes

      pub meets_next : (node place high : ℕ) (body : Plan)
          → AllByRecursion GuardLooksBack (nodes body) → AllByRecursion (IsNodeByNumber plans rule) (nodes body)
          → Meets (NextPlan node place high body)
      meets_next node place high body back named after misses deadline becomes owed =
          (there, (let in_time = deadline refl in omega (arith, same_time, in_time)), body_holds body back named after misses becomes owed)

      always_misses : (body : Plan) → IsNowIn trace i
          → (IsNowIn trace i × Missing trace body i.valuation []) ⊎ ((IsNowIn trace i → ⊥) × (◌≡◌ {A = List Literal} [] []))
          → LacksNothing trace body i.valuation
      always_misses body inside misses = ⊎_elim (λ nothing. nothing.1) (λ outside. absurd (outside.0 inside)) misses

      pub meets_always : (node place low high : ℕ) (body : Plan)
          → node_of plans i ≡ Some (AlwaysPlan node place low high body)
          → AllByRecursion GuardLooksBack (nodes body) → AllByRecursion (IsNodeByNumber plans rule) (nodes body)
          → Meets (AlwaysPlan node place low high body)
      meets_always node place low high body found back named after misses deadline becomes owed =
          ⊎_elim
          (λ early. always_later node place low high body i (owed_of (AlwaysPlan node place low high body) i found (only i after early.1 owed))
          (λ inside. let first = inside.0 in let early_is = early.0 in absurd (omega (arith, first, early_is))))
          (λ rest. ⊎_elim
          (λ inside.
          let owed' = subst (AllByRecursion Owed) {y = i ∷ inside.1.0} inside.1.2 owed in
          always_later node place low high body i (owed_of (AlwaysPlan node place low high body) i found owed'.0)
          (λ within. body_holds body back named inside.1.0 (always_misses body within misses) inside.1.1 owed'.1))
          (λ over. λ j left. let upper = left.in_window.1 in let late = over.1 in let order = ordered j left.from_there left.is_there in absurd (omega (arith, upper, late, order, same_time)))
          rest)
          becomes

      until_misses : (left right : Plan) → (IsNowIn trace i → LacksSome trace right i.valuation)
          → (IsNowIn trace i × LacksNothing trace right i.valuation × (◌≡◌ {A = List Literal} [] []))
          ⊎ ((IsNowIn trace i → LacksSome trace right i.valuation) × Missing trace left i.valuation [])
          → LacksNothing trace left i.valuation
      until_misses left right lacks misses =
          ⊎_elim (λ met. absurd (both right i.valuation met.1 (lacks met.0))) (λ waits. waits.1) misses

      pub meets_until : (node place low high : ℕ) (left right : Plan)
          → node_of plans i ≡ Some (UntilPlan node place low high left right)
          → AllByRecursion GuardLooksBack (nodes left) → AllByRecursion (IsNodeByNumber plans rule) (nodes left)
          → AllByRecursion GuardLooksBack (nodes right) → AllByRecursion (IsNodeByNumber plans rule) (nodes right)
          → Meets (UntilPlan node place low high left right)
      meets_until node place low high left right found back_left named_left back_right named_right after misses deadline becomes owed =
          ⊎_elim
          (λ met. λ never. never (now, here i met.0, body_holds right back_right named_right after met.1 met.2 owed, λ k from before. absurd (omega (arith, from, before))))
          (λ waits.
          let owed' = subst (AllByRecursion Owed) {y = i ∷ waits.1.0} waits.1.2 owed in
          until_later node place low high left right i (owed_of (UntilPlan node place low high left right) i found owed'.0)
          (body_holds left back_left named_left waits.1.0 (until_misses left right waits.0 misses) waits.1.1 owed'.1))
          becomes
