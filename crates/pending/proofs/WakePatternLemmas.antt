-- An instance that waits for events misses nothing, and becomes itself, while none of them is there.
use Rattle.pending.proofs.Vocabulary.{◌≡◌, ℕ, zero, suc, ◌≤◌, Bool, true, false, List, [], ◌∷◌, ◌++◌, Option, None, Some, Contains, ◌⊎◌, ⊎_elim, refl, sym, ap, subst, ◌∙◌, arith, length, none-some}
use Rattle.pending.proofs.Vocabulary.{here, Valuation, values_of_terms, with_values, NameId, Step, Term, VarId, Value, Formula, Plan, CausePlan, SuppressPlan, Both, Either, TestOr, Guarded}
use Rattle.pending.proofs.Vocabulary.{EventuallyPlan, AlwaysPlan, UntilPlan, NextPlan, HasNone, Pattern, CanAskNode, CanAskOf, Begun, LacksNothing, TakesOrElse, TakesPresent, IfElse, time_now}
use Rattle.pending.proofs.Vocabulary.{Missing, OfEvent, LiteralUnless, cause_literal, suppress_literal, AreGuardRows, Gathers, last_position, After, AtNode, BecomesAt, MissesAt, MissingOf}
use Rattle.pending.proofs.Vocabulary.{IsWindowNotOver, InstanceSleeps, wake_patterns_at, wake_patterns_of, pattern_of, met_by, missed_by, waiting_patterns, fails_without, holds_without, BringsFresh}
use Rattle.pending.proofs.Vocabulary.{AtEach-weaker, Instance, Literal, IsNowIn, InstanceIsEarly, early_patterns, early_patterns_at, early_patterns_of, ◌<◌}
use Rattle.pending.proofs.Vocabulary.{AllByRecursion, AllByRecursion-of_append, FoundIsFirst, GuardLooksBack, HasSome, HoldsLast, IsTrue, IsUnmetAt, IsUnmetGoal, LacksSome, LastIsAtTheEnd}
use Rattle.pending.proofs.Vocabulary.{MissesEither, PastDecides, Sat, SleepersStay, fails_still, get_or_append_left, goal_patterns, inl, inr, is_past, last_time, length-append, met_anew}
use Rattle.pending.proofs.Vocabulary.{no_step, nodes, patterns_of_both, step_at, step_at_end}
use Rattle.obligations.proofs.TraceLemmas.{stands_found}
use Rattle.wake_patterns.proofs.StillLemmas.{fails_on, of_first_known}
use Rattle.wake_patterns.proofs.PatternLemmas.{Extends, AreUnbound, BindsNew, BringsNew, plan_brings_new, events, not_there, one_of, two_of, of_narrower_some, under_row, guard_fails, guard_holds}

-- ---- lists of which nothing is left

nil_parts : {X : Type 0} (xs ys : List X) → [] ≡ xs ++ ys → (xs ≡ []) × (ys ≡ [])
nil_parts [] ys e = (refl, sym e)
nil_parts (x ∷ xs) ys e = absurd (omega (arith, ap length e))

parts_nil : {X : Type 0} (all xs ys : List X) → all ≡ xs ++ ys → xs ≡ [] → ys ≡ [] → all ≡ []
parts_nil all xs ys e front back = e ∙ (λ i. front i ++ back i)

module _ (v : Valuation) (trace : List Step) where
  abbrev at : ℕ
  at = last_position trace

  -- ---- a plan that is met by none of the events misses something

  cause_stays : (w : Valuation) → Extends v w → (node : ℕ) (name : NameId) (terms : List Term) → HasNone (pattern_of v name terms ∷ []) (events v trace at)
      → (o : Option (List Value)) → values_of_terms w terms ≡ o
      → OfEvent name o (λ e. LiteralUnless (Contains (events v trace at) e) (cause_literal e node) []) → ⊥
  cause_stays w more node name terms none None is missing = missing
  cause_stays w more node name terms none (Some args) is missing =
      ⊎_elim (λ m. not_there v trace at w more name terms args is none m.0) (λ m. absurd (omega (arith, ap length m.1))) missing

  abbrev Lacks : Plan → Type 0
  Lacks plan = (w : Valuation) → Extends v w → BringsNew v plan → (ps : List Pattern) → met_by v plan ≡ Some ps → HasNone ps (events v trace at) → LacksNothing trace plan w → ⊥

  lacks : (plan : Plan) → Lacks plan
  lacks (CausePlan node place name terms) w more new ps is none missing =
      cause_stays w more node name terms (one_of v trace at (pattern_of v name terms) ps is none) (values_of_terms w terms) refl missing
  lacks (Both node left right) w more new ps is none (first, rest, one, other, all) =
      let empty = nil_parts first rest all in
      ⊎_elim (λ l. lacks left w more new.0 ps l none (subst (Missing trace left w) empty.0 one))
      (λ r. lacks right w more new.1 ps r none (subst (Missing trace right w) empty.1 other))
      (of_narrower_some (met_by v left) (met_by v right) ps is)
  lacks (Either node left right) w more new ps is none missing =
      let (xs, ys, l, r, front, back) = two_of v trace at (met_by v left) (met_by v right) ps is none in
      ⊎_elim (λ m. lacks left w more new.0 xs l front m.0)
      (λ n. ⊎_elim (λ m. lacks right w more new.1 ys r back m.0) (λ m. lacks right w more new.1 ys r back m.2) n) missing
  lacks (TestOr node guard test body) w more new ps is none missing =
      let (xs, ys, l, r, front, back) = two_of v trace at (fails_without v test) (met_by v body) ps is none in
      ⊎_elim (λ m. guard_fails v trace at w more test new.0 xs l front m.0) (λ m. lacks body w more new.1 ys r back m.1) missing
  lacks (AlwaysPlan node place zero high body) w more new ps is none missing = lacks body w more new ps is none missing
  lacks (AlwaysPlan node place (suc low) high body) w more new ps is none missing = absurd (none-some ps is)
  lacks (UntilPlan node place zero high left right) w more new ps is none missing =
      let (xs, ys, r, l, front, back) = two_of v trace at (met_by v right) (met_by v left) ps is none in
      ⊎_elim (λ m. lacks right w more new.1 xs r front m.0) (λ m. lacks left w more new.0 ys l back m.1) missing
  lacks (UntilPlan node place (suc low) high left right) w more new ps is none missing = lacks left w more new.0 ps is none missing
  lacks plan w more new ps is none missing = absurd (none-some ps is)

  -- ---- a plan that misses something by none of the events misses nothing, and begins nothing

  no_rows : {Y : Type 0} (w : Valuation) → Extends v w → (xs : List VarId) (test : Formula) (ps : List Pattern)
      → AreUnbound v xs → BindsNew v test → fails_without v test ≡ Some ps → HasNone ps (events v trace at)
      → (rows : List (List Value)) → AreGuardRows trace w xs test rows → (P : List Value → List Y → Type 0) (ys : List Y) → Gathers P rows ys → ys ≡ []
  no_rows w more xs test ps new binds is none [] are P ys gathered = gathered
  no_rows w more xs test ps new binds is none (row ∷ rows) are P ys gathered =
      absurd (guard_fails v trace at (with_values xs row w) (under_row v trace at w more xs row new) test binds ps is none
      ((are.are row (are.fit 0 row (omega arith))).0 (here row rows)))

  gathers_nil : {X Y : Type 0} (P : X → List Y → Type 0) → ((x : X) (ys : List Y) → P x ys → ys ≡ []) → (xs : List X) (ys : List Y)
      → Gathers P xs ys → ys ≡ []
  gathers_nil P each [] ys gathered = gathered
  gathers_nil P each (x ∷ xs) ys (first, rest, one, others, are) = parts_nil ys first rest are (each x first one) (gathers_nil P each xs rest others)

  suppress_stays : (w : Valuation) → Extends v w → (node : ℕ) (name : NameId) (terms : List Term) → HasNone (pattern_of v name terms ∷ []) (events v trace at)
      → (o : Option (List Value)) → values_of_terms w terms ≡ o → (literals : List Literal)
      → OfEvent name o (λ e. LiteralUnless (Contains (events v trace at) e → ⊥) (suppress_literal e node) literals) → literals ≡ []
  suppress_stays w more node name terms none None is literals missing = absurd missing
  suppress_stays w more node name terms none (Some args) is literals missing =
      ⊎_elim (λ m. m.1) (λ m. absurd (m.0 (λ there. not_there v trace at w more name terms args is none there))) missing

  misses_nothing : (plan : Plan) (w : Valuation) → Extends v w → BringsNew v plan → (ps : List Pattern) → missed_by v plan ≡ Some ps → HasNone ps (events v trace at)
      → (literals : List Literal) → Missing trace plan w literals → literals ≡ []
  misses_nothing (SuppressPlan node place name terms) w more new ps is none literals missing =
      suppress_stays w more node name terms (one_of v trace at (pattern_of v name terms) ps is none) (values_of_terms w terms) refl literals missing
  misses_nothing (Both node left right) w more new ps is none literals (first, rest, one, other, all) =
      let (xs, ys, l, r, front, back) = two_of v trace at (missed_by v left) (missed_by v right) ps is none in
      parts_nil literals first rest all (misses_nothing left w more new.0 xs l front first one) (misses_nothing right w more new.1 ys r back rest other)
  misses_nothing (Either node left right) w more new ps is none literals missing =
      let (xs, ys, l, r, front, back) = two_of v trace at (missed_by v left) (missed_by v right) ps is none in
      ⊎_elim (λ m. m.1) (λ n. ⊎_elim (λ m. m.1) (λ m. misses_nothing right w more new.1 ys r back literals m.2) n) missing
  misses_nothing (TestOr node guard test body) w more new ps is none literals missing = ⊎_elim
      (λ m. m.1)
      (λ m. ⊎_elim (λ l. absurd (m.0 (guard_holds v trace at w more test new.0 ps l none))) (λ b. misses_nothing body w more new.1 ps b none literals m.1)
      (of_narrower_some (holds_without v test) (missed_by v body) ps is)) missing
  misses_nothing (Guarded node xs guard test body) w more new ps is none literals (rows, are, gathered) =
      ⊎_elim (λ l. no_rows w more xs test ps new.0 new.1 l none rows are _ literals gathered)
      (λ b. gathers_nil (λ row. Missing trace body (with_values xs row w)) (λ row. misses_nothing body (with_values xs row w) (under_row v trace at w more xs row new.0) new.2 ps b none) rows literals gathered)
      (of_narrower_some (fails_without v test) (missed_by v body) ps is)
  misses_nothing plan w more new ps is none literals missing = absurd (none-some ps is)

  where_is : {A B Q : Type 0} (b : Bool) → (A → Q) → (B → Q) → IfElse b A B → Q
  where_is true first second m = first m
  where_is false first second m = second m

  abbrev IsNone : List Instance → Type 0
  IsNone is = is ≡ []

  takes : {A B Q : Type 0} (side : Plan) (w : Valuation) → (A → Q) → (B → Q) → TakesOrElse trace side w A B → Q
  takes side w first second m = ⊎_elim (λ t. first t.1) (λ t. second t.1) m

  begins_nothing : (plan : Plan) (w : Valuation) → Extends v w → BringsNew v plan → (ps : List Pattern) → missed_by v plan ≡ Some ps → HasNone ps (events v trace at)
      → (rule : ℕ) (instances : List Instance) → Begun trace rule plan w instances → instances ≡ []
  begins_nothing (SuppressPlan node place name terms) w more new ps is none rule instances begun = begun
  begins_nothing (Both node left right) w more new ps is none rule instances (first, rest, one, other, all) =
      let (xs, ys, l, r, front, back) = two_of v trace at (missed_by v left) (missed_by v right) ps is none in
      parts_nil instances first rest all (begins_nothing left w more new.0 xs l front rule first one) (begins_nothing right w more new.1 ys r back rule rest other)
  begins_nothing (Either node left right) w more new ps is none rule instances begun =
      let (xs, ys, l, r, front, back) = two_of v trace at (missed_by v left) (missed_by v right) ps is none in
      let on_left : Begun trace rule left w instances → IsNone instances = begins_nothing left w more new.0 xs l front rule instances in
      let on_right : Begun trace rule right w instances → IsNone instances = begins_nothing right w more new.1 ys r back rule instances in
      let ahead : TakesOrElse trace right w (Begun trace rule right w instances) (TakesOrElse trace left w (Begun trace rule left w instances) (IsNone instances)) → IsNone instances
      = takes right w on_right (takes left w on_left (λ e. e)) in
      let second : TakesPresent trace left w (Begun trace rule left w instances)
      (TakesOrElse trace right w (Begun trace rule right w instances) (TakesOrElse trace left w (Begun trace rule left w instances) (IsNone instances))) → IsNone instances
      = where_is _ ahead (takes left w on_left ahead) in
      where_is _ second (takes right w on_right second) begun
  begins_nothing (TestOr node guard test body) w more new ps is none rule instances begun = ⊎_elim
      (λ m. m.1)
      (λ m. ⊎_elim (λ l. absurd (m.0 (guard_holds v trace at w more test new.0 ps l none))) (λ b. begins_nothing body w more new.1 ps b none rule instances m.1)
      (of_narrower_some (holds_without v test) (missed_by v body) ps is)) begun
  begins_nothing (Guarded node xs guard test body) w more new ps is none rule instances (rows, are, gathered) =
      ⊎_elim (λ l. no_rows w more xs test ps new.0 new.1 l none rows are _ instances gathered)
      (λ b. gathers_nil (λ row. Begun trace rule body (with_values xs row w)) (λ row. begins_nothing body (with_values xs row w) (under_row v trace at w more xs row new.0) new.2 ps b none rule)
      rows instances gathered)
      (of_narrower_some (fails_without v test) (missed_by v body) ps is)
  begins_nothing plan w more new ps is none rule instances begun = absurd (none-some ps is)

-- ---- what is pending

node_not_over : (node : Plan) (i : Instance) (time : ℕ) → time ≤ i.high → IsWindowNotOver (Some node) i time
node_not_over (AlwaysPlan node place low high body) i time within = within
node_not_over node i time within = tt

pub not_over : (o : Option Plan) (i : Instance) (time : ℕ) → time ≤ i.high → IsWindowNotOver o i time
not_over None i time within = tt
not_over (Some node) i time within = node_not_over node i time within

module _ (trace : List Step) (i : Instance) where
  abbrev v : Valuation
  v = i.valuation

  itself : Extends v v
  itself x value is = is

  misses_at : (node : Plan) → BringsNew v node → (ps : List Pattern) → waiting_patterns v node ≡ Some ps → HasNone ps (events v trace (last_position trace))
      → (literals : List Literal) → MissesAt trace node i false literals → literals ≡ []
  misses_at (EventuallyPlan node place low high body) new ps is none literals missing = missing
  misses_at (AlwaysPlan node place low high body) new ps is none literals missing =
      ⊎_elim (λ m. misses_nothing v trace body v itself new ps is none literals m.1) (λ m. m.1) missing
  misses_at (UntilPlan node place low high left right) new ps is none literals missing =
      let (xs, ys, r, l, front, back) = two_of v trace (last_position trace) (goal_patterns low v right) (missed_by v left) ps is none in
      ⊎_elim (λ m. m.2) (λ m. misses_nothing v trace left v itself new.0 ys l back literals m.1) missing
  misses_at node new ps is none literals missing = absurd (none-some ps is)

  stays_alone : (after more : List Instance) → after ≡ i ∷ more → more ≡ [] → after ≡ i ∷ []
  stays_alone after more is none = is ∙ ap (λ l. i ∷ l) none

  -- ---- before its window

  module _ (before : time_now trace < i.low) where
    not_in : IsNowIn trace i → ⊥
    not_in within = let low = within.0 in omega (arith, low, before)

    early_misses_at : (node : Plan) → BringsNew v node → (ps : List Pattern) → early_patterns v node ≡ Some ps → HasNone ps (events v trace (last_position trace))
        → (literals : List Literal) → MissesAt trace node i false literals → literals ≡ []
    early_misses_at (EventuallyPlan node place low high body) new ps is none literals missing = missing
    early_misses_at (AlwaysPlan node place low high body) new ps is none literals missing = ⊎_elim (λ m. absurd (not_in m.0)) (λ m. m.1) missing
    early_misses_at (UntilPlan node place low high left right) new ps is none literals missing =
        ⊎_elim (λ m. m.2) (λ m. misses_nothing v trace left v itself new.0 ps is none literals m.1) missing
    early_misses_at node new ps is none literals missing = absurd (none-some ps is)

    early_stays_at : (node : Plan) → BringsNew v node → (ps : List Pattern) → early_patterns v node ≡ Some ps → HasNone ps (events v trace (last_position trace))
        → (after : List Instance) → BecomesAt trace node i after → after ≡ i ∷ []
    early_stays_at (EventuallyPlan node place low high body) new ps is none after becomes = ⊎_elim (λ m. absurd (not_in m.0)) (λ m. m.1) becomes
    early_stays_at (AlwaysPlan node place low high body) new ps is none after becomes =
        ⊎_elim (λ m. m.1) (λ n. ⊎_elim (λ m. absurd (not_in m.0)) (λ m. let low = m.0 in absurd (omega (arith, low, before))) n) becomes
    early_stays_at (UntilPlan node place low high left right) new ps is none after becomes =
        ⊎_elim (λ m. absurd (not_in m.0)) (λ m. stays_alone after m.1.0 m.1.2 (begins_nothing v trace left v itself new.0 ps is none i.rule m.1.0 m.1.1)) becomes
    early_stays_at node new ps is none after becomes = absurd (none-some ps is)

-- ---- a goal that was not met at the step before

some_part : (P Q : List Literal → Type 0) (l : Literal) (ls first rest : List Literal) → l ∷ ls ≡ first ++ rest → P first → Q rest → HasSome P ⊎ HasSome Q
some_part P Q l ls [] [] e front back = absurd (omega (arith, ap length e))
some_part P Q l ls [] (x ∷ rest) e front back = inr (x, rest, back)
some_part P Q l ls (x ∷ first) rest e front back = inl (x, first, front)

both_lack : (P Q : List Literal → Type 0) (l : Literal) (ls : List Literal) → MissesEither P Q (l ∷ ls) → HasSome P × HasSome Q
both_lack P Q l ls misses =
    ⊎_elim (λ m. absurd (omega (arith, ap length m.1))) (λ n. ⊎_elim (λ m. absurd (omega (arith, ap length m.1))) (λ m. (m.0, m.1)) n) misses

module _ (past : PastDecides) (last : LastIsAtTheEnd) (before : List Step) (step : Step) (some : 0 < length before) (later : last_time before ≤ step.time) where
  abbrev longer : List Step
  longer = before ++ step ∷ []

  abbrev m : ℕ
  m = last_position before

  same_step : (k : ℕ) → k ≤ m → step_at before k ≡ step_at longer k
  same_step k within = sym (get_or_append_left before (step ∷ []) no_step k (omega (arith, some, within)))

  newest : suc m ≡ last_position longer
  newest = omega (arith, some, length-append before (step ∷ []))

  at_newest : step_at longer (suc m) ≡ step
  at_newest =
      let at : length before ≡ suc m = omega (arith, some) in
      subst (λ k. step_at longer k ≡ step) at (step_at_end before step)

  rises : (step_at longer m).time ≤ (step_at longer (suc m)).time
  rises =
      let was : last_time before ≡ (step_at before m).time = last before m (omega (arith, some)) in
      omega (arith, was, later, ap (λ (s : Step). s.time) (same_step m (omega arith)), ap (λ (s : Step). s.time) at_newest)

  module _ (v : Valuation) where
    none_at : (ps : List Pattern) → HasNone ps (events v longer (last_position longer)) → HasNone ps (events v longer (suc m))
    none_at ps none = subst (λ k. HasNone ps (events v longer k)) (sym newest) none

    -- a test that failed there fails still
    test_fails : (w : Valuation) → Extends v w → (test : Formula) → BindsNew v test → IsTrue (is_past test) → (ps : List Pattern) → fails_still v test ≡ Some ps
        → HasNone ps (events v longer (last_position longer)) → (HoldsLast before w test → ⊥) → HoldsLast longer w test → ⊥
    test_fails w more test new back ps is none failed holds =
        fails_on v longer m rises w more test new ps is (none_at ps none) (λ was. failed ((past before longer m w test back same_step).1 was))
        (subst (λ k. Sat longer k w test) (sym newest) holds)

    -- a plan that missed something there misses something still
    lacks_still : (plan : Plan) (w : Valuation) → Extends v w → BringsNew v plan → AllByRecursion GuardLooksBack (nodes plan) → (ps : List Pattern)
        → met_anew v plan ≡ Some ps → HasNone ps (events v longer (last_position longer)) → LacksSome before plan w → LacksNothing longer plan w → ⊥
    lacks_still (Both node left right) w more new back ps is none (l, ls, (first, rest, one, other, all)) (first', rest', one', other', all') = ⊎_elim
        (λ single. lacks v longer (Both node left right) w more new ps single none (first', rest', one', other', all'))
        (λ both.
        let (xs, ys, on_left, on_right, none_left, none_right) = two_of v longer (last_position longer) (met_anew v left) (met_anew v right) ps both none in
        let looks = AllByRecursion-of_append GuardLooksBack (nodes left) (nodes right) back.1 in
        let empty = nil_parts first' rest' all' in
        ⊎_elim
        (λ some_left. lacks_still left w more new.0 looks.0 xs on_left none_left some_left (subst (Missing longer left w) empty.0 one'))
        (λ some_right. lacks_still right w more new.1 looks.1 ys on_right none_right some_right (subst (Missing longer right w) empty.1 other'))
        (some_part (Missing before left w) (Missing before right w) l ls first rest all one other))
        (of_first_known (met_by v (Both node left right)) (patterns_of_both (met_anew v left) (met_anew v right)) ps is)
    lacks_still (Either node left right) w more new back ps is none (l, ls, misses) missing =
        let (xs, ys, on_left, on_right, none_left, none_right) = two_of v longer (last_position longer) (met_anew v left) (met_anew v right) ps is none in
        let looks = AllByRecursion-of_append GuardLooksBack (nodes left) (nodes right) back.1 in
        let were = both_lack (Missing before left w) (Missing before right w) l ls misses in
        ⊎_elim (λ m. lacks_still left w more new.0 looks.0 xs on_left none_left were.0 m.0)
        (λ n. ⊎_elim (λ m. lacks_still right w more new.1 looks.1 ys on_right none_right were.1 m.0)
        (λ m. lacks_still right w more new.1 looks.1 ys on_right none_right were.1 m.2) n) missing
    lacks_still (TestOr node guard test body) w more new back ps is none (l, ls, misses) missing =
        let (xs, ys, on_test, on_body, none_test, none_body) = two_of v longer (last_position longer) (fails_still v test) (met_anew v body) ps is none in
        ⊎_elim (λ met. absurd (omega (arith, ap length met.1)))
        (λ failed.
        ⊎_elim (λ m. test_fails w more test new.0 back.0 xs on_test none_test failed.0 m.0)
        (λ m. lacks_still body w more new.1 back.1 ys on_body none_body (l, ls, failed.1) m.1) missing) misses
    lacks_still plan w more new back ps is none were missing = lacks v longer plan w more new ps is none missing

module _ (past : PastDecides) (last : LastIsAtTheEnd) (before : List Step) (step : Step) (later : last_time before ≤ step.time) (i : Instance) where
  abbrev grown : List Step
  grown = before ++ step ∷ []

  abbrev values : Valuation
  values = i.valuation

  at_now : time_now grown ≡ step.time
  at_now =
      let at : length before ≡ last_position grown = omega (arith, length-append before (step ∷ [])) in
      ap (λ (s : Step). s.time) (subst (λ k. step_at grown k ≡ step) at (step_at_end before step))

  -- an open goal that was not met is not met
  goal_lacks : (goal : Plan) → BringsNew values goal → AllByRecursion GuardLooksBack (nodes goal) → IsUnmetGoal before goal i → (ps : List Pattern)
      → met_anew values goal ≡ Some ps → HasNone ps (events values grown (last_position grown)) → IsNowIn grown i → LacksNothing grown goal values → ⊥
  goal_lacks goal new back unmet ps is none within =
      let most = within.1 in
      lacks_still past last before step unmet.some later values goal values (itself grown i) new back ps is none (unmet.lacks (omega (arith, later, at_now, most)))

  stays_at : (node : Plan) → BringsNew values node → AllByRecursion GuardLooksBack (nodes node) → IsUnmetAt before node i → (ps : List Pattern)
      → waiting_patterns values node ≡ Some ps → HasNone ps (events values grown (last_position grown))
      → IsWindowNotOver (Some node) i (time_now grown) → (after : List Instance) → BecomesAt grown node i after → after ≡ i ∷ []
  stays_at (EventuallyPlan node place zero high body) new back unmet ps is none in_time after becomes =
      ⊎_elim (λ m. absurd (goal_lacks body new back.1 unmet ps is none m.0 m.1)) (λ m. m.1) becomes
  stays_at (EventuallyPlan node place (suc low) high body) new back unmet ps is none in_time after becomes =
      ⊎_elim (λ m. absurd (lacks values grown body values (itself grown i) new ps is none m.1)) (λ m. m.1) becomes
  stays_at (AlwaysPlan node place low high body) new back unmet ps is none in_time after becomes =
      ⊎_elim (λ m. m.1) (λ n. ⊎_elim
      (λ m. stays_alone grown i after m.1.0 m.1.2 (begins_nothing values grown body values (itself grown i) new ps is none i.rule m.1.0 m.1.1))
      (λ m. let over = m.1 in let within : time_now grown ≤ i.high = in_time in absurd (omega (arith, within, over))) n) becomes
  stays_at (UntilPlan node place zero high left right) new back unmet ps is none in_time after becomes =
      let (xs, ys, r, l, front, behind) = two_of values grown (last_position grown) (met_anew values right) (missed_by values left) ps is none in
      ⊎_elim (λ m. absurd (goal_lacks right new.1 (AllByRecursion-of_append GuardLooksBack (nodes left) (nodes right) back.1).1 unmet xs r front m.0 m.1))
      (λ m. stays_alone grown i after m.1.0 m.1.2 (begins_nothing values grown left values (itself grown i) new.0 ys l behind i.rule m.1.0 m.1.1)) becomes
  stays_at (UntilPlan node place (suc low) high left right) new back unmet ps is none in_time after becomes =
      let (xs, ys, r, l, front, behind) = two_of values grown (last_position grown) (met_by values right) (missed_by values left) ps is none in
      ⊎_elim (λ m. absurd (lacks values grown right values (itself grown i) new.1 xs r front m.1))
      (λ m. stays_alone grown i after m.1.0 m.1.2 (begins_nothing values grown left values (itself grown i) new.0 ys l behind i.rule m.1.0 m.1.1)) becomes
  stays_at node new back unmet ps is none in_time after becomes = absurd (none-some ps is)

-- a node that can be asked brings variables that are new
brings_fresh : (guards : List (Formula × List VarId)) (plan : Plan) (scope : List VarId) → CanAskNode guards plan scope
    → BringsFresh plan scope
brings_fresh guards (CausePlan node place name terms) scope can = tt
brings_fresh guards (SuppressPlan node place name terms) scope can = tt
brings_fresh guards (Both node left right) scope can = tt
brings_fresh guards (Either node left right) scope can = tt
brings_fresh guards (TestOr node guard test body) scope can = can.0.fresh
brings_fresh guards (Guarded node xs guard test body) scope can = (can.0.fresh, can.2)
brings_fresh guards (EventuallyPlan node place low high body) scope can = tt
brings_fresh guards (AlwaysPlan node place low high body) scope can = tt
brings_fresh guards (UntilPlan node place low high left right) scope can = tt
brings_fresh guards (NextPlan node place high body) scope can = tt

module _ (guards : List (Formula × List VarId)) (plans : List Plan) (trace : List Step) (i : Instance) (can : CanAskOf guards plans i) where
  new_parts : BringsNew i.valuation can.node
  new_parts = plan_brings_new i.valuation can.node (record {
    scope = can.can.scope;
    fresh = AtEach-weaker (CanAskNode guards) BringsFresh (brings_fresh guards) can.node can.can.scope can.can.can;
    fits = can.can.fits;
  })

  wakes_at : (ps : List Pattern) → wake_patterns_of plans i ≡ Some ps → waiting_patterns i.valuation can.node ≡ Some ps
  wakes_at ps is = ap (λ o. wake_patterns_at o i) (sym can.found) ∙ is

  pub miss_nothing : InstanceSleeps plans trace i → (literals : List Literal) → MissingOf plans trace i false literals → literals ≡ []
  miss_nothing s literals missing =
      misses_at trace i can.node new_parts s.patterns (wakes_at s.patterns s.wakes) s.none literals
      (subst (λ (o : Option Plan). AtNode o (λ node. MissesAt trace node i false literals)) can.found missing)

  early_at : (ps : List Pattern) → early_patterns_of plans i ≡ Some ps → early_patterns i.valuation can.node ≡ Some ps
  early_at ps is = ap (λ o. early_patterns_at o i) (sym can.found) ∙ is

  pub early_miss_nothing : InstanceIsEarly plans trace i → (literals : List Literal) → MissingOf plans trace i false literals → literals ≡ []
  early_miss_nothing e literals missing =
      early_misses_at trace i e.before can.node new_parts e.patterns (early_at e.patterns e.wakes) e.none literals
      (subst (λ (o : Option Plan). AtNode o (λ node. MissesAt trace node i false literals)) can.found missing)

  pub early_stay : InstanceIsEarly plans trace i → (after : List Instance) → After plans trace i after → after ≡ i ∷ []
  early_stay e after becomes =
      early_stays_at trace i e.before can.node new_parts e.patterns (early_at e.patterns e.wakes) e.none after
      (subst (λ (o : Option Plan). AtNode o (λ node. BecomesAt trace node i after)) can.found becomes)

pub stay : PastDecides → FoundIsFirst → LastIsAtTheEnd → SleepersStay
stay past first last guards plans before step i stand can s in_time later unmet after becomes =
    let node = can.node in
    let is = can.found in
    let trace = before ++ step ∷ [] in
    stays_at past last before step later i node (new_parts guards plans trace i can) (stands_found first plans stand i node is).back (unmet node is) s.patterns
    (wakes_at guards plans trace i can s.patterns s.wakes) s.none
    (subst (λ (o : Option Plan). IsWindowNotOver o i (time_now trace)) is in_time) after
    (subst (λ (o : Option Plan). AtNode o (λ n. BecomesAt trace n i after)) is becomes)
