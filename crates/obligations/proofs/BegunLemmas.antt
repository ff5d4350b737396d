-- What the parts of a plan begin is what its whole begins.
use Rattle.obligations.proofs.Vocabulary.{◌≡◌, ℕ, zero, suc, ◌+◌, ◌<◌, Bool, true, false, List, [], ◌∷◌, ◌++◌, length, length-append, Contains, None, refl, sym, ap, append_assoc, subst, arith, inl}
use Rattle.obligations.proofs.Vocabulary.{inr, ◌⊎◌, ◌∙◌, true≢false, IsFalse, AllByRecursion, append-nil, nil_from_length, AllByRecursion-append, AllByRecursion-contains, AllByRecursion-from_contains}
use Rattle.obligations.proofs.Vocabulary.{here, Value, Valuation, with_values, BindsColumns, Step, VarId, Formula, AreNewVariables, AreOpen, FreeWithin, AreEvaluated, HasOpenColumns, IsEvaluated}
use Rattle.obligations.proofs.Vocabulary.{GuardLooksBack, EndsInTime, is_future, nodes, node_number, Plan, Both, Either, TestOr, Guarded, EventuallyPlan, AlwaysPlan, UntilPlan, NextPlan}
use Rattle.obligations.proofs.Vocabulary.{IsNodeByNumber, StandsIn, filled_from_row, IsTable, Relation, AddsAsked, IsBegunHere, TellsNothing, begun_at_now, IsNowOf, IsSideTaken, TakesSide, CanAskPlan}
use Rattle.obligations.proofs.Vocabulary.{IsGuardAt, CanAskOf, FitsScope, guards_now, BeginsOrWaits, Begun, LacksNothing, LacksSome, WithBehind, begun_now, Gathers, IsReachedBy, Instance, Now}
use Rattle.std.specs.Prelude.{IsTrue}
use Rattle.obligations.proofs.AdditionLemmas.{gathers_as, row_is}
use Rattle.obligations.proofs.AskablePlanLemmas.{hold_for, rows_are, test_is}
use Rattle.obligations.proofs.TriggeredGuardLemmas.{row_met}
use Rattle.obligations.proofs.WantedLiteralLemmas.{in_body, in_left, in_right}

-- each node of one plan is one of another
abbrev pub IsInside : Plan → Plan → Type 0
IsInside part whole = (node : Plan) → Contains (nodes part) node → Contains (nodes whole) node

pub all_inside : (P : Plan → Type 0) (part whole : Plan) → IsInside part whole → AllByRecursion P (nodes whole)
    → AllByRecursion P (nodes part)
all_inside P part whole inside all =
    AllByRecursion-from_contains P (nodes part) (λ node there. AllByRecursion-contains P (nodes whole) node all (inside node there))

pub stands_inside : (plans : List Plan) (rule : ℕ) (part whole : Plan) → IsInside part whole → StandsIn plans rule whole
    → StandsIn plans rule part
stands_inside plans rule part whole inside stands = record {
  back = all_inside GuardLooksBack part whole inside stands.back;
  named = all_inside (IsNodeByNumber plans rule) part whole inside stands.named;
}

pub left_smaller : (node : Plan) (left right : Plan) → length (nodes left) < length (node ∷ nodes left ++ nodes right)
left_smaller node left right = omega (arith, length-append (nodes left) (nodes right))

pub right_smaller : (node : Plan) (left right : Plan) → length (nodes right) < length (node ∷ nodes left ++ nodes right)
right_smaller node left right = omega (arith, length-append (nodes left) (nodes right))

-- what is reached of one plan is reached of another
abbrev pub IsBelow : Now → Plan → Plan → Type 0
IsBelow now part whole = (end : Plan) → IsReachedBy now.ordered.now part end → IsReachedBy now.ordered.now whole end

-- ---- what is put last

module _ (now : Now) (rule : ℕ) where
  begun_below : (part whole : Plan) → IsBelow now part whole → (is : List Instance) → AllByRecursion (IsBegunHere now rule part) is
      → AllByRecursion (IsBegunHere now rule whole) is
  begun_below part whole below [] each = tt
  begun_below part whole below (i ∷ is) each =
      ((each.0.0, below each.0.0 each.0.1, each.0.2), begun_below part whole below is each.1)

  pub asked_nothing : (plan : Plan) (P : List Step → List Instance → Type 0) (out : List Instance)
      → ((trace : List Step) → IsNowOf now trace → P trace []) → AddsAsked now rule plan P out out
  asked_nothing plan P out are = record {
    adds = record { more = []; grown = sym (append-nil out); are = are };
    asked = λ plans stands. tt;
    begun = tt;
  }

  pub asked_as : (part whole : Plan) → IsInside part whole → IsBelow now part whole → (P Q : List Step → List Instance → Type 0)
      → ((trace : List Step) → IsNowOf now trace → (xs : List Instance) → P trace xs → Q trace xs)
      → (before after : List Instance) → AddsAsked now rule part P before after → AddsAsked now rule whole Q before after
  asked_as part whole inside below P Q turn before after puts = record {
    adds = record {
      more = puts.adds.more;
      grown = puts.adds.grown;
      are = λ trace is. turn trace is puts.adds.more (puts.adds.are trace is);
    };
    asked = λ plans stands. puts.asked plans (stands_inside plans rule part whole inside stands);
    begun = begun_below part whole below puts.adds.more puts.begun;
  }

  pub asked_both : (one other whole : Plan) → IsInside one whole → IsBelow now one whole → IsInside other whole → IsBelow now other whole
      → (P Q R : List Step → List Instance → Type 0) (before between after : List Instance)
      → ((trace : List Step) (xs ys : List Instance) → P trace xs → Q trace ys → R trace (xs ++ ys))
      → AddsAsked now rule one P before between → AddsAsked now rule other Q between after
      → AddsAsked now rule whole R before after
  asked_both one other whole inside below too lower P Q R before between after join first next = record {
    adds = record {
      more = first.adds.more ++ next.adds.more;
      grown = next.adds.grown ∙ (ap (λ l. l ++ next.adds.more) first.adds.grown ∙ append_assoc before first.adds.more next.adds.more);
      are = λ trace is. join trace first.adds.more next.adds.more (first.adds.are trace is) (next.adds.are trace is);
    };
    asked = λ plans stands. AllByRecursion-append (CanAskOf (guards_now now) plans) first.adds.more next.adds.more
        (first.asked plans (stands_inside plans rule one whole inside stands))
        (next.asked plans (stands_inside plans rule other whole too stands));
    begun = AllByRecursion-append (IsBegunHere now rule whole) first.adds.more next.adds.more
        (begun_below one whole below first.adds.more first.begun) (begun_below other whole lower next.adds.more next.begun);
  }

  -- the instance of a node that is begun
  abbrev pub IsBegun : (node low high : ℕ) → Valuation → List Step → List Instance → Type 0
  IsBegun node low high v trace instances = instances ≡ begun_now trace rule node low high v ∷ []

  pub begun_is : (trace : List Step) → IsNowOf now trace → (node low high : ℕ) (v : Valuation)
      → begun_at_now now rule node low high v ≡ begun_now trace rule node low high v
  begun_is trace is node low high v =
      ap (λ (times : ℕ × ℕ). record { rule = rule; node = node; valuation = v; origin = times.0; low = times.1 + low; high = times.1 + high })
      (λ i. (sym is.position i, sym is.time i))

  pub asked_instance : (plan : Plan) (low high : ℕ) (v : Valuation) → is_future plan ≡ true
      → ((plans : List Plan) → StandsIn plans rule plan → IsNodeByNumber plans rule plan) → CanAskPlan (guards_now now) plan v
      → AllByRecursion EndsInTime (nodes plan) → IsBegunHere now rule plan (begun_at_now now rule (node_number plan) low high v)
      → (before after : List Instance) → after ≡ before ++ begun_at_now now rule (node_number plan) low high v ∷ []
      → AddsAsked now rule plan (IsBegun (node_number plan) low high v) before after
  asked_instance plan low high v future named can ends begins before after grown = record {
    adds = record {
      more = begun_at_now now rule (node_number plan) low high v ∷ [];
      grown = grown;
      are = λ trace is. ap (λ i. i ∷ []) (begun_is trace is (node_number plan) low high v);
    };
    asked = λ plans stands. (record { node = plan; found = named plans stands; future = future; can = can; ends = ends }, tt);
    begun = (begins, tt);
  }

  -- an instance, and what is begun with it after
  pub asked_behind : (part whole : Plan) → IsInside part whole → IsBelow now part whole → (node low high : ℕ) (v : Valuation)
      → (P : List Step → List Instance → Type 0) (before between after : List Instance)
      → AddsAsked now rule whole (IsBegun node low high v) before between → AddsAsked now rule part P between after
      → AddsAsked now rule whole (λ trace. WithBehind (begun_now trace rule node low high v) (P trace)) before after
  asked_behind part whole inside below node low high v P before between after first next =
      asked_both whole part whole (λ n there. there) (λ end is. is) inside below (IsBegun node low high v) P
      (λ trace. WithBehind (begun_now trace rule node low high v) (P trace)) before between after
      (λ trace xs ys is more. (ys, more, ap (λ l. l ++ ys) is)) first next

-- ---- the nodes of plans

module _ (now : Now) (rule : ℕ) (v : Valuation) where
  -- what a plan begins was put last
  abbrev pub Puts : Plan → (before after : List Instance) → Type 0
  Puts plan before after = AddsAsked now rule plan (λ trace. Begun trace rule plan v) before after

  abbrev pub MayAsk : Plan → Type 0
  MayAsk plan = CanAskPlan (guards_now now) plan v

  pub both_begun : (node : ℕ) (left right : Plan) (before between after : List Instance) → Puts left before between
      → Puts right between after → Puts (Both node left right) before after
  both_begun node left right before between after first next =
      asked_both now rule left right (Both node left right) (in_left (Both node left right) left right) (λ end is. inr (inl is))
      (in_right (Both node left right) left right) (λ end is. inr (inr is))
      (λ trace. Begun trace rule left v) (λ trace. Begun trace rule right v) (λ trace. Begun trace rule (Both node left right) v)
      before between after (λ trace xs ys is too. (xs, ys, is, too, refl)) first next

  -- ---- sides

  pub side_inside : (node : ℕ) (left right side : Plan) → (side ≡ left) ⊎ (side ≡ right) → IsInside side (Either node left right)
  side_inside node left right side (inl same) = subst (λ s. IsInside s (Either node left right)) (sym same) (in_left (Either node left right) left right)
  side_inside node left right side (inr same) = subst (λ s. IsInside s (Either node left right)) (sym same) (in_right (Either node left right) left right)

  side_below : (node : ℕ) (left right side : Plan) → (side ≡ left) ⊎ (side ≡ right) → IsBelow now side (Either node left right)
  side_below node left right side (inl same) = subst (λ s. IsBelow now s (Either node left right)) (sym same) (λ end is. inr (inl is))
  side_below node left right side (inr same) = subst (λ s. IsBelow now s (Either node left right)) (sym same) (λ end is. inr (inr is))

  pub side_asked : (node : ℕ) (left right side : Plan) → (side ≡ left) ⊎ (side ≡ right) → MayAsk (Either node left right) → MayAsk side
  side_asked node left right side (inl same) can = subst MayAsk (sym same) (record { scope = can.scope; can = can.can.1; fits = can.fits })
  side_asked node left right side (inr same) can = subst MayAsk (sym same) (record { scope = can.scope; can = can.can.2; fits = can.fits })

  pub side_smaller : (node : ℕ) (left right side : Plan) → (side ≡ left) ⊎ (side ≡ right)
      → length (nodes side) < length (nodes (Either node left right))
  side_smaller node left right side (inl same) =
      subst (λ s. length (nodes s) < length (nodes (Either node left right))) (sym same) (left_smaller (Either node left right) left right)
  side_smaller node left right side (inr same) =
      subst (λ s. length (nodes s) < length (nodes (Either node left right))) (sym same) (right_smaller (Either node left right) left right)

  pub side_begun : (node : ℕ) (left right side : Plan) → IsSideTaken now left right v side → (before after : List Instance)
      → Puts side before after → Puts (Either node left right) before after
  side_begun node left right side taken before after puts =
      asked_as now rule side (Either node left right) (side_inside node left right side taken.one) (side_below node left right side taken.one)
      (λ trace. Begun trace rule side v) (λ trace. Begun trace rule (Either node left right) v)
      (λ trace is xs begun. taken.begins trace is rule node xs begun) before after puts

  pub neither_begun : (node : ℕ) (left right : Plan) → TakesSide now left right v None → (out : List Instance)
      → Puts (Either node left right) out out
  neither_begun node left right none out =
      asked_nothing now rule (Either node left right) (λ trace. Begun trace rule (Either node left right) v) out (λ trace is. none trace is rule node)

  -- ---- windows

  at_once_begun : (low : ℕ) (side : Plan) (trace : List Step) (Begins Waits : Type 0) → low ≡ 0 → LacksNothing trace side v
      → Begins → BeginsOrWaits trace low side v Begins Waits
  at_once_begun zero side trace Begins Waits is nothing begun = inl (nothing, begun)
  at_once_begun (suc low) side trace Begins Waits is nothing begun = absurd (omega (arith, is))

  waits_begun : (low : ℕ) (side : Plan) (trace : List Step) (Begins Waits : Type 0) → (low ≡ 0 → LacksSome trace side v)
      → Waits → BeginsOrWaits trace low side v Begins Waits
  waits_begun zero side trace Begins Waits some waits = inr (some refl, waits)
  waits_begun (suc low) side trace Begins Waits some waits = waits

  pub eventually_at_once : (node place low high : ℕ) (body : Plan) → low ≡ 0 → TellsNothing now body v true
      → (before after : List Instance) → Puts body before after → Puts (EventuallyPlan node place low high body) before after
  eventually_at_once node place low high body is told before after puts =
      asked_as now rule body (EventuallyPlan node place low high body) (in_body (EventuallyPlan node place low high body) body) (λ end is. inr is)
      (λ trace. Begun trace rule body v) (λ trace. Begun trace rule (EventuallyPlan node place low high body) v)
      (λ trace here xs begun. at_once_begun low body trace (Begun trace rule body v xs) (xs ≡ begun_now trace rule node low high v ∷ []) is (told trace here) begun)
      before after puts

  pub eventually_waits : (node place low high : ℕ) (body : Plan) → (low ≡ 0 → TellsNothing now body v false)
      → MayAsk (EventuallyPlan node place low high body) → AllByRecursion EndsInTime (nodes (EventuallyPlan node place low high body))
      → (before after : List Instance) → after ≡ before ++ begun_at_now now rule node low high v ∷ []
      → Puts (EventuallyPlan node place low high body) before after
  eventually_waits node place low high body told can ends before after grown =
      asked_as now rule (EventuallyPlan node place low high body) (EventuallyPlan node place low high body) (λ n there. there) (λ end is. is)
      (IsBegun now rule node low high v) (λ trace. Begun trace rule (EventuallyPlan node place low high body) v)
      (λ trace here xs begun. waits_begun low body trace (Begun trace rule body v xs) (xs ≡ begun_now trace rule node low high v ∷ []) (λ is. told is trace here) begun)
      before after
      (asked_instance now rule (EventuallyPlan node place low high body) low high v refl (λ plans stands. stands.named.0) can ends
      (EventuallyPlan node place low high body, inl refl, (v, refl)) before after grown)

  pub until_at_once : (node place low high : ℕ) (left right : Plan) → low ≡ 0 → TellsNothing now right v true
      → (before after : List Instance) → Puts right before after → Puts (UntilPlan node place low high left right) before after
  until_at_once node place low high left right is told before after puts =
      asked_as now rule right (UntilPlan node place low high left right) (in_right (UntilPlan node place low high left right) left right) (λ end is. inr (inr is))
      (λ trace. Begun trace rule right v) (λ trace. Begun trace rule (UntilPlan node place low high left right) v)
      (λ trace here xs begun. at_once_begun low right trace (Begun trace rule right v xs)
      (WithBehind (begun_now trace rule node low high v) (Begun trace rule left v) xs) is (told trace here) begun)
      before after puts

  pub until_waits : (node place low high : ℕ) (left right : Plan) → (low ≡ 0 → TellsNothing now right v false)
      → MayAsk (UntilPlan node place low high left right) → AllByRecursion EndsInTime (nodes (UntilPlan node place low high left right))
      → (before between after : List Instance) → between ≡ before ++ begun_at_now now rule node low high v ∷ [] → Puts left between after
      → Puts (UntilPlan node place low high left right) before after
  until_waits node place low high left right told can ends before between after grown puts =
      asked_as now rule (UntilPlan node place low high left right) (UntilPlan node place low high left right) (λ n there. there) (λ end is. is)
      (λ trace. WithBehind (begun_now trace rule node low high v) (Begun trace rule left v)) (λ trace. Begun trace rule (UntilPlan node place low high left right) v)
      (λ trace here xs begun. waits_begun low right trace (Begun trace rule right v xs)
      (WithBehind (begun_now trace rule node low high v) (Begun trace rule left v) xs) (λ is. told is trace here) begun)
      before after
      (asked_behind now rule left (UntilPlan node place low high left right) (in_left (UntilPlan node place low high left right) left right) (λ end is. inr (inl is)) node low high v
      (λ trace. Begun trace rule left v) before between after
      (asked_instance now rule (UntilPlan node place low high left right) low high v refl (λ plans stands. stands.named.0) can ends
      (UntilPlan node place low high left right, inl refl, (v, refl)) before between grown) puts)

  pub always_later : (node place low high : ℕ) (body : Plan) → 0 < low → MayAsk (AlwaysPlan node place low high body)
      → AllByRecursion EndsInTime (nodes (AlwaysPlan node place low high body)) → (before after : List Instance)
      → after ≡ before ++ begun_at_now now rule node low high v ∷ [] → Puts (AlwaysPlan node place low high body) before after
  always_later node place zero high body later can ends before after grown = absurd (omega (arith, later))
  always_later node place (suc low) high body later can ends before after grown =
      asked_instance now rule (AlwaysPlan node place (suc low) high body) (suc low) high v refl (λ plans stands. stands.named.0) can ends
      (AlwaysPlan node place (suc low) high body, inl refl, (v, refl)) before after grown

  pub always_at_once : (node place low high : ℕ) (body : Plan) → (0 < low → ⊥) → MayAsk (AlwaysPlan node place low high body)
      → AllByRecursion EndsInTime (nodes (AlwaysPlan node place low high body)) → (before between after : List Instance)
      → between ≡ before ++ begun_at_now now rule node low high v ∷ [] → Puts body between after
      → Puts (AlwaysPlan node place low high body) before after
  always_at_once node place zero high body at_once can ends before between after grown puts =
      asked_behind now rule body (AlwaysPlan node place 0 high body) (in_body (AlwaysPlan node place 0 high body) body) (λ end is. inr is) node 0 high v
      (λ trace. Begun trace rule body v) before between after
      (asked_instance now rule (AlwaysPlan node place 0 high body) 0 high v refl (λ plans stands. stands.named.0) can ends
      (AlwaysPlan node place 0 high body, inl refl, (v, refl)) before between grown) puts
  always_at_once node place (suc low) high body at_once can ends before between after grown puts = absurd (at_once (omega arith))

  pub next_begun : (node place high : ℕ) (body : Plan) → MayAsk (NextPlan node place high body)
      → AllByRecursion EndsInTime (nodes (NextPlan node place high body)) → (before after : List Instance)
      → after ≡ before ++ begun_at_now now rule node 0 high v ∷ [] → Puts (NextPlan node place high body) before after
  next_begun node place high body can ends before after grown =
      asked_instance now rule (NextPlan node place high body) 0 high v refl (λ plans stands. stands.named.0) can ends
      (NextPlan node place high body, inl refl, (v, refl)) before after grown

  -- ---- tests

  module _ (n : ℕ) (f : Formula) (scope : List VarId) (at : IsGuardAt (guards_now now) n f scope) (binds : BindsColumns v scope)
      (free : FreeWithin f (Contains scope)) (holds : Bool) (told : IsEvaluated now.tables.now n now.ordered.now v holds) (node : ℕ) (body : Plan) where
    pub test_begins_nothing : IsTrue holds → (out : List Instance) → Puts (TestOr node n f body) out out
    test_begins_nothing is_true out =
        asked_nothing now rule (TestOr node n f body) (λ trace. Begun trace rule (TestOr node n f body) v) out
        (λ trace is. inl ((test_is now trace n f scope at free is v binds holds told).0 is_true, refl))

    pub test_begins : IsFalse holds → (before after : List Instance) → Puts body before after → Puts (TestOr node n f body) before after
    test_begins is_false before after puts =
        asked_as now rule body (TestOr node n f body) (in_body (TestOr node n f body) body) (λ end is. inr is)
        (λ trace. Begun trace rule body v) (λ trace. Begun trace rule (TestOr node n f body) v)
        (λ trace is xs begun. inr (
          (λ satisfied. true≢false (sym ((test_is now trace n f scope at free is v binds holds told).1 satisfied) ∙ is_false)),
          begun,
        )) before after puts

-- ---- rows

module _ (now : Now) (n : ℕ) (f : Formula) (scope xs : List VarId) (at : IsGuardAt (guards_now now) n f scope)
    (opening : AreOpen f scope xs) (new : AreNewVariables scope xs) (v : Valuation) (fit : FitsScope scope v) (t : Relation)
    (table : IsTable t) (columns : HasOpenColumns now.tables.now n t)
    (evaluated : AreEvaluated now.tables.now n now.ordered.now v t) where
  -- what is begun is so under a row
  rows_below : (rule node : ℕ) (body : Plan) (before after more : List Instance) → after ≡ before ++ more → (t.rows ≡ [] → after ≡ before)
      → AllByRecursion (IsBegunHere now rule body) more → AllByRecursion (IsBegunHere now rule (Guarded node xs n f body)) more
  rows_below rule node body before after more grown none each = by t.rows refl
    where
      by : (rows : List (List Value)) → t.rows ≡ rows → AllByRecursion (IsBegunHere now rule (Guarded node xs n f body)) more
      by [] are =
          let same : length after ≡ length before = ap length (none are) in
          let long : length after ≡ length before + length more = ap length grown ∙ length-append before more in
          subst (AllByRecursion (IsBegunHere now rule (Guarded node xs n f body))) (sym (nil_from_length more (omega (arith, same, long)))) tt
      by (row ∷ rows) are =
          begun_below now rule body (Guarded node xs n f body)
          (λ end is. inr (row_met now n f scope xs at opening new v fit t table columns (hold_for now n v t evaluated) row (subst (λ l. Contains l row) (sym are) (here row rows)), is)) more each

  pub rows_begun : (rule node : ℕ) (body : Plan) (before after : List Instance)
      → AddsAsked now rule body (λ trace. Gathers (λ row. Begun trace rule body (filled_from_row v t.columns row)) t.rows) before after
      → (t.rows ≡ [] → after ≡ before) → Puts now rule v (Guarded node xs n f body) before after
  rows_begun rule node body before after puts none = record {
    adds = record {
      more = puts.adds.more;
      grown = puts.adds.grown;
      are = λ trace is. (
        t.rows,
        rows_are now n f scope xs at opening new v fit t table columns evaluated trace is,
        gathers_as (λ row. Begun trace rule body (filled_from_row v t.columns row)) (λ row. Begun trace rule body (with_values xs row v)) t.rows puts.adds.more
            (λ row there ys one. subst (λ w. Begun trace rule body w ys) (row_is now n f scope xs at opening new v fit t table columns row) one)
            (puts.adds.are trace is),
      );
    };
    asked = λ plans stands. puts.asked plans (stands_inside plans rule body (Guarded node xs n f body) (in_body (Guarded node xs n f body) body) stands);
    begun = rows_below rule node body before after puts.adds.more puts.adds.grown none puts.begun;
  }
