-- That what is missing and begun at a step is a list: guards have lists of rows, and tests are decided.
use Rattle.obligations.proofs.Vocabulary.{◌≡◌, ℕ, zero, suc, Bool, true, false, List, [], ◌∷◌, ◌++◌, length, Contains, refl, sym, subst, inl, inr, ⊎_elim, ◌⊎◌, Decides, list_any, false≢true}
use Rattle.obligations.proofs.Vocabulary.{All-contains, step_at, Valuation, values_of_terms, with_values, BindsColumns, Event, NameId, Step, Term, VarId, Value, event_eq, event_eq-Decides}
use Rattle.obligations.proofs.Vocabulary.{list_any-Decides, Formula, AreTermsInScope, AreNewVariables, new_apart, AreOpen, AreTold, SafeHasRows, SafeIsDecided, Plan, CausePlan, SuppressPlan, Both}
use Rattle.obligations.proofs.Vocabulary.{Either, TestOr, Guarded, EventuallyPlan, AlwaysPlan, UntilPlan, NextPlan, has_future, CanAskIn, IsGuardAt, FitsScope, BeginsAlways, BeginsOrWaits, Begun}
use Rattle.obligations.proofs.Vocabulary.{LacksNothing, LacksSome, TakesOrElse, TakesPresent, IfElse, WithBehind, begun_now, HasSome, IsAbsent, IsPresent, LiteralUnless, MissesEither, MissesUntil}
use Rattle.obligations.proofs.Vocabulary.{MissesAlways, Missing, OfEvent, cause_literal, suppress_literal, AreGuardRows, HoldsLast, last_position, BegunExists, MissingExists, Instance, Literal}
use Rattle.obligations.proofs.AdditionLemmas.{gathers_exist}
use Rattle.obligations.proofs.LeafLemmas.{bound_values}
use Rattle.obligations.proofs.AskablePlanLemmas.{leaf_binds, new_distinct, under_row}

-- there is a list with the property
abbrev pub Exists : (List Literal → Type 0) → Type 0
Exists P = (literals : List Literal) × P literals

abbrev pub Begins : (List Instance → Type 0) → Type 0
Begins P = (instances : List Instance) × P instances

-- the list is empty, or has some
pub nothing_or_some : (P : List Literal → Type 0) → Exists P → P [] ⊎ HasSome P
nothing_or_some P ([], is) = inl is
nothing_or_some P (l ∷ ls, is) = inr (l, ls, is)

either_exists : (P Q : List Literal → Type 0) → Exists P → Exists Q → Exists (MissesEither P Q)
either_exists P Q p q =
    ⊎_elim
    (λ nothing. ([], inl (nothing, refl)))
    (λ some. ⊎_elim
    (λ nothing. ([], inr (inl (nothing, refl))))
    (λ others. (q.0, inr (inr (some, others, q.1))))
    (nothing_or_some Q q))
    (nothing_or_some P p)

until_exists : (low : ℕ) (P Q : List Literal → Type 0) → Exists P → Exists Q → Exists (MissesUntil low P Q)
until_exists zero P Q p q =
    ⊎_elim (λ nothing. ([], inl (nothing, refl))) (λ some. (p.0, inr (some, p.1))) (nothing_or_some Q q)
until_exists (suc low) P Q p q = p

always_exists : (low : ℕ) (P : List Literal → Type 0) → Exists P → Exists (MissesAlways low P)
always_exists zero P p = p
always_exists (suc low) P p = ([], refl)

literal_exists : (P : Type 0) (literal : Literal) → P ⊎ (P → ⊥) → Exists (LiteralUnless P literal)
literal_exists P literal decided =
    ⊎_elim (λ holds. ([], inl (holds, refl))) (λ fails. (literal ∷ [], inr (fails, refl))) decided

pub present_or_not : (events : List Event) (event : Event) → Contains events event ⊎ (Contains events event → ⊥)
present_or_not events event = by (list_any (event_eq event) events) (list_any-Decides event_eq event_eq-Decides events event)
  where
    by : (b : Bool) → Decides b (Contains events event) → Contains events event ⊎ (Contains events event → ⊥)
    by true decides = inl (decides.0 refl)
    by false decides = inr (λ there. false≢true (decides.1 there))

pub behind_exists : (i : Instance) (A : List Instance → Type 0) → Begins A → Begins (WithBehind i A)
behind_exists i A a = (i ∷ a.0, (a.0, a.1, refl))

module _ (decided : SafeIsDecided) (have_rows : SafeHasRows) (guards : List (Formula × List VarId)) (trace : List Step) where
  pub rows_exist : (n : ℕ) (f : Formula) (scope xs : List VarId) → IsGuardAt guards n f scope → AreOpen f scope xs → AreNewVariables scope xs
      → (v : Valuation) → (rows : List (List Value)) × AreGuardRows trace v xs f rows
  rows_exist n f scope xs at opening new v =
      let told : AreTold f scope xs = record {
        distinct = new_distinct scope xs new;
        free = λ x there. ((opening.exact x).0 there).0;
        new = new_apart scope xs new;
      } in
      let rows = have_rows trace (last_position trace) v f scope xs at.safe at.fresh told in
      (rows.0, record { fit = rows.1.fit; rise = rows.1.rise; are = rows.1.are })

  pub test_or_not : (n : ℕ) (f : Formula) (scope : List VarId) → IsGuardAt guards n f scope → (v : Valuation)
      → HoldsLast trace v f ⊎ (HoldsLast trace v f → ⊥)
  test_or_not n f scope at v = decided trace (last_position trace) v f scope at.safe at.fresh

  leaf_exists : (scope : List VarId) (v : Valuation) → BindsColumns v scope → (name : NameId) (terms : List Term) → AreTermsInScope scope terms
      → (P : Event → List Literal → Type 0) → ((e : Event) → Exists (P e))
      → Exists (λ literals. OfEvent name (values_of_terms v terms) (λ e. P e literals))
  leaf_exists scope v binds name terms within P each =
      let args = bound_values v terms (leaf_binds scope terms v within binds) in
      let some = each (record { name = name; args = args.0 }) in
      (some.0, subst (λ o. OfEvent name o (λ e. P e some.0)) (sym args.1) some.1)

  pub missing_exists : (plan : Plan) (scope : List VarId) → CanAskIn guards plan scope → (v : Valuation) → FitsScope scope v
      → Exists (Missing trace plan v)
  missing_exists (CausePlan node place name terms) scope can v fit =
      leaf_exists scope v fit.binds name terms can (λ e. LiteralUnless (IsPresent trace e) (cause_literal e node))
      (λ e. literal_exists (IsPresent trace e) (cause_literal e node) (present_or_not (step_at trace (last_position trace)).events e))
  missing_exists (SuppressPlan node place name terms) scope can v fit =
      leaf_exists scope v fit.binds name terms can (λ e. LiteralUnless (IsAbsent trace e) (suppress_literal e node))
      (λ e. literal_exists (IsAbsent trace e) (suppress_literal e node)
      (⊎_elim (λ there. inr (λ absent. absent there)) (λ absent. inl absent) (present_or_not (step_at trace (last_position trace)).events e)))
  missing_exists (Both node left right) scope can v fit =
      let first = missing_exists left scope can.1 v fit in
      let rest = missing_exists right scope can.2 v fit in
      (first.0 ++ rest.0, (first.0, rest.0, first.1, rest.1, refl))
  missing_exists (Either node left right) scope can v fit =
      either_exists (Missing trace left v) (Missing trace right v) (missing_exists left scope can.1 v fit) (missing_exists right scope can.2 v fit)
  missing_exists (TestOr node guard test body) scope can v fit =
      ⊎_elim (λ holds. ([], inl (holds, refl))) (λ fails. let rest = missing_exists body scope can.1 v fit in (rest.0, inr (fails, rest.1)))
      (test_or_not guard test scope can.0.0 v)
  missing_exists (Guarded node xs guard test body) scope can v fit =
      let rows = rows_exist guard test scope xs can.0.0 can.0.1 can.0.2 v in
      let all = gathers_exist (λ row. Missing trace body (with_values xs row v)) rows.0 (λ row there.
      missing_exists body (scope ++ xs) can.1 (with_values xs row v)
      (under_row scope xs can.0.2 v fit row (All-contains (λ (r : List Value). length r ≡ length xs) rows.0 row rows.1.fit there))) in
      (all.0, (rows.0, rows.1, all.1))
  missing_exists (EventuallyPlan node place low high body) scope can v fit = ([], refl)
  missing_exists (AlwaysPlan node place low high body) scope can v fit =
      always_exists low (Missing trace body v) (missing_exists body scope can.1 v fit)
  missing_exists (UntilPlan node place low high left right) scope can v fit =
      until_exists low (Missing trace left v) (Missing trace right v) (missing_exists left scope can.1 v fit) (missing_exists right scope can.2 v fit)
  missing_exists (NextPlan node place high body) scope can v fit = ([], refl)

  nothing_or_lacks : (plan : Plan) (scope : List VarId) → CanAskIn guards plan scope → (v : Valuation) → FitsScope scope v
      → LacksNothing trace plan v ⊎ LacksSome trace plan v
  nothing_or_lacks plan scope can v fit = nothing_or_some (Missing trace plan v) (missing_exists plan scope can v fit)

  -- ---- what is begun

  takes_exists : (side : Plan) (v : Valuation) (A B : List Instance → Type 0) → LacksNothing trace side v ⊎ LacksSome trace side v
      → Begins A → Begins B → Begins (λ xs. TakesOrElse trace side v (A xs) (B xs))
  takes_exists side v A B told a b =
      ⊎_elim (λ nothing. (a.0, inl (nothing, a.1))) (λ some. (b.0, inr (some, b.1))) told

  present_exists : (side : Plan) (v : Valuation) (A B : List Instance → Type 0) → LacksNothing trace side v ⊎ LacksSome trace side v
      → Begins A → Begins B → Begins (λ xs. TakesPresent trace side v (A xs) (B xs))
  present_exists side v A B told a b = by (has_future side)
    where
      by : (ahead : Bool) → Begins (λ xs. IfElse ahead (B xs) (TakesOrElse trace side v (A xs) (B xs)))
      by true = b
      by false = takes_exists side v A B told a b

  waits_exist : (low : ℕ) (side : Plan) (v : Valuation) (A B : List Instance → Type 0) → LacksNothing trace side v ⊎ LacksSome trace side v
      → Begins A → Begins B → Begins (λ xs. BeginsOrWaits trace low side v (A xs) (B xs))
  waits_exist zero side v A B told a b = takes_exists side v A B told a b
  waits_exist (suc low) side v A B told a b = b

  always_begins : (low : ℕ) (i : Instance) (A : List Instance → Type 0) → Begins A → Begins (BeginsAlways low i A)
  always_begins zero i A a = behind_exists i A a
  always_begins (suc low) i A a = (i ∷ [], refl)

  pub begun_exists : (rule : ℕ) (plan : Plan) (scope : List VarId) → CanAskIn guards plan scope → (v : Valuation) → FitsScope scope v
      → Begins (Begun trace rule plan v)
  begun_exists rule (CausePlan node place name terms) scope can v fit = ([], refl)
  begun_exists rule (SuppressPlan node place name terms) scope can v fit = ([], refl)
  begun_exists rule (Both node left right) scope can v fit =
      let first = begun_exists rule left scope can.1 v fit in
      let rest = begun_exists rule right scope can.2 v fit in
      (first.0 ++ rest.0, (first.0, rest.0, first.1, rest.1, refl))
  begun_exists rule (Either node left right) scope can v fit =
      let L = Begun trace rule left v in
      let R = Begun trace rule right v in
      let l = begun_exists rule left scope can.1 v fit in
      let r = begun_exists rule right scope can.2 v fit in
      let on_left = nothing_or_lacks left scope can.1 v fit in
      let on_right = nothing_or_lacks right scope can.2 v fit in
      let last = takes_exists left v L (λ xs. xs ≡ []) on_left l ([], refl) in
      let third = takes_exists right v R (λ xs. TakesOrElse trace left v (L xs) (xs ≡ [])) on_right r last in
      let second = present_exists left v L (λ xs. TakesOrElse trace right v (R xs) (TakesOrElse trace left v (L xs) (xs ≡ []))) on_left l third in
      present_exists right v R (λ xs. TakesPresent trace left v (L xs) (TakesOrElse trace right v (R xs) (TakesOrElse trace left v (L xs) (xs ≡ [])))) on_right r second
  begun_exists rule (TestOr node guard test body) scope can v fit =
      ⊎_elim (λ holds. ([], inl (holds, refl))) (λ fails. let rest = begun_exists rule body scope can.1 v fit in (rest.0, inr (fails, rest.1)))
      (test_or_not guard test scope can.0.0 v)
  begun_exists rule (Guarded node xs guard test body) scope can v fit =
      let rows = rows_exist guard test scope xs can.0.0 can.0.1 can.0.2 v in
      let all = gathers_exist (λ row. Begun trace rule body (with_values xs row v)) rows.0 (λ row there.
      begun_exists rule body (scope ++ xs) can.1 (with_values xs row v)
      (under_row scope xs can.0.2 v fit row (All-contains (λ (r : List Value). length r ≡ length xs) rows.0 row rows.1.fit there))) in
      (all.0, (rows.0, rows.1, all.1))
  begun_exists rule (EventuallyPlan node place low high body) scope can v fit =
      waits_exist low body v (Begun trace rule body v) (λ xs. xs ≡ begun_now trace rule node low high v ∷ [])
      (nothing_or_lacks body scope can.1 v fit) (begun_exists rule body scope can.1 v fit) (begun_now trace rule node low high v ∷ [], refl)
  begun_exists rule (AlwaysPlan node place low high body) scope can v fit =
      always_begins low (begun_now trace rule node low high v) (Begun trace rule body v) (begun_exists rule body scope can.1 v fit)
  begun_exists rule (UntilPlan node place low high left right) scope can v fit =
      waits_exist low right v (Begun trace rule right v) (WithBehind (begun_now trace rule node low high v) (Begun trace rule left v))
      (nothing_or_lacks right scope can.2 v fit) (begun_exists rule right scope can.2 v fit)
      (behind_exists (begun_now trace rule node low high v) (Begun trace rule left v) (begun_exists rule left scope can.1 v fit))
  begun_exists rule (NextPlan node place high body) scope can v fit = (begun_now trace rule node 0 high v ∷ [], refl)

pub plan_misses : SafeIsDecided → SafeHasRows → MissingExists
plan_misses decided rows guards trace plan v can = missing_exists decided rows guards trace plan can.scope can.can v can.fits

pub plan_begins : SafeIsDecided → SafeHasRows → BegunExists
plan_begins decided rows guards trace rule plan v can = begun_exists decided rows guards trace rule plan can.scope can.can v can.fits
