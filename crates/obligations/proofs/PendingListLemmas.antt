-- What pending instances miss and become is a list, and what is begun and pending can be asked.
use Rattle.obligations.proofs.Vocabulary.{◌≡◌, ℕ, zero, suc, ◌+◌, ◌<◌, ◌≤◌, Bool, true, false, List, [], ◌∷◌, ◌++◌, length, take, Some, refl, sym, subst, inl, inr, ⊎_elim, ◌⊎◌, arith, AllByRecursion}
use Rattle.obligations.proofs.Vocabulary.{cases_lt, false≢true, recursion_from_All, AllByRecursion-append, AllByRecursion-contains, Valuation, no_values, with_values, Step, VarId, Value, Formula}
use Rattle.obligations.proofs.Vocabulary.{EndsInTime, has_future, is_future, nodes, node_in, Plan, CausePlan, SuppressPlan, Both, Either, TestOr, Guarded, EventuallyPlan, AlwaysPlan, UntilPlan}
use Rattle.obligations.proofs.Vocabulary.{NextPlan, FoundIsFirst, IsNodeByNumber, StandsIn, CanAskPlan, CanAskIn, CanAskOf, CanAskRoots, FitsScope, BeginsOrWaits, Begun, LacksNothing, LacksSome}
use Rattle.obligations.proofs.Vocabulary.{IfElse, WithBehind, begun_now, time_now, Missing, Gathers, AfterExists, BegunExists, PendingAfterExists, MissingExists, MissingOfExists, PendExists}
use Rattle.obligations.proofs.Vocabulary.{BegunCanBeAsked, PendingAfterCanBeAsked, PendCanBeAsked, After, AtNode, BecomesAt, BeginsInWindow, BegunByRoots, PendingAfter, IsNowIn, MissesAt, PendsBehind}
use Rattle.obligations.proofs.Vocabulary.{PlansStand, Instance}
use Rattle.std.proofs.Common.{slice_get}
use Rattle.obligations.proofs.AdditionLemmas.{gathers_exist}
use Rattle.obligations.proofs.AskablePlanLemmas.{under_row}
use Rattle.obligations.proofs.SoundnessLemmas.{all_left, all_right, taken}
use Rattle.obligations.proofs.ExistenceLemmas.{Begins, Exists, behind_exists, nothing_or_some}
use Rattle.obligations.proofs.TraceLemmas.{stands_found}

-- ---- what an instance misses and becomes

-- a time is in the window, or before it, or after it
in_or_out : (trace : List Step) (i : Instance) → IsNowIn trace i ⊎ (IsNowIn trace i → ⊥)
in_or_out trace i =
    ⊎_elim
    (λ (early : time_now trace < i.low). inr (λ inside. let from = inside.0 in omega (arith, early, from)))
    (λ (from : i.low ≤ time_now trace). ⊎_elim
    (λ (late : i.high < time_now trace). inr (λ inside. let to = inside.1 in omega (arith, late, to)))
    (λ (to : time_now trace ≤ i.high). inl (from, to))
    (cases_lt i.high (time_now trace)))
    (cases_lt (time_now trace) i.low)

where_exists : {X : Type 0} (b : Bool) (P Q : List X → Type 0) → ((xs : List X) × P xs) → ((xs : List X) × Q xs)
    → (xs : List X) × IfElse b (P xs) (Q xs)
where_exists true P Q p q = p
where_exists false P Q p q = q

module _ (misses : MissingExists) (begins : BegunExists) (guards : List (Formula × List VarId)) (trace : List Step) where
  -- a part of a node, with the variables in scope at the node
  module _ (scope : List VarId) (v : Valuation) (fits : FitsScope scope v) where
    part_misses : (part : Plan) → CanAskIn guards part scope → Exists (Missing trace part v)
    part_misses part can = misses guards trace part v (record { scope = scope; can = can; fits = fits })

    part_begins : (rule : ℕ) (part : Plan) → CanAskIn guards part scope → Begins (Begun trace rule part v)
    part_begins rule part can = begins guards trace rule part v (record { scope = scope; can = can; fits = fits })

    nothing_or_lacks : (part : Plan) → CanAskIn guards part scope → LacksNothing trace part v ⊎ LacksSome trace part v
    nothing_or_lacks part can = nothing_or_some (Missing trace part v) (part_misses part can)

  -- in its window and with nothing missing of a part, or not
  met_or_not : (i : Instance) (part : Plan) → LacksNothing trace part i.valuation ⊎ LacksSome trace part i.valuation
      → (IsNowIn trace i × LacksNothing trace part i.valuation) ⊎ (IsNowIn trace i → LacksSome trace part i.valuation)
  met_or_not i part told =
      ⊎_elim
      (λ inside. ⊎_elim (λ nothing. inl (inside, nothing)) (λ some. inr (λ again. some)) told)
      (λ outside. inr (λ inside. absurd (outside inside)))
      (in_or_out trace i)

  node_misses : (node : Plan) (i : Instance) (forced : Bool) → is_future node ≡ true → CanAskPlan guards node i.valuation
      → Exists (MissesAt trace node i forced)
  node_misses (EventuallyPlan node place low high body) i forced future can =
      where_exists forced (Missing trace body i.valuation) (λ xs. xs ≡ []) (part_misses can.scope i.valuation can.fits body can.can.1) ([], refl)
  node_misses (NextPlan node place high body) i forced future can = part_misses can.scope i.valuation can.fits body can.can.1
  node_misses (AlwaysPlan node place low high body) i forced future can =
      let some = part_misses can.scope i.valuation can.fits body can.can.1 in
      ⊎_elim (λ inside. (some.0, inl (inside, some.1))) (λ outside. ([], inr (outside, refl))) (in_or_out trace i)
  node_misses (UntilPlan node place low high left right) i forced future can =
      let last =
      where_exists forced (Missing trace right i.valuation) (Missing trace left i.valuation)
      (part_misses can.scope i.valuation can.fits right can.can.2) (part_misses can.scope i.valuation can.fits left can.can.1)
      in
      ⊎_elim
      (λ met. ([], inl (met.0, met.1, refl)))
      (λ waits. (last.0, inr (waits, last.1)))
      (met_or_not i right (nothing_or_lacks can.scope i.valuation can.fits right can.can.2))
  node_misses (CausePlan node place name terms) i forced future can = absurd (false≢true future)
  node_misses (SuppressPlan node place name terms) i forced future can = absurd (false≢true future)
  node_misses (Both node left right) i forced future can = absurd (false≢true future)
  node_misses (Either node left right) i forced future can = absurd (false≢true future)
  node_misses (TestOr node guard test body) i forced future can = absurd (false≢true future)
  node_misses (Guarded node xs guard test body) i forced future can = absurd (false≢true future)

  window_begins : (i : Instance) (part : Plan) (A B : List Instance → Type 0)
      → LacksNothing trace part i.valuation ⊎ LacksSome trace part i.valuation → Begins A → Begins B
      → Begins (λ xs. BeginsInWindow trace part i (A xs) (B xs))
  window_begins i part A B told a b =
      ⊎_elim (λ met. (a.0, inl (met.0, met.1, a.1))) (λ waits. (b.0, inr (waits, b.1))) (met_or_not i part told)

  node_becomes : (node : Plan) (i : Instance) → is_future node ≡ true → CanAskPlan guards node i.valuation
      → Begins (BecomesAt trace node i)
  node_becomes (EventuallyPlan node place low high body) i future can =
      window_begins i body (Begun trace i.rule body i.valuation) (λ xs. xs ≡ i ∷ [])
      (nothing_or_lacks can.scope i.valuation can.fits body can.can.1) (part_begins can.scope i.valuation can.fits i.rule body can.can.1) (i ∷ [], refl)
  node_becomes (NextPlan node place high body) i future can = part_begins can.scope i.valuation can.fits i.rule body can.can.1
  node_becomes (AlwaysPlan node place low high body) i future can =
      let more = behind_exists i (Begun trace i.rule body i.valuation) (part_begins can.scope i.valuation can.fits i.rule body can.can.1) in
      ⊎_elim
      (λ (early : time_now trace < i.low). (i ∷ [], inl (early, refl)))
      (λ (from : i.low ≤ time_now trace). ⊎_elim
      (λ (late : i.high < time_now trace). ([], inr (inr (from, late, refl))))
      (λ (to : time_now trace ≤ i.high). (more.0, inr (inl ((from, to), more.1))))
      (cases_lt i.high (time_now trace)))
      (cases_lt (time_now trace) i.low)
  node_becomes (UntilPlan node place low high left right) i future can =
      window_begins i right (Begun trace i.rule right i.valuation) (WithBehind i (Begun trace i.rule left i.valuation))
      (nothing_or_lacks can.scope i.valuation can.fits right can.can.2) (part_begins can.scope i.valuation can.fits i.rule right can.can.2)
      (behind_exists i (Begun trace i.rule left i.valuation) (part_begins can.scope i.valuation can.fits i.rule left can.can.1))
  node_becomes (CausePlan node place name terms) i future can = absurd (false≢true future)
  node_becomes (SuppressPlan node place name terms) i future can = absurd (false≢true future)
  node_becomes (Both node left right) i future can = absurd (false≢true future)
  node_becomes (Either node left right) i future can = absurd (false≢true future)
  node_becomes (TestOr node guard test body) i future can = absurd (false≢true future)
  node_becomes (Guarded node xs guard test body) i future can = absurd (false≢true future)

pub missing_of_exists : MissingExists → BegunExists → MissingOfExists
missing_of_exists misses begins guards plans trace i forced can =
    let some = node_misses misses begins guards trace can.node i forced can.future can.can in
    (some.0, subst (λ o. AtNode o (λ node. MissesAt trace node i forced some.0)) (sym can.found) some.1)

pub after_exists : MissingExists → BegunExists → AfterExists
after_exists misses begins guards plans trace i can =
    let some = node_becomes misses begins guards trace can.node i can.future can.can in
    (some.0, subst (λ o. AtNode o (λ node. BecomesAt trace node i some.0)) (sym can.found) some.1)

roots_begin : BegunExists → (guards : List (Formula × List VarId)) (trace : List Step) (rule : ℕ) (plans : List Plan)
    → CanAskRoots guards plans → Begins (BegunByRoots trace rule plans)
roots_begin begins guards trace rule [] can = ([], refl)
roots_begin begins guards trace rule (plan ∷ plans) can =
    let first = begins guards trace rule plan no_values can.0.0 in
    let rest = roots_begin begins guards trace (suc rule) plans can.1 in
    (first.0 ++ rest.0, (first.0, rest.0, first.1, rest.1, refl))

pub goes_exists : MissingExists → BegunExists → PendingAfterExists
goes_exists misses begins guards plans trace before can each =
    let kept =
    gathers_exist (After plans trace) before
    (λ i there. after_exists misses begins guards plans trace i (AllByRecursion-contains (CanAskOf guards plans) before i each there))
    in
    let begun = roots_begin begins guards trace 0 plans can in
    (kept.0 ++ begun.0, (kept.0, begun.0, kept.1, begun.1, refl))

-- ---- what is begun can be asked

module _ (guards : List (Formula × List VarId)) (plans : List Plan) (trace : List Step) where
  abbrev pub AreAsked : List Instance → Type 0
  AreAsked instances = AllByRecursion (CanAskOf guards plans) instances

  none_asked : (begun : List Instance) → begun ≡ [] → AreAsked begun
  none_asked begun none = subst AreAsked (sym none) tt

  one_asked : (i : Instance) (begun : List Instance) → CanAskOf guards plans i → begun ≡ i ∷ [] → AreAsked begun
  one_asked i begun can is = subst AreAsked (sym is) (can, tt)

  both_asked : (first rest begun : List Instance) → AreAsked first → AreAsked rest → begun ≡ first ++ rest → AreAsked begun
  both_asked first rest begun one other is =
      subst AreAsked (sym is) (AllByRecursion-append (CanAskOf guards plans) first rest one other)

  behind_asked : (i : Instance) (P : List Instance → Type 0) → CanAskOf guards plans i
      → ((more : List Instance) → P more → AreAsked more) → (begun : List Instance) → WithBehind i P begun → AreAsked begun
  behind_asked i P can each begun (more, is_more, is) = subst AreAsked (sym is) (can, each more is_more)

  gathered_asked : {X : Type 0} (P : X → List Instance → Type 0) (Fits : X → Type 0)
      → ((x : X) → Fits x → (begun : List Instance) → P x begun → AreAsked begun)
      → (xs : List X) → AllByRecursion Fits xs → (begun : List Instance) → Gathers P xs begun → AreAsked begun
  gathered_asked P Fits each [] fit begun none = none_asked begun none
  gathered_asked P Fits each (x ∷ xs) fit begun (first, rest, of_first, of_rest, is) =
      both_asked first rest begun (each x fit.0 first of_first) (gathered_asked P Fits each xs fit.1 rest of_rest) is

  -- a node of a rule with its variables in scope, which its number names
  pub record Stands (rule : ℕ) (scope : List VarId) (plan : Plan) : Type 0 where
    pub can : CanAskIn guards plan scope
    pub named : AllByRecursion (IsNodeByNumber plans rule) (nodes plan)
    pub ends : AllByRecursion EndsInTime (nodes plan)

  -- an instance of a node on the future that is begun now
  begins_asked : (rule : ℕ) (scope : List VarId) (plan : Plan) (number low high : ℕ) → is_future plan ≡ true
      → node_in plans rule number ≡ Some plan → Stands rule scope plan → (v : Valuation) → FitsScope scope v
      → CanAskOf guards plans (begun_now trace rule number low high v)
  begins_asked rule scope plan number low high future found stands v fits = record {
    node = plan;
    found = found;
    future = future;
    can = record { scope = scope; can = stands.can; fits = fits };
    ends = stands.ends;
  }

  waits_asked : (low : ℕ) (body : Plan) (v : Valuation) (A B : Type 0) (begun : List Instance) → (A → AreAsked begun)
      → (B → AreAsked begun) → BeginsOrWaits trace low body v A B → AreAsked begun
  waits_asked zero body v A B begun first second begins =
      ⊎_elim (λ nothing. first nothing.1) (λ some. second some.1) begins
  waits_asked (suc low) body v A B begun first second begins = second begins

  pub begun_asked : (rule : ℕ) (scope : List VarId) (plan : Plan) → Stands rule scope plan → (v : Valuation) → FitsScope scope v
      → (begun : List Instance) → Begun trace rule plan v begun → AreAsked begun
  begun_asked rule scope (CausePlan node place name terms) stands v fits begun none = none_asked begun none
  begun_asked rule scope (SuppressPlan node place name terms) stands v fits begun none = none_asked begun none
  begun_asked rule scope (Both node left right) stands v fits begun (first, rest, of_first, of_rest, is) =
      both_asked first rest begun
      (begun_asked rule scope left (record { can = stands.can.1; named = all_left _ (nodes left) (nodes right) stands.named.1; ends = all_left _ (nodes left) (nodes right) stands.ends.1 })
      v fits first of_first)
      (begun_asked rule scope right (record {
        can = stands.can.2;
        named = all_right _ (nodes left) (nodes right) stands.named.1;
        ends = all_right _ (nodes left) (nodes right) stands.ends.1;
      }) v fits rest of_rest)
      is
  begun_asked rule scope (Either node left right) stands v fits begun begins =
      let on_left : Begun trace rule left v begun → AreAsked begun =
      begun_asked rule scope left (record { can = stands.can.1; named = all_left _ (nodes left) (nodes right) stands.named.1; ends = all_left _ (nodes left) (nodes right) stands.ends.1 }) v fits begun
      in
      let on_right : Begun trace rule right v begun → AreAsked begun =
      begun_asked rule scope right (record {
        can = stands.can.2;
        named = all_right _ (nodes left) (nodes right) stands.named.1;
        ends = all_right _ (nodes left) (nodes right) stands.ends.1;
      }) v fits begun
      in
      ⊎_elim (λ side. on_right side.1)
      (λ second. ⊎_elim (λ side. on_left side.1)
      (λ third. ⊎_elim (λ side. on_right side.1) (λ fourth. ⊎_elim (λ side. on_left side.1) (λ neither. none_asked begun neither.1) fourth.1) third)
      (taken (has_future left) trace left v second))
      (taken (has_future right) trace right v begins)
  begun_asked rule scope (TestOr node guard test body) stands v fits begun begins =
      ⊎_elim
      (λ met. none_asked begun met.1)
      (λ fails. begun_asked rule scope body (record { can = stands.can.1; named = stands.named.1; ends = stands.ends.1 }) v fits begun fails.1)
      begins
  begun_asked rule scope (Guarded node xs guard test body) stands v fits begun (rows, are, gathered) =
      gathered_asked (λ row. Begun trace rule body (with_values xs row v)) (λ (row : List Value). length row ≡ length xs)
      (λ row long. begun_asked rule (scope ++ xs) body (record { can = stands.can.1; named = stands.named.1; ends = stands.ends.1 }) (with_values xs row v)
      (under_row scope xs stands.can.0.2 v fits row long))
      rows (recursion_from_All _ rows are.fit) begun gathered
  begun_asked rule scope (EventuallyPlan node place low high body) stands v fits begun begins =
      waits_asked low body v (Begun trace rule body v begun) (begun ≡ begun_now trace rule node low high v ∷ []) begun
      (begun_asked rule scope body (record { can = stands.can.1; named = stands.named.1; ends = stands.ends.1 }) v fits begun)
      (one_asked (begun_now trace rule node low high v) begun (begins_asked rule scope (EventuallyPlan node place low high body) node low high refl stands.named.0 stands v fits))
      begins
  begun_asked rule scope (AlwaysPlan node place zero high body) stands v fits begun begins =
      behind_asked (begun_now trace rule node zero high v) (Begun trace rule body v)
      (begins_asked rule scope (AlwaysPlan node place zero high body) node zero high refl stands.named.0 stands v fits)
      (begun_asked rule scope body (record { can = stands.can.1; named = stands.named.1; ends = stands.ends.1 }) v fits)
      begun begins
  begun_asked rule scope (AlwaysPlan node place (suc low) high body) stands v fits begun is =
      one_asked (begun_now trace rule node (suc low) high v) begun
      (begins_asked rule scope (AlwaysPlan node place (suc low) high body) node (suc low) high refl stands.named.0 stands v fits) is
  begun_asked rule scope (UntilPlan node place low high left right) stands v fits begun begins =
      waits_asked low right v (Begun trace rule right v begun) (WithBehind (begun_now trace rule node low high v) (Begun trace rule left v) begun) begun
      (begun_asked rule scope right (record {
        can = stands.can.2;
        named = all_right _ (nodes left) (nodes right) stands.named.1;
        ends = all_right _ (nodes left) (nodes right) stands.ends.1;
      }) v fits begun)
      (behind_asked (begun_now trace rule node low high v) (Begun trace rule left v)
      (begins_asked rule scope (UntilPlan node place low high left right) node low high refl stands.named.0 stands v fits)
      (begun_asked rule scope left (record { can = stands.can.1; named = all_left _ (nodes left) (nodes right) stands.named.1; ends = all_left _ (nodes left) (nodes right) stands.ends.1 }) v fits)
      begun)
      begins
  begun_asked rule scope (NextPlan node place high body) stands v fits begun is =
      one_asked (begun_now trace rule node 0 high v) begun (begins_asked rule scope (NextPlan node place high body) node 0 high refl stands.named.0 stands v fits) is

  -- ---- what an instance becomes can be asked

  becomes_asked : (node : Plan) (i : Instance) (scope : List VarId) → CanAskOf guards plans i → Stands i.rule scope node
      → FitsScope scope i.valuation → (after : List Instance) → BecomesAt trace node i after → AreAsked after
  becomes_asked (EventuallyPlan node place low high body) i scope asked stands fits after becomes =
      ⊎_elim
      (λ met. begun_asked i.rule scope body (record { can = stands.can.1; named = stands.named.1; ends = stands.ends.1 }) i.valuation fits after met.2)
      (λ waits. one_asked i after asked waits.1)
      becomes
  becomes_asked (NextPlan node place high body) i scope asked stands fits after becomes =
      begun_asked i.rule scope body (record { can = stands.can.1; named = stands.named.1; ends = stands.ends.1 }) i.valuation fits after becomes
  becomes_asked (AlwaysPlan node place low high body) i scope asked stands fits after becomes =
      ⊎_elim
      (λ early. one_asked i after asked early.1)
      (λ others. ⊎_elim
      (λ inside. behind_asked i (Begun trace i.rule body i.valuation) asked
      (begun_asked i.rule scope body (record { can = stands.can.1; named = stands.named.1; ends = stands.ends.1 }) i.valuation fits) after inside.1)
      (λ late. none_asked after late.2)
      others)
      becomes
  becomes_asked (UntilPlan node place low high left right) i scope asked stands fits after becomes =
      ⊎_elim
      (λ met. begun_asked i.rule scope right (record {
        can = stands.can.2;
        named = all_right _ (nodes left) (nodes right) stands.named.1;
        ends = all_right _ (nodes left) (nodes right)
            stands.ends.1;
      }) i.valuation fits after met.2)
      (λ waits. behind_asked i (Begun trace i.rule left i.valuation) asked
      (begun_asked i.rule scope left (record {
        can = stands.can.1;
        named = all_left _ (nodes left) (nodes right) stands.named.1;
        ends = all_left _ (nodes left) (nodes right) stands.ends.1;
      }) i.valuation fits) after waits.1)
      becomes
  becomes_asked (CausePlan node place name terms) i scope asked stands fits after becomes = absurd becomes
  becomes_asked (SuppressPlan node place name terms) i scope asked stands fits after becomes = absurd becomes
  becomes_asked (Both node left right) i scope asked stands fits after becomes = absurd becomes
  becomes_asked (Either node left right) i scope asked stands fits after becomes = absurd becomes
  becomes_asked (TestOr node guard test body) i scope asked stands fits after becomes = absurd becomes
  becomes_asked (Guarded node xs guard test body) i scope asked stands fits after becomes = absurd becomes

  after_asked : FoundIsFirst → PlansStand plans → (i : Instance) → CanAskOf guards plans i → (after : List Instance)
      → After plans trace i after → AreAsked after
  after_asked first stand i asked after becomes =
      becomes_asked asked.node i asked.can.scope asked
      (record { can = asked.can.can; named = (stands_found first plans stand i asked.node asked.found).named; ends = asked.ends })
      asked.can.fits after (subst (λ o. AtNode o (λ node. BecomesAt trace node i after)) asked.found becomes)

  roots_asked : (rule : ℕ) (others : List Plan)
      → ((k : ℕ) (plan : Plan) → slice_get others k ≡ Some plan → StandsIn plans (rule + k) plan) → CanAskRoots guards others
      → (begun : List Instance) → BegunByRoots trace rule others begun → AreAsked begun
  roots_asked rule [] stand can begun none = none_asked begun none
  roots_asked rule (plan ∷ others) stand can begun (first, rest, begins, behind, is) =
      let this : StandsIn plans rule plan =
      subst (λ (r : ℕ). StandsIn plans r plan) {x = rule + 0} {y = rule} (omega arith) (stand 0 plan refl)
      in
      both_asked first rest begun
      (begun_asked rule can.0.0.scope plan (record { can = can.0.0.can; named = this.named; ends = can.0.1 }) no_values can.0.0.fits first begins)
      (roots_asked (suc rule) others (λ k p at. subst (λ (r : ℕ). StandsIn plans r p) {x = rule + suc k} {y = suc rule + k} (omega arith) (stand (suc k) p at)) can.1 rest behind)
      is

  goes_asked : FoundIsFirst → PlansStand plans → CanAskRoots guards plans → (before after : List Instance) → AreAsked before
      → PendingAfter plans trace before after → AreAsked after
  goes_asked first stand can before after each (kept, begun, goes, begins, is) =
      both_asked kept begun after
      (gathered_asked (After plans trace) (CanAskOf guards plans) (λ i asked. after_asked first stand i asked) before each kept goes)
      (roots_asked 0 plans (λ k plan found. subst (λ (r : ℕ). StandsIn plans r plan) {x = k} {y = 0 + k} (omega arith) (stand k plan found)) can begun begins)
      is

pub begun_can_be_asked : BegunCanBeAsked
begun_can_be_asked guards plans trace rule plan v begun stands can ends begins =
    begun_asked guards plans trace rule can.scope plan (record { can = can.can; named = stands.named; ends = ends }) v can.fits begun begins

pub goes_can_be_asked : FoundIsFirst → PendingAfterCanBeAsked
goes_can_be_asked first guards plans trace before after stand can each goes =
    goes_asked guards plans trace first stand can before after each goes

-- ---- along a trace

pends_asked : PendingAfterCanBeAsked → (guards : List (Formula × List VarId)) (plans : List Plan) (trace : List Step) → PlansStand plans
    → CanAskRoots guards plans → (steps : ℕ) (pending : List Instance) → PendsBehind plans trace steps pending
    → AllByRecursion (CanAskOf guards plans) pending
pends_asked goes guards plans trace stand can zero pending none = none_asked guards plans trace pending none
pends_asked goes guards plans trace stand can (suc steps) pending (before, pend, next) =
    goes guards plans (take (suc steps) trace) before pending stand can (pends_asked goes guards plans trace stand can steps before pend) next

pub pend_can_be_asked : FoundIsFirst → PendCanBeAsked
pend_can_be_asked first guards plans trace pending stand can pend =
    pends_asked (goes_can_be_asked first) guards plans trace stand can (length trace) pending pend

module _ (goes : PendingAfterExists) (asked : PendingAfterCanBeAsked) (guards : List (Formula × List VarId)) (plans : List Plan)
    (trace : List Step) (stand : PlansStand plans) (can : CanAskRoots guards plans) where
  pends_exist : (steps : ℕ) → Begins (PendsBehind plans trace steps)
  pends_exist zero = ([], refl)
  pends_exist (suc steps) =
      let before = pends_exist steps in
      let each = pends_asked asked guards plans trace stand can steps before.0 before.1 in
      let next = goes guards plans (take (suc steps) trace) before.0 can each in
      (next.0, (before.0, before.1, next.1))

pub pend_exists : PendingAfterExists → PendingAfterCanBeAsked → PendExists
pend_exists goes asked guards plans trace stand can = pends_exist goes asked guards plans trace stand can (length trace)
