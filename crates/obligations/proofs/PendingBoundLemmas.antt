-- What is pending after a trace can be so: by induction over plans, and along the trace.
use Rattle.obligations.proofs.Vocabulary.{◌≡◌, ◌∙◌, ℕ, zero, suc, ◌+◌, ◌-◌, ◌<◌, ◌≤◌, Bool, true, false, cond, List, [], ◌∷◌, ◌++◌, length, take, Contains, Option, None, Some, ⊎_elim, refl, sym, ap}
use Rattle.obligations.proofs.Vocabulary.{subst, arith, slice_get, find, option_map, length-take-le, All-contains, All-contains_itself, All-weaker, Contains-append_left, Contains-append_right}
use Rattle.obligations.proofs.Vocabulary.{none-some, same_Some, slice_get-get_or, slice_get-map, AllByRecursion-contains, Contains-append, first_or_later, here, later, none_in_nil, there_from_get}
use Rattle.obligations.proofs.Vocabulary.{Valuation, no_values, variable_cmp, with_values, Step, VarId, Value, Formula, EndsInTime, AreWellFormed, IsWellFormed, has_deadline, has_future, has_number}
use Rattle.obligations.proofs.Vocabulary.{is_future, nodes, node_number, node_in, nodes_of, Plan, CausePlan, SuppressPlan, Both, Either, TestOr, Guarded, EventuallyPlan, AlwaysPlan, UntilPlan}
use Rattle.obligations.proofs.Vocabulary.{NextPlan, AtEach-below, AtEach-root, FoundIsFirst, NodesHaveScopes, AtEach, IsScopedNode, scoped_at, scoped_nodes, FitsScope, only_future, future_in}
use Rattle.obligations.proofs.Vocabulary.{scoped_in_plan, BeginsAlways, BeginsOrWaits, Begun, WithBehind, begun_now, CanBePending, IsNext, first_end, second_end, PendCanBePending, After, AtNode}
use Rattle.obligations.proofs.Vocabulary.{BecomesAt, HasDeadline, PendsBehind, Instance}
use Rattle.obligations.proofs.GatheredLists.{BegunByRoots-contains, Gathers-contains}
use Rattle.obligations.proofs.AskablePlanLemmas.{under_row}
use Rattle.obligations.proofs.SoundnessLemmas.{taken}
use Rattle.std.specs.FinMap as finite

-- ---- where nodes lie in a plan

-- it is the one that its number names in the plan of a rule, with the variables in scope there
pub record Lies (plans : List Plan) (rule : ℕ) (node : Plan) (scope : List VarId) : Type 0 where
  pub named : scoped_in_plan (node_number node) (slice_get plans rule) ≡ Some (node, scope)
  pub scoped : IsScopedNode node scope
  pub ends : EndsInTime node

abbrev pub AllLie : List Plan → (rule : ℕ) → Plan → List VarId → Type 0
AllLie plans rule = AtEach (Lies plans rule)

pub each_from_nodes : (P : Plan → List VarId → Type 0) (plan : Plan) (scope : List VarId)
    → ((node : Plan × List VarId) → Contains (scoped_nodes plan scope) node → P node.0 node.1) → AtEach P plan scope
each_from_nodes P (CausePlan node place name terms) scope each = each (CausePlan node place name terms, scope) (here _ [])
each_from_nodes P (SuppressPlan node place name terms) scope each = each (SuppressPlan node place name terms, scope) (here _ [])
each_from_nodes P (Both node left right) scope each = (
  each (Both node left right, scope) (here _ _),
  each_from_nodes P left scope (λ n there. each n (later n _ _ (Contains-append_left (scoped_nodes left scope) (scoped_nodes right scope) n there))),
  each_from_nodes P right scope (λ n there. each n (later n _ _ (Contains-append_right (scoped_nodes left scope) (scoped_nodes right scope) n there))),
)
each_from_nodes P (Either node left right) scope each = (
  each (Either node left right, scope) (here _ _),
  each_from_nodes P left scope (λ n there. each n (later n _ _ (Contains-append_left (scoped_nodes left scope) (scoped_nodes right scope) n there))),
  each_from_nodes P right scope (λ n there. each n (later n _ _ (Contains-append_right (scoped_nodes left scope) (scoped_nodes right scope) n there))),
)
each_from_nodes P (TestOr node guard test body) scope each =
    (each (TestOr node guard test body, scope) (here _ _), each_from_nodes P body scope (λ n there. each n (later n _ _ there)))
each_from_nodes P (Guarded node xs guard test body) scope each =
    (each (Guarded node xs guard test body, scope) (here _ _), each_from_nodes P body (scope ++ xs) (λ n there. each n (later n _ _ there)))
each_from_nodes P (EventuallyPlan node place low high body) scope each =
    (each (EventuallyPlan node place low high body, scope) (here _ _), each_from_nodes P body scope (λ n there. each n (later n _ _ there)))
each_from_nodes P (AlwaysPlan node place low high body) scope each =
    (each (AlwaysPlan node place low high body, scope) (here _ _), each_from_nodes P body scope (λ n there. each n (later n _ _ there)))
each_from_nodes P (UntilPlan node place low high left right) scope each = (
  each (UntilPlan node place low high left right, scope) (here _ _),
  each_from_nodes P left scope (λ n there. each n (later n _ _ (Contains-append_left (scoped_nodes left scope) (scoped_nodes right scope) n there))),
  each_from_nodes P right scope (λ n there. each n (later n _ _ (Contains-append_right (scoped_nodes left scope) (scoped_nodes right scope) n there))),
)
each_from_nodes P (NextPlan node place high body) scope each =
    (each (NextPlan node place high body, scope) (here _ _), each_from_nodes P body scope (λ n there. each n (later n _ _ there)))

-- what passes a test at just one place is found
found_there : {X : Type 0} (p : X → Bool) (xs : List X) (k : ℕ) (x : X) → slice_get xs k ≡ Some x → p x ≡ true
    → ((j : ℕ) (y : X) → slice_get xs j ≡ Some y → p y ≡ true → j ≡ k) → find p xs ≡ Some x
found_there p [] k x at passes only = absurd (none-some x at)
found_there {X} p (y ∷ ys) zero x at passes only =
    let same : y ≡ x = same_Some y x at in
    ap (λ b. cond b (Some y) (find p ys)) (ap p same ∙ passes) ∙ ap Some same
found_there {X} p (y ∷ ys) (suc k) x at passes only =
    by (p y) refl (found_there p ys k x at passes (λ j z there also. let one_more : suc j ≡ suc k = only (suc j) z there also in omega (arith, one_more)))
  where
    by : (b : Bool) → p y ≡ b → find p ys ≡ Some x → find p (y ∷ ys) ≡ Some x
    by true first rest = absurd (let zero_is : 0 ≡ suc k = only 0 y refl first in omega (arith, zero_is))
    by false first rest = ap (λ b. cond b (Some y) (find p ys)) first ∙ rest

module _ (have_scopes : NodesHaveScopes) (guards : List (Formula × List VarId)) (plans : List Plan) (well : AreWellFormed plans guards)
    (rule : ℕ) (plan : Plan) (planned : slice_get plans rule ≡ Some plan) where
  formed : IsWellFormed guards plan
  formed = AllByRecursion-contains (IsWellFormed guards) plans plan well.each (there_from_get plans rule plan planned)

  numbered_at : (k : ℕ) (node : Plan × List VarId) → slice_get (scoped_nodes plan []) k ≡ Some node → node_number node.0 ≡ k
  numbered_at k node at =
      formed.numbered k node.0
      (ap (λ l. slice_get l k) (sym (have_scopes plan [])) ∙ slice_get-map (λ (n : Plan × List VarId). n.0) (scoped_nodes plan []) k
      ∙ ap (option_map (λ (n : Plan × List VarId). n.0)) at)

  lies_at : (node : Plan × List VarId) → Contains (scoped_nodes plan []) node → Lies plans rule node.0 node.1
  lies_at node there = record {
    named = ap (scoped_in_plan (node_number node.0)) planned
        ∙ found_there (λ (n : Plan × List VarId). has_number (node_number node.0) n.0) (scoped_nodes plan []) there.0 node at itself
        (λ j other at_j same. sym (numbered_at j other at_j) ∙ number_same other.0 same ∙ numbered_at there.0 node at);
    scoped = AtEach-root IsScopedNode node.0 node.1
        (AllByRecursion-contains (λ (n : Plan × List VarId). AtEach IsScopedNode n.0 n.1) (scoped_nodes plan []) node (AtEach-below IsScopedNode plan [] formed.scoped) there);
    ends = AllByRecursion-contains EndsInTime (nodes plan) node.0 formed.ends
        (there_from_get (nodes plan) there.0 node.0
        (ap (λ l. slice_get l there.0) (sym (have_scopes plan [])) ∙ slice_get-map (λ (n : Plan × List VarId). n.0) (scoped_nodes plan []) there.0
        ∙ ap (option_map (λ (n : Plan × List VarId). n.0)) at));
  }
    where
      at : slice_get (scoped_nodes plan []) there.0 ≡ Some node
      at = slice_get-get_or (scoped_nodes plan []) there.0 node there.1 ∙ ap Some there.2

      itself : has_number (node_number node.0) node.0 ≡ true
      itself = grind arith

      number_same : (other : Plan) → has_number (node_number node.0) other ≡ true → node_number other ≡ node_number node.0
      number_same other same = grind (arith, same)

  pub all_lie : AllLie plans rule plan []
  all_lie = each_from_nodes (Lies plans rule) plan [] lies_at

-- ---- what can be pending after so many steps

record CanBehind (plans : List Plan) (steps : ℕ) (i : Instance) : Type 0 where
  node : Plan
  scope : List VarId
  named : future_in plans i.rule i.node ≡ Some (node, scope)
  binds : FitsScope scope i.valuation
  lies : AllLie plans i.rule node scope
  begun : i.origin < steps
  newly : IsNext node → i.origin + 1 ≡ steps
  from : first_end node ≤ i.low
  ordered : i.low ≤ i.high
  wide : i.high - i.low ≡ second_end node - first_end node

-- with one step more, but for a next
can_longer : (plans : List Plan) (steps : ℕ) (i : Instance) (can : CanBehind plans steps i) → (IsNext can.node → ⊥) → CanBehind plans (suc steps) i
can_longer plans steps i can other = let begun = can.begun in record {
  node = can.node;
  scope = can.scope;
  named = can.named;
  binds = can.binds;
  lies = can.lies;
  begun = omega (arith, begun);
  newly = λ next. absurd (other next);
  from = can.from;
  ordered = can.ordered;
  wide = can.wide;
}

ends_ordered : (node : Plan) → EndsInTime node → first_end node ≤ second_end node
ends_ordered (CausePlan node place name terms) ends = omega arith
ends_ordered (SuppressPlan node place name terms) ends = omega arith
ends_ordered (Both node left right) ends = omega arith
ends_ordered (Either node left right) ends = omega arith
ends_ordered (TestOr node guard test body) ends = omega arith
ends_ordered (Guarded node xs guard test body) ends = omega arith
ends_ordered (EventuallyPlan node place low high body) ends = ends.0
ends_ordered (AlwaysPlan node place low high body) ends = ends.0
ends_ordered (UntilPlan node place low high left right) ends = ends.0
ends_ordered (NextPlan node place high body) ends = omega arith

module _ (plans : List Plan) (trace : List Step) (some : 0 < length trace) where
  abbrev AllCan : List Instance → Type 0
  AllCan is = (i : Instance) → Contains is i → CanBehind plans (length trace) i

  none_can : (is : List Instance) → is ≡ [] → AllCan is
  none_can is none i there = absurd (none_in_nil i (subst (λ (l : List Instance). Contains l i) none there))

  one_can : (i : Instance) (is : List Instance) → CanBehind plans (length trace) i → is ≡ i ∷ [] → AllCan is
  one_can i is can are j there =
      ⊎_elim (λ same. subst (CanBehind plans (length trace)) same can) (λ none. absurd (none_in_nil j none))
      (first_or_later j i [] (subst (λ (l : List Instance). Contains l j) are there))

  behind_can : (i : Instance) (P : List Instance → Type 0) → CanBehind plans (length trace) i → ((more : List Instance) → P more → AllCan more)
      → (is : List Instance) → WithBehind i P is → AllCan is
  behind_can i P can each is (more, holds, are) j there =
      ⊎_elim (λ same. subst (CanBehind plans (length trace)) same can) (λ behind. each more holds j behind)
      (first_or_later j i more (subst (λ (l : List Instance). Contains l j) are there))

  waits_can : (low : ℕ) (body : Plan) (v : Valuation) (Begins Waits : Type 0) (is : List Instance) → (Begins → AllCan is) → (Waits → AllCan is)
      → BeginsOrWaits trace low body v Begins Waits → AllCan is
  waits_can zero body v Begins Waits is first second begins = ⊎_elim (λ taken. first taken.1) (λ passed. second passed.1) begins
  waits_can (suc low) body v Begins Waits is first second begins = second begins

  always_can : (low : ℕ) (i : Instance) (P : List Instance → Type 0) → CanBehind plans (length trace) i → ((more : List Instance) → P more → AllCan more)
      → (is : List Instance) → BeginsAlways low i P is → AllCan is
  always_can zero i P can each is begins = behind_can i P can each is begins
  always_can (suc low) i P can each is begins = one_can i is can begins

  module _ (rule : ℕ) where
    begins_can : (plan : Plan) (scope : List VarId) → AllLie plans rule plan scope → is_future plan ≡ true → (v : Valuation) → FitsScope scope v
        → CanBehind plans (length trace) (begun_now trace rule (node_number plan) (first_end plan) (second_end plan) v)
    begins_can plan scope lies future v fits =
        let root : Lies plans rule plan scope = AtEach-root (Lies plans rule) plan scope lies in
        let ends : first_end plan ≤ second_end plan = ends_ordered plan root.ends in record {
          node = plan;
          scope = scope;
          named = ap only_future root.named ∙ ap (λ b. cond b (Some (plan, scope)) None) future;
          binds = fits;
          lies = lies;
          begun = omega (arith, some);
          newly = λ next. omega (arith, some);
          from = omega arith;
          ordered = omega (arith, ends);
          wide = omega (arith, ends);
        }

    begun_can : (plan : Plan) (scope : List VarId) → AllLie plans rule plan scope → (v : Valuation) → FitsScope scope v → (is : List Instance)
        → Begun trace rule plan v is → (i : Instance) → Contains is i → CanBehind plans (length trace) i
    begun_can (CausePlan node place name terms) scope lies v fits is begins i there = none_can is begins i there
    begun_can (SuppressPlan node place name terms) scope lies v fits is begins i there = none_can is begins i there
    begun_can (Both node left right) scope lies v fits is (first, rest, begins, also, are) i there =
        ⊎_elim (λ front. begun_can left scope lies.1 v fits first begins i front) (λ back. begun_can right scope lies.2 v fits rest also i back)
        (Contains-append first rest i (subst (λ (l : List Instance). Contains l i) are there))
    begun_can (Either node left right) scope lies v fits is begins i there =
        ⊎_elim (λ side. begun_can right scope lies.2 v fits is side.1 i there)
        (λ second. ⊎_elim (λ side. begun_can left scope lies.1 v fits is side.1 i there)
        (λ third. ⊎_elim (λ side. begun_can right scope lies.2 v fits is side.1 i there)
        (λ fourth. ⊎_elim (λ side. begun_can left scope lies.1 v fits is side.1 i there) (λ neither. none_can is neither.1 i there) fourth.1) third)
        (taken (has_future left) trace left v second))
        (taken (has_future right) trace right v begins)
    begun_can (TestOr node guard test body) scope lies v fits is begins i there =
        ⊎_elim (λ met. none_can is met.1 i there) (λ fails. begun_can body scope lies.1 v fits is fails.1 i there) begins
    begun_can (Guarded node xs guard test body) scope lies v fits is (rows, are, gathered) i there =
        let root : Lies plans rule (Guarded node xs guard test body) scope = lies.0 in
        let found = Gathers-contains (λ (row : List Value) (js : List Instance). Begun trace rule body (with_values xs row v) js) rows is i gathered there in
        begun_can body (scope ++ xs) lies.1 (with_values xs found.0 v)
        (under_row scope xs root.scoped.0 v fits found.0 (All-contains (λ (r : List Value). length r ≡ length xs) rows found.0 are.fit found.1))
        found.2 found.3 i found.4
    begun_can (EventuallyPlan node place low high body) scope lies v fits is begins i there =
        waits_can low body v (Begun trace rule body v is) (is ≡ begun_now trace rule node low high v ∷ []) is (begun_can body scope lies.1 v fits is)
        (one_can (begun_now trace rule node low high v) is (begins_can (EventuallyPlan node place low high body) scope lies refl v fits)) begins i there
    begun_can (AlwaysPlan node place low high body) scope lies v fits is begins i there =
        always_can low (begun_now trace rule node low high v) (Begun trace rule body v)
        (begins_can (AlwaysPlan node place low high body) scope lies refl v fits) (begun_can body scope lies.1 v fits) is begins i there
    begun_can (UntilPlan node place low high left right) scope lies v fits is begins i there =
        waits_can low right v (Begun trace rule right v is) (WithBehind (begun_now trace rule node low high v) (Begun trace rule left v) is) is
        (begun_can right scope lies.2 v fits is)
        (behind_can (begun_now trace rule node low high v) (Begun trace rule left v)
        (begins_can (UntilPlan node place low high left right) scope lies refl v fits) (begun_can left scope lies.1 v fits) is) begins i there
    begun_can (NextPlan node place high body) scope lies v fits is begins i there =
        one_can (begun_now trace rule node 0 high v) is (begins_can (NextPlan node place high body) scope lies refl v fits) begins i there

  -- ---- what an instance becomes

  module _ (steps : ℕ) (longer : suc steps ≡ length trace) where
    stays_can : (i : Instance) (can : CanBehind plans steps i) → (IsNext can.node → ⊥) → CanBehind plans (length trace) i
    stays_can i can other = subst (λ n. CanBehind plans n i) longer (can_longer plans steps i can other)

    becomes_can : (node : Plan) (i : Instance) (can : CanBehind plans steps i) → can.node ≡ node → (after : List Instance) → BecomesAt trace node i after → AllCan after
    becomes_can (EventuallyPlan node place low high body) i can is after becomes =
        let lies = subst (λ p. AllLie plans i.rule p can.scope) is can.lies in
        ⊎_elim (λ met. begun_can i.rule body can.scope lies.1 i.valuation can.binds after met.2)
        (λ waits. one_can i after (stays_can i can (λ next. subst IsNext is next)) waits.1) becomes
    becomes_can (NextPlan node place high body) i can is after becomes =
        let lies = subst (λ p. AllLie plans i.rule p can.scope) is can.lies in
        begun_can i.rule body can.scope lies.1 i.valuation can.binds after becomes
    becomes_can (AlwaysPlan node place low high body) i can is after becomes =
        let lies = subst (λ p. AllLie plans i.rule p can.scope) is can.lies in
        ⊎_elim (λ early. one_can i after (stays_can i can (λ next. subst IsNext is next)) early.1) (λ others.
        ⊎_elim (λ inside. behind_can i (Begun trace i.rule body i.valuation) (stays_can i can (λ next. subst IsNext is next))
        (begun_can i.rule body can.scope lies.1 i.valuation can.binds) after inside.1)
        (λ late. none_can after late.2) others) becomes
    becomes_can (UntilPlan node place low high left right) i can is after becomes =
        let lies = subst (λ p. AllLie plans i.rule p can.scope) is can.lies in
        ⊎_elim (λ met. begun_can i.rule right can.scope lies.2 i.valuation can.binds after met.2)
        (λ waits. behind_can i (Begun trace i.rule left i.valuation) (stays_can i can (λ next. subst IsNext is next)) (begun_can i.rule left can.scope lies.1 i.valuation can.binds) after
        waits.1) becomes
    becomes_can (CausePlan node place name terms) i can is after becomes = absurd becomes
    becomes_can (SuppressPlan node place name terms) i can is after becomes = absurd becomes
    becomes_can (Both node left right) i can is after becomes = absurd becomes
    becomes_can (Either node left right) i can is after becomes = absurd becomes
    becomes_can (TestOr node guard test body) i can is after becomes = absurd becomes
    becomes_can (Guarded node xs guard test body) i can is after becomes = absurd becomes

-- ---- the node of an instance

module _ (is_first : FoundIsFirst) (plans : List Plan) (rule number : ℕ) (node : Plan) (scope : List VarId) where
  future_found : (found : Option (Plan × List VarId)) → only_future found ≡ Some (node, scope) → found ≡ Some (node, scope)
  future_found None is = absurd (none-some (node, scope) is)
  future_found (Some other) is = by (is_future other.0) is
    where
      by : (b : Bool) → cond b (Some other) None ≡ Some (node, scope) → Some other ≡ Some (node, scope)
      by true same = same
      by false none = absurd (none-some (node, scope) none)

  pub named_node : future_in plans rule number ≡ Some (node, scope) → node_in plans rule number ≡ Some node
  named_node named = by (slice_get plans rule) (future_found (scoped_in_plan number (slice_get plans rule)) named)
    where
      by : (at : Option Plan) → scoped_in_plan number at ≡ Some (node, scope) → find (has_number number) (nodes_of at) ≡ Some node
      by None is = absurd (none-some (node, scope) is)
      by (Some plan) is = sym (is_first plan [] number) ∙ ap (option_map (λ (n : Plan × List VarId). n.0)) is

  -- in the plan of its rule
  pub node_in_plan : future_in plans rule number ≡ Some (node, scope)
      → (plan : Plan) × (slice_get plans rule ≡ Some plan) × (scoped_at number plan [] ≡ Some (node, scope))
  node_in_plan named = by (slice_get plans rule) refl (future_found (scoped_in_plan number (slice_get plans rule)) named)
    where
      by : (at : Option Plan) → slice_get plans rule ≡ at → scoped_in_plan number at ≡ Some (node, scope)
          → (plan : Plan) × (slice_get plans rule ≡ Some plan) × (scoped_at number plan [] ≡ Some (node, scope))
      by None planned is = absurd (none-some (node, scope) is)
      by (Some plan) planned is = (plan, planned, is)

-- ---- along a trace

no_scope : FitsScope [] no_values
no_scope = record { binds = λ x there. absurd (none_in_nil x there); only = λ x absent. finite.get-empty variable_cmp x }

module _ (is_first : FoundIsFirst) (have_scopes : NodesHaveScopes) (guards : List (Formula × List VarId)) (plans : List Plan)
    (well : AreWellFormed plans guards) (trace : List Step) where
  after_can : (front : List Step) (some : 0 < length front) (steps : ℕ) → suc steps ≡ length front → (i : Instance) → CanBehind plans steps i
      → (after : List Instance) → After plans front i after → AllCan plans front some after
  after_can front some steps longer i can after becomes =
      becomes_can plans front some steps longer can.node i can refl after
      (subst (λ o. AtNode o (λ node. BecomesAt front node i after)) (named_node is_first plans i.rule i.node can.node can.scope can.named) becomes)

  roots_can : (front : List Step) (some : 0 < length front) (begun : List Instance) (i : Instance) (k : ℕ) (plan : Plan) (more : List Instance)
      → slice_get plans k ≡ Some plan → Begun front k plan no_values more → Contains more i → CanBehind plans (length front) i
  roots_can front some begun i k plan more planned begins there =
      begun_can plans front some k plan [] (all_lie have_scopes guards plans well k plan planned) no_values no_scope more begins i there

  pends_can : (n : ℕ) → n ≤ length trace → (pending : List Instance) → PendsBehind plans trace n pending → (i : Instance) → Contains pending i
      → CanBehind plans n i
  pends_can zero le pending none i there = absurd (none_in_nil i (subst (λ (l : List Instance). Contains l i) none there))
  pends_can (suc n) le pending (before, pend, (kept, begun, goes, begins, are)) i there =
      let front : List Step = take (suc n) trace in
      let long : length front ≡ suc n = length-take-le (suc n) trace le in
      let some : 0 < length front = omega (arith, long) in
      subst (λ m. CanBehind plans m i) long (⊎_elim
      (λ old.
      let from = Gathers-contains (After plans front) before kept i goes old in
      after_can front some n (sym long) from.0 (pends_can n (omega (arith, le)) before pend from.0 from.1) from.2 from.3 i from.4)
      (λ new.
      let root = BegunByRoots-contains front 0 plans begun i begins new in
      roots_can front some begun i root.0 root.1 root.3 root.2
      (subst (λ (r : ℕ). Begun front r root.1 no_values root.3) {x = 0 + root.0} {y = root.0} (omega arith) root.4) root.5)
      (Contains-append kept begun i (subst (λ (l : List Instance). Contains l i) are there)))

in_time_from : (is_first : FoundIsFirst) (plans : List Plan) (steps clock : ℕ) (i : Instance) (can : CanBehind plans steps i)
    → ((deadline : ℕ) → HasDeadline plans i deadline → clock ≤ deadline) → has_deadline can.node ≡ true → clock ≤ i.high
in_time_from is_first plans steps clock i can over deadline =
    over i.high (subst (λ o. AtNode o (λ node. (has_deadline node ≡ true) × (i.high ≡ i.high))) (sym (named_node is_first plans i.rule i.node can.node can.scope can.named)) (deadline, refl))

pub pend_can_be_pending : FoundIsFirst → NodesHaveScopes → PendCanBePending
pend_can_be_pending is_first have_scopes plans guards trace clock pending well pend in_time =
    All-weaker (Contains pending) (CanBePending plans clock (length trace)) one pending (All-contains_itself pending)
  where
    one : (i : Instance) → Contains pending i → CanBePending plans clock (length trace) i
    one i there =
        let can = pends_can is_first have_scopes guards plans well trace (length trace) (omega arith) pending pend i there in
        let over = All-contains (λ (j : Instance). (deadline : ℕ) → HasDeadline plans j deadline → clock ≤ deadline) pending i in_time there in record {
          node = can.node;
          scope = can.scope;
          named = can.named;
          binds = can.binds;
          waits = record {
            begun = can.begun;
            from = can.from;
            ordered = can.ordered;
            wide = can.wide;
            in_time = (in_time_from is_first plans (length trace) clock i can over, can.newly);
          };
        }
