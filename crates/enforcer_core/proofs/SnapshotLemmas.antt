-- The guards of a policy and their copies have the same operators, which can be numbered.
use Rattle.enforcer_core.proofs.Vocabulary.{◌≡◌, ◌∙◌, ℕ, ◌<◌, ◌≤◌, ◌^◌, Bool, true, false, cond, List, [], ◌∷◌, All, Option, None, Some, length, map, sum, refl, sym, ap, subst, arith, IsSome}
use Rattle.enforcer_core.proofs.Vocabulary.{slice_get, AllByRecursion, find, sum_by, option_map, false≢true, All-contains, none-some, same_Some, AllByRecursion-contains, AllByRecursion-from_contains}
use Rattle.enforcer_core.proofs.Vocabulary.{here, there_from_get, no_values, value_at, variable_cmp, Value, has_deadline, has_number, is_future, nodes_of, Plan, AtEach-found, FoundEndsInTime}
use Rattle.enforcer_core.proofs.Vocabulary.{FoundIsFirst, scoped_at, FitsScope, only_future, scoped_in_plan, AreWellFormed, AreWithinBounds, IsFrom, IsLastTime, AreRowsRising, all_operators}
use Rattle.enforcer_core.proofs.Vocabulary.{KeptAreWithinBounds, KeptRow, Step, last_time, most_time, Inserted, Typed, WorkTogether, typed_of, policy_plans, KeptCanBeTakenUp, policy_operators}
use Rattle.enforcer_core.proofs.Vocabulary.{CanAskIn, CanAskNode, CanAskOf, CanAskRoot, CanAskRoots, CanBePending, PendCanBePending, IsReady, NoneIsOver, Pend, node_of, PendIsOne, MOST_TIME}
use Rattle.enforcer_core.proofs.Vocabulary.{MOST_HORIZON, HighsAreNear, reach_of, Instance, sum-map, Formula, formula_size, VarId, BoundFormula, NoMoreThanNodes, AreCopies, tree_in}
use Rattle.enforcer_core.proofs.Vocabulary.{formulas_of_guards, PlacedGuard, guards_of}
use Rattle.enforcer_core.proofs.ReachLemmas.{due_at, over_from, reach_later}
use Rattle.std.specs.FinMap as finite

pub same_formulas : (guards : List BoundFormula) (placed : List PlacedGuard) → AreCopies guards placed → formulas_of_guards placed ≡ map tree_in guards
same_formulas [] [] copies = refl
same_formulas [] (p ∷ placed) copies = absurd copies
same_formulas (g ∷ guards) [] copies = absurd copies
same_formulas (g ∷ guards) (p ∷ placed) copies = ap (λ f. f ∷ formulas_of_guards placed) copies.0 ∙ ap (λ fs. tree_in g ∷ fs) (same_formulas guards placed copies.2)

same_sizes : (guards : List BoundFormula) → map formula_size (map tree_in guards) ≡ map (λ (g : Formula × List VarId). formula_size g.0) (guards_of guards)
same_sizes [] = refl
same_sizes (g ∷ guards) = ap (λ l. formula_size (tree_in g) ∷ l) (same_sizes guards)

same_sum : (guards : List BoundFormula) → sum (map formula_size (map tree_in guards)) ≡ sum_by (λ (g : Formula × List VarId). formula_size g.0) (guards_of guards)
same_sum guards = ap sum (same_sizes guards) ∙ sum-map (λ (g : Formula × List VarId). formula_size g.0) (guards_of guards)

pub few_operators : NoMoreThanNodes → (guards : List BoundFormula) (placed : List PlacedGuard) → AreCopies guards placed
    → sum_by (λ (g : Formula × List VarId). formula_size g.0) (guards_of guards) < 2 ^ 32 → length (all_operators (formulas_of_guards placed)) ≤ 2 ^ 32
few_operators most guards placed copies small =
    let count : length (all_operators (map tree_in guards)) ≤ sum (map formula_size (map tree_in guards)) = most (map tree_in guards) in
    let sizes = same_sum guards in
    let same : length (all_operators (formulas_of_guards placed)) ≡ length (all_operators (map tree_in guards)) = ap (λ fs. length (all_operators fs)) (same_formulas guards placed copies) in
    omega (arith, count, sizes, same, small)

-- ---- what can be pending can be asked

no_binding : (scope : List VarId) → FitsScope scope no_values → scope ≡ []
no_binding [] fits = refl
no_binding (x ∷ scope) fits = absurd (none (value_at no_values x) (finite.get-empty variable_cmp x) (fits.binds x (here x scope)))
  where
    none : (o : Option Value) → o ≡ None → IsSome o → ⊥
    none None is some = false≢true some
    none (Some value) is some = none-some value (sym is)

future_found : (found : Option (Plan × List VarId)) (node : Plan × List VarId) → only_future found ≡ Some node → (found ≡ Some node) × (is_future node.0 ≡ true)
future_found None node is = absurd (none-some node is)
future_found (Some other) node is = by (is_future other.0) refl is
  where
    by : (b : Bool) → is_future other.0 ≡ b → cond b (Some other) None ≡ Some node → (Some other ≡ Some node) × (is_future node.0 ≡ true)
    by true future same = (same, subst (λ (n : Plan × List VarId). is_future n.0 ≡ true) (same_Some other node same) future)
    by false future none = absurd (none-some node none)

pub kept_at : FoundIsFirst → (plans : List Plan) (clock position : ℕ) (i : Instance) (b : CanBePending plans clock position i)
    → (plan : Plan) × (slice_get plans i.rule ≡ Some plan) × (scoped_at i.node plan [] ≡ Some (b.node, b.scope))
    × (node_of plans i ≡ Some b.node) × (is_future b.node ≡ true)
kept_at is_first plans clock position i b = by (slice_get plans i.rule) refl b.named
  where
    by : (at : Option Plan) → slice_get plans i.rule ≡ at → only_future (scoped_in_plan i.node at) ≡ Some (b.node, b.scope)
        → (plan : Plan) × (slice_get plans i.rule ≡ Some plan) × (scoped_at i.node plan [] ≡ Some (b.node, b.scope))
        × (node_of plans i ≡ Some b.node) × (is_future b.node ≡ true)
    by None is named = absurd (none-some (b.node, b.scope) named)
    by (Some plan) is named =
        let found = future_found (scoped_at i.node plan []) (b.node, b.scope) named in (
          plan,
          is,
          found.0,
          ap (λ at. find (has_number i.node) (nodes_of at)) is ∙ sym (is_first plan [] i.node) ∙ ap (option_map (λ (n : Plan × List VarId). n.0)) found.0,
          found.1,
        )

kept_found : FoundIsFirst → (plans : List Plan) (clock position : ℕ) (i : Instance) (b : CanBePending plans clock position i)
    → node_of plans i ≡ Some b.node
kept_found is_first plans clock position i b = (kept_at is_first plans clock position i b).3

can_asked : FoundIsFirst → FoundEndsInTime → (guards : List (Formula × List VarId)) (plans : List Plan) (clock position : ℕ) (i : Instance)
    → CanAskRoots guards plans → CanBePending plans clock position i → CanAskOf guards plans i
can_asked is_first end guards plans clock position i roots b =
    let at = kept_at is_first plans clock position i b in
    let root : CanAskRoot guards at.0 = AllByRecursion-contains (CanAskRoot guards) plans at.0 roots (there_from_get plans i.rule at.0 at.1) in
    let asked : CanAskIn guards at.0 [] = subst (CanAskIn guards at.0) (no_binding root.0.scope root.0.fits) root.0.can in
    record {
      node = b.node;
      found = at.3;
      future = at.4;
      can = record { scope = b.scope; can = AtEach-found (CanAskNode guards) at.0 b.node [] b.scope i.node at.2 asked; fits = b.binds };
      ends = end at.0 b.node [] b.scope i.node at.2 root.1;
    }

pub all_asked : FoundIsFirst → FoundEndsInTime → (guards : List (Formula × List VarId)) (plans : List Plan) (clock position : ℕ) (pending : List Instance) → CanAskRoots guards plans
    → All (CanBePending plans clock position) pending → AllByRecursion (CanAskOf guards plans) pending
all_asked is_first end guards plans clock position pending roots can = AllByRecursion-from_contains (CanAskOf guards plans) pending
    (λ i there. can_asked is_first end guards plans clock position i roots (All-contains (CanBePending plans clock position) pending i can there))

-- no deadline of what can be pending is below the clock
pub none_over_kept : FoundIsFirst → (plans : List Plan) (clock position : ℕ) (pending : List Instance) → All (CanBePending plans clock position) pending
    → NoneIsOver plans pending clock
none_over_kept is_first plans clock position pending can = over_from plans clock pending (λ i there deadline due.
    let b = All-contains (CanBePending plans clock position) pending i can there in
    let d = due_at plans i deadline due in
    let same : b.node ≡ d.0 = same_Some b.node d.0 (sym (kept_found is_first plans clock position i b) ∙ d.1) in
    let late = b.waits.in_time.0 (subst (λ (n : Plan). has_deadline n ≡ true) (sym same) d.2) in
    omega (arith, late, d.3))

-- nor is anything owed for longer than inserted steps can be emitted
pub kept_in_reach : (typed : Typed) → WorkTogether typed → typed.ranked.horizon ≤ MOST_HORIZON → (pending : List Instance)
    → All (λ i. i.high ≤ most_time Inserted) pending → reach_of typed.ranked.ranks typed.plans pending ≤ MOST_TIME
kept_in_reach typed works bounded pending due =
    let reach = reach_later typed works pending (most_time Inserted) (λ i there deadline has.
    let late = All-contains (λ (j : Instance). j.high ≤ most_time Inserted) pending i due there in
    let d = due_at typed.plans i deadline has in omega (arith, late, d.3)) in
    omega (arith, reach, bounded)

-- no time from the clock on is before the last one
pub from_clock : (last : Option ℕ) (clock time : ℕ) → IsFrom last clock → clock ≤ time → IsFrom last time
from_clock None clock time from later = tt
from_clock (Some last) clock time from later = omega (arith, from, later)

-- ---- what is kept of a trace can be taken up

pub last_from : (trace : List Step) (last : Option ℕ) (clock : ℕ) → IsLastTime trace last → last_time trace ≤ clock → IsFrom last clock
last_from trace None clock is later = tt
last_from trace (Some last) clock is later = omega (arith, is.1, later)

-- what is pending after a trace that is ready for the clock can be so
pub can_pend : PendCanBePending → PendIsOne → (plans : List Plan) (guards : List (Formula × List VarId)) (trace : List Step) (clock : ℕ) (pending : List Instance) → AreWellFormed plans guards
    → IsReady plans trace clock → Pend plans trace pending → All (CanBePending plans clock (length trace)) pending
can_pend pends one plans guards trace clock pending formed ready pend =
    pends plans guards trace clock pending formed pend (subst (λ (l : List Instance). NoneIsOver plans l clock) (one plans trace ready.pending pending ready.pend pend) ready.in_time)

pub kept_taken_up : PendCanBePending → KeptAreWithinBounds → PendIsOne → HighsAreNear → KeptCanBeTakenUp
kept_taken_up pends within one near policy trace clock s together is_trace ready early is = record {
  in_time = subst (λ c. c ≤ most_time Inserted) (sym is.clocked) (omega (arith, early));
  due = near (policy_plans policy) (typed_of policy).guards trace s.pending clock together.formed is_trace is.pending ready.not_later early;
  not_later = subst (IsFrom s.last) (sym is.clocked) (last_from trace s.last clock is.last ready.not_later);
  kept = within trace s.last (policy_operators policy) s.kept is_trace is.last is.rising is.kept;
  pending = subst (λ n. All (CanBePending (policy_plans policy) s.clock n) s.pending) (sym is.position)
      (subst (λ c. All (CanBePending (policy_plans policy) c (length trace)) s.pending) (sym is.clocked)
      (can_pend pends one (policy_plans policy) (typed_of policy).guards trace clock s.pending together.formed ready is.pending));
}

-- rows within their bounds rise
pub rows_rise : (fs : List Formula) (last : Option ℕ) (rows : List KeptRow) → AreWithinBounds fs last rows → AreRowsRising rows
rows_rise fs None rows within = subst AreRowsRising (sym within) tt
rows_rise fs (Some last) rows within = within.0
