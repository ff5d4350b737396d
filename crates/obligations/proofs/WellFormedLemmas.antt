-- The plans of a policy can be asked at a step, which stands for the trace with it.
use Rattle.obligations.proofs.Vocabulary.{◌≡◌, ℕ, ◌+◌, ◌≤◌, List, [], ◌∷◌, ◌++◌, length, map, Some, refl, sym, ap, subst, arith, ⊎_elim, ◌∙◌, length-append, ◌↔◌, slice_get, AllByRecursion, step_at}
use Rattle.obligations.proofs.Vocabulary.{AllByRecursion-contains, Contains-append, none_in_nil, there_from_get, rising_behind, Valuation, variable_cmp, Step, VarId, step_at_end, Formula, Sat}
use Rattle.obligations.proofs.Vocabulary.{new_apart, AreOpen, BoundFormula, HoldsNow, last_time, AreCopies, GuardsWillHold, IsGuard, Past, PastStands, guard_formula, tables_of, PlacedGuard}
use Rattle.obligations.proofs.Vocabulary.{GuardBindsFresh, IsListedNode, IsSafeNode, IsWellFormed, guards_of, Plan, CausePlan, SuppressPlan, Both, Either, TestOr, Guarded, EventuallyPlan, AlwaysPlan}
use Rattle.obligations.proofs.Vocabulary.{UntilPlan, NextPlan, AtEach-weaker, AtEach, IsScopedNode, PlansStandIn, BindsFree, CanAskNode, CanAskRoot, CanAskRoots, IsNowOf, placed_guard, CanBeAsked}
use Rattle.obligations.proofs.Vocabulary.{NowStands, WellFormedCanBeAsked, WellFormedStand, HoldsLast, last_position, Now}
use Rattle.std.specs.FinMap as finite

-- ---- what holds at each node

both_at : (P Q : Plan → List VarId → Type 0) (plan : Plan) (scope : List VarId) → AtEach P plan scope → AtEach Q plan scope
    → AtEach (λ node inner. P node inner × Q node inner) plan scope
both_at P Q (CausePlan node place name terms) scope p q = (p, q)
both_at P Q (SuppressPlan node place name terms) scope p q = (p, q)
both_at P Q (Both node left right) scope p q = ((p.0, q.0), both_at P Q left scope p.1 q.1, both_at P Q right scope p.2 q.2)
both_at P Q (Either node left right) scope p q = ((p.0, q.0), both_at P Q left scope p.1 q.1, both_at P Q right scope p.2 q.2)
both_at P Q (TestOr node guard test body) scope p q = ((p.0, q.0), both_at P Q body scope p.1 q.1)
both_at P Q (Guarded node xs guard test body) scope p q = ((p.0, q.0), both_at P Q body (scope ++ xs) p.1 q.1)
both_at P Q (EventuallyPlan node place low high body) scope p q = ((p.0, q.0), both_at P Q body scope p.1 q.1)
both_at P Q (AlwaysPlan node place low high body) scope p q = ((p.0, q.0), both_at P Q body scope p.1 q.1)
both_at P Q (UntilPlan node place low high left right) scope p q = ((p.0, q.0), both_at P Q left scope p.1 q.1, both_at P Q right scope p.2 q.2)
both_at P Q (NextPlan node place high body) scope p q = ((p.0, q.0), both_at P Q body scope p.1 q.1)

opens : (scope xs : List VarId) (test : Formula) (guard node : ℕ) (body : Plan) → IsScopedNode (Guarded node xs guard test body) scope
    → IsSafeNode (Guarded node xs guard test body) scope → AreOpen test scope xs
opens scope xs test guard node body scoped safe = record {
  rising = rising_behind variable_cmp scope xs scoped.0;
  exact = λ x. (
    (λ there. (safe.1 x there, new_apart scope xs scoped.0 x there)),
    (λ free. ⊎_elim (λ old. absurd (free.1 old)) (λ brought. brought) (Contains-append scope xs x (scoped.1 x free.0))),
  );
}

module _ (guards : List (Formula × List VarId)) (fresh : AllByRecursion GuardBindsFresh guards) where
  guard_at : (n : ℕ) (test : Formula) (scope : List VarId) → slice_get guards n ≡ Some (test, scope) → GuardBindsFresh (test, scope)
  guard_at n test scope listed = AllByRecursion-contains GuardBindsFresh guards (test, scope) fresh (there_from_get guards n (test, scope) listed)

  can_ask_node : (plan : Plan) (scope : List VarId)
      → IsScopedNode plan scope × (IsSafeNode plan scope × IsListedNode guards plan scope) → CanAskNode guards plan scope
  can_ask_node (CausePlan node place name terms) scope (scoped, told) = scoped
  can_ask_node (SuppressPlan node place name terms) scope (scoped, told) = scoped
  can_ask_node (Both node left right) scope told = tt
  can_ask_node (Either node left right) scope told = tt
  can_ask_node (TestOr node guard test body) scope (scoped, (safe, listed)) =
      (record { listed = listed; safe = safe.0.0; fresh = guard_at guard test scope listed }, scoped)
  can_ask_node (Guarded node xs guard test body) scope (scoped, (safe, listed)) = (
    record { listed = listed; safe = safe.0; fresh = guard_at guard test scope listed },
    opens scope xs test guard node body scoped safe,
    scoped.0,
  )
  can_ask_node (EventuallyPlan node place low high body) scope told = tt
  can_ask_node (AlwaysPlan node place low high body) scope told = tt
  can_ask_node (UntilPlan node place low high left right) scope told = tt
  can_ask_node (NextPlan node place high body) scope told = tt

  can_ask_root : (plan : Plan) → IsWellFormed guards plan → CanAskRoot guards plan
  can_ask_root plan formed = (
    record {
      scope = [];
      can = AtEach-weaker (λ node scope. IsScopedNode node scope × (IsSafeNode node scope × IsListedNode guards node scope)) (CanAskNode guards) can_ask_node plan []
          (both_at IsScopedNode (λ node scope. IsSafeNode node scope × IsListedNode guards node scope) plan [] formed.scoped
          (both_at IsSafeNode (IsListedNode guards) plan [] formed.safe formed.listed));
      fits = record { binds = λ x there. absurd (none_in_nil x there); only = λ x absent. finite.get-empty variable_cmp x };
    },
    formed.ends,
  )

  can_ask_roots : (plans : List Plan) → AllByRecursion (IsWellFormed guards) plans → CanAskRoots guards plans
  can_ask_roots [] each = tt
  can_ask_roots (plan ∷ plans) each = (can_ask_root plan each.0, can_ask_roots plans each.1)

copies_same : (guards : List BoundFormula) (placed : List PlacedGuard) → AreCopies guards placed
    → guards_of guards ≡ map placed_guard placed
copies_same [] [] copies = refl
copies_same [] (p ∷ placed) copies = absurd copies
copies_same (g ∷ guards) [] copies = absurd copies
copies_same (g ∷ guards) (p ∷ placed) copies = λ i. (sym copies.0 i, sym copies.1 i) ∷ copies_same guards placed copies.2 i

pub well_formed_can_be_asked : WellFormedCanBeAsked
well_formed_can_be_asked plans guards formed = can_ask_roots guards formed.fresh plans formed.each

pub can_be_asked : CanBeAsked
can_be_asked plans guards placed formed copies =
    subst (λ l. CanAskRoots l plans) (copies_same guards placed copies) (well_formed_can_be_asked plans (guards_of guards) formed)

pub well_formed_stand : PlansStandIn → WellFormedStand
well_formed_stand stand plans guards formed rule plan found = stand guards plans rule plan formed.each found

-- ---- the step after a trace

module _ (past : Past) (trace : List Step) (now : Now) (ordered : now.ordered.now ≡ now.events.now)
    (hold : GuardsWillHold past now.time now.events.now now.tables.now) (stands : PastStands trace past)
    (position : length trace ≡ now.position) (later : last_time trace ≤ now.time) where
  abbrev made : Step
  made = record { time = now.time; events = now.events.now }

  count : length (trace ++ made ∷ []) ≡ length trace + 1
  count = length-append trace (made ∷ [])

  last : last_position (trace ++ made ∷ []) ≡ length trace
  last = omega (arith, count)

  here_is : step_at (trace ++ made ∷ []) (last_position (trace ++ made ∷ [])) ≡ made
  here_is = ap (step_at (trace ++ made ∷ [])) last ∙ step_at_end trace made

  holds_at : (number : ℕ) (g : PlacedGuard) → IsGuard now.tables.now.guards number g → (v : Valuation) → BindsFree v (guard_formula g)
      → HoldsNow now.ordered.now (tables_of g now.tables.now) v (guard_formula g) ↔ HoldsLast (trace ++ made ∷ []) v (guard_formula g)
  holds_at number g found v binds =
      subst (λ events. HoldsNow events (tables_of g now.tables.now) v (guard_formula g) ↔ HoldsLast (trace ++ made ∷ []) v (guard_formula g)) (sym ordered)
      (subst (λ i. HoldsNow now.events.now (tables_of g now.tables.now) v (guard_formula g) ↔ Sat (trace ++ made ∷ []) i v (guard_formula g)) (sym last)
      (hold trace made refl refl later stands number g found v binds))

  is_now : IsNowOf now (trace ++ made ∷ [])
  is_now = record {
    some = omega (arith, count);
    position = last ∙ position;
    time = ap (λ (s : Step). s.time) here_is;
    events = ap (λ (s : Step). s.events) here_is;
    guards = λ number g found ignores v binds. holds_at number g found v binds;
  }

pub now_stands : NowStands
now_stands past trace now ordered hold stands position later = is_now past trace now ordered hold stands position later
