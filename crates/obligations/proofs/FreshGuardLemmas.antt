-- Steps whose events differ in stale names from those by which guards are asked, and what can be asked there.
use Rattle.obligations.proofs.Vocabulary.{◌≡◌, ◌↔◌, ◌∙◌, ℕ, zero, suc, Bool, false, cond, List, [], ◌∷◌, ◌++◌, length, map, Contains, Some, refl, sym, ap, subst, arith, slice_get, same_Some}
use Rattle.obligations.proofs.Vocabulary.{none-some, length-append, no_step, step_at, step_at_end, Valuation, Event, NameId, Step, VarId, Formula, HaveSameNamedEvents, NamesDecide, names_in_formula, Sat, HoldsNow}
use Rattle.obligations.proofs.Vocabulary.{GuardsWillHold, IsGuard, Past, PastStands, guard_formula, tables_of, PlacedGuard, placed_guard, nodes, Plan, CausePlan, SuppressPlan, Both, Either, TestOr}
use Rattle.obligations.proofs.Vocabulary.{Guarded, EventuallyPlan, AlwaysPlan, UntilPlan, NextPlan, CanAskIn, IsGuardAt, IsNowOf, last_position, last_time, BindsFree, HoldsLast}
use Rattle.obligations.proofs.Vocabulary.{FreshInstanceCanBeAsked, FreshPlanCanBeAsked, HaveSameFreshEvents, IgnoresAll, IgnoresAt, IgnoresIn, StaleNowStands, askable, looks_for_any, unaskable}
use Rattle.obligations.proofs.Vocabulary.{AllByRecursion, Now}
use Rattle.obligations.proofs.MovedTests.{looked_for_none}
use Rattle.obligations.proofs.SoundnessLemmas.{all_left, all_right}
use Rattle.past_state.proofs.GuardLaws.{looks_at}
use Rattle.past_state.specs.machine.Past.{guard_names}
use Rattle.std.specs.Prelude.{◌+◌, ◌-◌, ◌≤◌}

-- ---- a step with the tables of other events

-- what holds of each step and itself, and of the two last ones, holds of the steps at each position
pub at_each : (P : Step → Step → Type 0) → ((s : Step) → P s s) → (a b : Step) → P a b → (trace : List Step) (i : ℕ)
    → P (step_at (trace ++ a ∷ []) i) (step_at (trace ++ b ∷ []) i)
at_each P same a b last [] zero = last
at_each P same a b last [] (suc i) = same no_step
at_each P same a b last (s ∷ trace) zero = same s
at_each P same a b last (s ∷ trace) (suc i) = at_each P same a b last trace i

module _ (decide : NamesDecide) (past : Past) (trace : List Step) (now : Now)
    (same : HaveSameFreshEvents now.stale.now (guard_names now.tables.now.guards) now.ordered.now now.events.now)
    (hold : GuardsWillHold past now.time now.ordered.now now.tables.now) (stands : PastStands trace past)
    (position : length trace ≡ now.position) (later : last_time trace ≤ now.time) where
  abbrev told : Step
  told = record { time = now.time; events = now.ordered.now }

  abbrev made : Step
  made = record { time = now.time; events = now.events.now }

  count : length (trace ++ made ∷ []) ≡ length trace + 1
  count = length-append trace (made ∷ [])

  last : last_position (trace ++ made ∷ []) ≡ length trace
  last = omega (arith, count)

  here_is : step_at (trace ++ made ∷ []) (last_position (trace ++ made ∷ [])) ≡ made
  here_is = ap (step_at (trace ++ made ∷ [])) last ∙ step_at_end trace made

  same_named : (number : ℕ) (g : PlacedGuard) → IsGuard now.tables.now.guards number g → IgnoresAll now.stale.now (guard_formula g)
      → HaveSameNamedEvents (names_in_formula (guard_formula g)) (trace ++ told ∷ []) (trace ++ made ∷ [])
  same_named number g found ignores = record {
    long = length-append trace (told ∷ []) ∙ sym (length-append trace (made ∷ []));
    times = at_each (λ s t. s.time ≡ t.time) (λ s. refl) told made refl trace;
    events = at_each (λ s t. (event : Event) → Contains (names_in_formula (guard_formula g)) event.name → Contains s.events event ↔ Contains t.events event)
        (λ s event named. (λ there. there, λ there. there)) told made
        (λ event named. same event (looks_at now.tables.now.guards number g event.name found named) (λ stale. ignores event.name stale named)) trace;
  }

  holds_at : (number : ℕ) (g : PlacedGuard) → IsGuard now.tables.now.guards number g → IgnoresAll now.stale.now (guard_formula g)
      → (v : Valuation) → BindsFree v (guard_formula g)
      → HoldsNow now.ordered.now (tables_of g now.tables.now) v (guard_formula g) ↔ HoldsLast (trace ++ made ∷ []) v (guard_formula g)
  holds_at number g found ignores v binds =
      let before = hold trace told refl refl later stands number g found v binds in
      let meant = decide (trace ++ told ∷ []) (trace ++ made ∷ []) (length trace) v (guard_formula g) (same_named number g found ignores) in
      subst (λ i. HoldsNow now.ordered.now (tables_of g now.tables.now) v (guard_formula g) ↔ Sat (trace ++ made ∷ []) i v (guard_formula g)) (sym last)
      (λ holds. meant.0 (before.0 holds), λ sat. before.1 (meant.1 sat))

  is_now : IsNowOf now (trace ++ made ∷ [])
  is_now = record {
    some = omega (arith, count);
    position = last ∙ position;
    time = ap (λ (s : Step). s.time) here_is;
    events = ap (λ (s : Step). s.events) here_is;
    guards = holds_at;
  }

pub stale_now_stands : NamesDecide → StaleNowStands
stale_now_stands decide past trace now same hold stands position later = is_now decide past trace now same hold stands position later

-- ---- what can be asked

-- what ignores each stale name, node by node
abbrev IgnoresEach : List NameId → Plan → Type 0
IgnoresEach stale plan = (name : NameId) → Contains stale name → IgnoresIn name plan

module _ (stale : List NameId) (guards : List PlacedGuard) where
  shown : (g : PlacedGuard) (looks : Bool) → looks ≡ false → cond looks unaskable (placed_guard g) ≡ placed_guard g
  shown g looks none = ap (λ b. cond b unaskable (placed_guard g)) none

  listed_fresh : (gs : List PlacedGuard) (n : ℕ) (f : Formula) (scope : List VarId) → IgnoresAll stale f
      → slice_get (map placed_guard gs) n ≡ Some (f, scope) → slice_get (map (askable stale) gs) n ≡ Some (f, scope)
  listed_fresh [] n f scope ignores e = absurd (none-some (f, scope) e)
  listed_fresh (g ∷ gs) zero f scope ignores e =
      let same = same_Some (placed_guard g) (f, scope) e in
      let none : looks_for_any stale (guard_formula g) ≡ false =
      looked_for_none stale (guard_formula g) (subst (IgnoresAll stale) (sym (ap (λ (p : Formula × List VarId). p.0) same)) ignores) in
      ap Some (shown g (looks_for_any stale (guard_formula g)) none) ∙ e
  listed_fresh (g ∷ gs) (suc n) f scope ignores e = listed_fresh gs n f scope ignores e

  guard_fresh : (number : ℕ) (test : Formula) (scope : List VarId) → IgnoresAll stale test → IsGuardAt (map placed_guard guards) number test scope
      → IsGuardAt (map (askable stale) guards) number test scope
  guard_fresh number test scope ignores at =
      record { listed = listed_fresh guards number test scope ignores at.listed; safe = at.safe; fresh = at.fresh }

  left_below : (left right : Plan) → ((name : NameId) → Contains stale name → AllByRecursion (IgnoresAt name) (nodes left ++ nodes right)) → IgnoresEach stale left
  left_below left right each name there = all_left (IgnoresAt name) (nodes left) (nodes right) (each name there)

  right_below : (left right : Plan) → ((name : NameId) → Contains stale name → AllByRecursion (IgnoresAt name) (nodes left ++ nodes right)) → IgnoresEach stale right
  right_below left right each name there = all_right (IgnoresAt name) (nodes left) (nodes right) (each name there)

  can_fresh : (plan : Plan) (scope : List VarId) → IgnoresEach stale plan → CanAskIn (map placed_guard guards) plan scope
      → CanAskIn (map (askable stale) guards) plan scope
  can_fresh (CausePlan node place name terms) scope ignores can = can
  can_fresh (SuppressPlan node place name terms) scope ignores can = can
  can_fresh (Both node left right) scope ignores can = (
    tt,
    can_fresh left scope (left_below left right (λ name there. (ignores name there).1)) can.1,
    can_fresh right scope (right_below left right (λ name there. (ignores name there).1)) can.2,
  )
  can_fresh (Either node left right) scope ignores can = (
    tt,
    can_fresh left scope (left_below left right (λ name there. (ignores name there).1)) can.1,
    can_fresh right scope (right_below left right (λ name there. (ignores name there).1)) can.2,
  )
  can_fresh (TestOr node guard test body) scope ignores can = (
    (guard_fresh guard test scope (λ name there. (ignores name there).0) can.0.0, can.0.1),
    can_fresh body scope (λ name there. (ignores name there).1) can.1,
  )
  can_fresh (Guarded node xs guard test body) scope ignores can = (
    (guard_fresh guard test scope (λ name there. (ignores name there).0) can.0.0, can.0.1, can.0.2),
    can_fresh body (scope ++ xs) (λ name there. (ignores name there).1) can.1,
  )
  can_fresh (EventuallyPlan node place low high body) scope ignores can =
      (tt, can_fresh body scope (λ name there. (ignores name there).1) can.1)
  can_fresh (AlwaysPlan node place low high body) scope ignores can =
      (tt, can_fresh body scope (λ name there. (ignores name there).1) can.1)
  can_fresh (UntilPlan node place low high left right) scope ignores can = (
    tt,
    can_fresh left scope (left_below left right (λ name there. (ignores name there).1)) can.1,
    can_fresh right scope (right_below left right (λ name there. (ignores name there).1)) can.2,
  )
  can_fresh (NextPlan node place high body) scope ignores can =
      (tt, can_fresh body scope (λ name there. (ignores name there).1) can.1)

pub fresh_plan : FreshPlanCanBeAsked
fresh_plan now plan v ignores can = record {
  scope = can.scope;
  can = can_fresh now.stale.now now.tables.now.guards plan can.scope ignores can.can;
  fits = can.fits;
}

pub fresh_instance : FreshInstanceCanBeAsked
fresh_instance now plans i ignores can = record {
  node = can.node;
  found = can.found;
  future = can.future;
  can = fresh_plan now can.node i.valuation (λ name there. ignores name there can.node can.found) can.can;
  ends = can.ends;
}
