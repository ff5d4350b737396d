-- The events of a step that have some names, one after another.
use Rattle.choice_step.proofs.Vocabulary.{◌≡◌, ◌⊎◌, Bool, true, false, List, [], ◌∷◌, ◌++◌, Contains, refl, sym, subst, inl, inr, ⊎_elim, Event, NameId, none_in_nil}
use Rattle.choice_step.proofs.Vocabulary.{Contains-append_left, Contains-push, Contains-push_cases, slice_index_or, suc, zero, ℕ}
use Rattle.std.specs.Prelude.{replicate}
use Rattle.enf_data.specs.machine.EventSets.{InsertsItem}
use Rattle.obligations.specs.machine.FreshGuards.{HaveSameFreshEvents}
use Rattle.choice_step.specs.machine.OwnEvents.{AreDivided, looked_for}
use Rattle.enf_formula.specs.machine.Agreement.{names_in_formula}
use Rattle.obligations.specs.machine.MovedPlans.{IgnoresIn}
use Rattle.obligations.specs.machine.UnreadNames.{IgnoresAt}
use Rattle.plan_terms.specs.meaning.Plans.{nodes, Plan, CausePlan, SuppressPlan, Both, Either, TestOr, Guarded, EventuallyPlan, AlwaysPlan}
use Rattle.plan_terms.specs.meaning.Plans.{UntilPlan, NextPlan}
use Rattle.choice_step.proofs.Vocabulary.{AllByRecursion, AllByRecursion-append, Contains-append_right}

both_ignore : (name : NameId) (left right : Plan) → IgnoresIn name left → IgnoresIn name right → AllByRecursion (IgnoresAt name) (nodes left ++ nodes right)
both_ignore name left right one other = AllByRecursion-append (IgnoresAt name) (nodes left) (nodes right) one other

-- who looks for other names ignores one
pub not_looked_for : (name : NameId) (plan : Plan) → (Contains (looked_for plan) name → ⊥) → IgnoresIn name plan
not_looked_for name (CausePlan node place other terms) not = (tt, tt)
not_looked_for name (SuppressPlan node place other terms) not = (tt, tt)
not_looked_for name (Both node left right) not = (
  tt,
  both_ignore name left right (not_looked_for name left (λ has. not (Contains-append_left (looked_for left) (looked_for right) name has)))
      (not_looked_for name right (λ has. not (Contains-append_right (looked_for left) (looked_for right) name has))),
)
not_looked_for name (Either node left right) not = (
  tt,
  both_ignore name left right (not_looked_for name left (λ has. not (Contains-append_left (looked_for left) (looked_for right) name has)))
      (not_looked_for name right (λ has. not (Contains-append_right (looked_for left) (looked_for right) name has))),
)
not_looked_for name (TestOr node guard test body) not = (
  λ has. not (Contains-append_left (names_in_formula test) (looked_for body) name has),
  not_looked_for name body (λ has. not (Contains-append_right (names_in_formula test) (looked_for body) name has)),
)
not_looked_for name (Guarded node xs guard test body) not = (
  λ has. not (Contains-append_left (names_in_formula test) (looked_for body) name has),
  not_looked_for name body (λ has. not (Contains-append_right (names_in_formula test) (looked_for body) name has)),
)
not_looked_for name (EventuallyPlan node place low high body) not = (tt, not_looked_for name body not)
not_looked_for name (AlwaysPlan node place low high body) not = (tt, not_looked_for name body not)
not_looked_for name (UntilPlan node place low high left right) not = (
  tt,
  both_ignore name left right (not_looked_for name left (λ has. not (Contains-append_left (looked_for left) (looked_for right) name has)))
      (not_looked_for name right (λ has. not (Contains-append_right (looked_for left) (looked_for right) name has))),
)
not_looked_for name (NextPlan node place high body) not = (tt, not_looked_for name body not)

-- no mark is set among those that are not
pub none_marked : (n k : ℕ) → slice_index_or (replicate n false) k false ≡ false
none_marked zero k = refl
none_marked (suc n) zero = refl
none_marked (suc n) (suc k) = none_marked n k

pub divided_none : (names : List NameId) → AreDivided names [] [] []
divided_none names = record {
  among = λ event there. there;
  all = λ event there. absurd (none_in_nil event there);
  apart = λ name there. absurd (none_in_nil name there);
}

-- an item that is put keeps those that were there
put_keeps : (x : Event) (before : List Event) (new : Bool) (after : List Event) → InsertsItem x before new after → (e : Event) → Contains before e → Contains after e
put_keeps x before true after puts e there = subst (λ l. Contains l e) (sym (puts.absent refl).1) (Contains-append_left before (x ∷ []) e there)
put_keeps x before false after puts e there = subst (λ l. Contains l e) (sym (puts.present refl).1) there

put_has : (x : Event) (before : List Event) (new : Bool) (after : List Event) → InsertsItem x before new after → Contains after x
put_has x before true after puts = subst (λ l. Contains l x) (sym (puts.absent refl).1) (Contains-push before x)
put_has x before false after puts = subst (λ l. Contains l x) (sym (puts.present refl).1) (puts.present refl).0

put_from : (x : Event) (before : List Event) (new : Bool) (after : List Event) → InsertsItem x before new after → (e : Event) → Contains after e → Contains before e ⊎ (x ≡ e)
put_from x before true after puts e there = Contains-push_cases before x e (subst (λ l. Contains l e) (puts.absent refl).1 there)
put_from x before false after puts e there = inl (subst (λ l. Contains l e) (puts.present refl).1 there)

module _ (names : List NameId) (events own : List Event) (others : List NameId) (event : Event) (divided : AreDivided names events own others) where
  pub divided_own : (new : Bool) (after : List Event) → InsertsItem event own new after → AreDivided names (events ++ event ∷ []) after others
  divided_own new after puts = record {
    among = λ other there. ⊎_elim (λ old. Contains-append_left events (event ∷ []) other (divided.among other old))
        (λ (same : event ≡ other). subst (Contains (events ++ event ∷ [])) same (Contains-push events event)) (put_from event own new after puts other there);
    all = λ other there. ⊎_elim
        (λ old. ⊎_elim (λ in_own. inl (put_keeps event own new after puts other in_own)) (λ named. inr named) (divided.all other old))
        (λ (same : event ≡ other). inl (subst (Contains after) same (put_has event own new after puts))) (Contains-push_cases events event other there);
    apart = divided.apart;
  }

  -- the name of an event is told already
  pub divided_again : Contains others event.name → AreDivided names (events ++ event ∷ []) own others
  divided_again told = record {
    among = λ other there. Contains-append_left events (event ∷ []) other (divided.among other there);
    all = λ other there. ⊎_elim (divided.all other)
        (λ (same : event ≡ other). inr (subst (λ (e : Event). Contains others e.name) same told)) (Contains-push_cases events event other there);
    apart = divided.apart;
  }

  pub divided_other : (Contains names event.name → ⊥) → AreDivided names (events ++ event ∷ []) own (others ++ event.name ∷ [])
  divided_other not = record {
    among = λ other there. Contains-append_left events (event ∷ []) other (divided.among other there);
    all = λ other there. ⊎_elim
        (λ old. ⊎_elim (λ in_own. inl in_own) (λ named. inr (Contains-append_left others (event.name ∷ []) other.name named)) (divided.all other old))
        (λ (same : event ≡ other). inr (subst (λ (e : Event). Contains (others ++ event.name ∷ []) e.name) same (Contains-push others event.name)))
        (Contains-push_cases events event other there);
    apart = λ name there has. ⊎_elim (λ old. divided.apart name old has)
        (λ (same : event.name ≡ name). not (subst (Contains names) (sym same) has)) (Contains-push_cases others event.name name there);
  }

-- but for the names of the others the own events are those of the step
pub own_same : (names : List NameId) (events own : List Event) (others : List NameId) → AreDivided names events own others → (looked : List NameId)
    → HaveSameFreshEvents others looked own events
own_same names events own others divided looked event named fresh = (
  λ there. divided.among event there,
  λ there. ⊎_elim (λ on. on) (λ stale. absurd (fresh stale)) (divided.all event there),
)
