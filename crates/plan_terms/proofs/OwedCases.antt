-- What two small traces leave open, and what they decide.
use Rattle.plan_terms.proofs.Vocabulary.{◌≡◌, ℕ, zero, suc, ◌<◌, ◌≤◌, pos, List, [], ◌∷◌, ◌++◌, Contains, Option, Some, refl, sym, ap, subst, arith, lit<, All-nil, All-from_recursion, IsTrace}
use Rattle.plan_terms.proofs.Vocabulary.{step_at, HasNoRepeats, no_values, onto_values, value_at, value_at-insert, Event, NameId, Step, Value, Num, one_event, at_time, event_p, event_q, formula_p_x}
use Rattle.plan_terms.proofs.Vocabulary.{name_p, p_1_q_1, two_steps, variable_x, IsEventAmong, Sat, Continuation, each_soon, soon_q_x, x_is, LeadsTo, LeadsThrough, Obligation, obligation, Plan}
use Rattle.plan_terms.proofs.Vocabulary.{CausePlan}

-- ---- continuations of two steps

pub with_third : (time : ℕ) → 3 ≤ time → (event : Event) → IsTrace (two_steps ++ at_time time (event ∷ []) ∷ [])
with_third time later event = record { distinct = distinct; ordered = ordered }
  where
    distinct : (i : ℕ) → i < 3 → HasNoRepeats (step_at (two_steps ++ at_time time (event ∷ []) ∷ []) i).events
    distinct zero below = one_event event_q
    distinct (suc zero) below = one_event event_p
    distinct (suc (suc zero)) below = one_event event
    distinct (suc (suc (suc i))) below = absurd (omega (arith, below))

    ordered : (i j : ℕ) → i ≤ j → j < 3
        → (step_at (two_steps ++ at_time time (event ∷ []) ∷ []) i).time ≤ (step_at (two_steps ++ at_time time (event ∷ []) ∷ []) j).time
    ordered zero j order below = omega arith
    ordered (suc zero) zero order below = absurd (omega (arith, order))
    ordered (suc zero) (suc zero) order below = omega arith
    ordered (suc zero) (suc (suc zero)) order below = later
    ordered (suc zero) (suc (suc (suc j))) order below = absurd (omega (arith, below))
    ordered (suc (suc zero)) zero order below = absurd (omega (arith, order))
    ordered (suc (suc zero)) (suc zero) order below = absurd (omega (arith, order))
    ordered (suc (suc zero)) (suc (suc zero)) order below = omega arith
    ordered (suc (suc zero)) (suc (suc (suc j))) order below = absurd (omega (arith, below))
    ordered (suc (suc (suc i))) j order below = absurd (omega (arith, order, below))

two_are_a_trace : IsTrace two_steps
two_are_a_trace = record { distinct = distinct; ordered = ordered }
  where
    distinct : (i : ℕ) → i < 2 → HasNoRepeats (step_at two_steps i).events
    distinct zero below = one_event event_q
    distinct (suc zero) below = one_event event_p
    distinct (suc (suc i)) below = absurd (omega (arith, below))

    ordered : (i j : ℕ) → i ≤ j → j < 2 → (step_at two_steps i).time ≤ (step_at two_steps j).time
    ordered zero j order below = omega arith
    ordered (suc zero) zero order below = absurd (omega (arith, order))
    ordered (suc zero) (suc zero) order below = omega arith
    ordered (suc zero) (suc (suc j)) order below = absurd (omega (arith, below))
    ordered (suc (suc i)) j order below = absurd (omega (arith, order, below))

pub as_it_is : (clock : ℕ) → Continuation two_steps clock two_steps
as_it_is clock = record {
  more = [];
  begins = refl;
  later = All-nil (λ (step : Step). clock ≤ step.time);
  is_trace = two_are_a_trace;
}

pub and_then : (clock : ℕ) → 3 ≤ clock → (event : Event)
    → Continuation two_steps clock (two_steps ++ at_time clock (event ∷ []) ∷ [])
and_then clock later event = record {
  more = at_time clock (event ∷ []) ∷ [];
  begins = refl;
  later = All-from_recursion (λ (step : Step). clock ≤ step.time) (at_time clock (event ∷ []) ∷ []) (omega arith, tt);
  is_trace = with_third clock later event;
}

-- ---- the values of x

pub bound_is : (value : Value) → onto_values (value_at (x_is value) variable_x) (Some []) ≡ Some (value ∷ [])
bound_is value = ap (λ (v : Option Value). onto_values v (Some [])) (value_at-insert no_values variable_x value variable_x)

pub p_of : (value : Value) → Contains (step_at p_1_q_1 0).events (record { name = name_p; args = value ∷ [] })
    → Sat p_1_q_1 0 (x_is value) formula_p_x
p_of value there =
    subst (λ (args : Option (List Value)). IsEventAmong (step_at p_1_q_1 0).events name_p args) (sym (bound_is value)) there

pub for_1 : LeadsTo p_1_q_1 0 each_soon no_values 0 (obligation soon_q_x (x_is (Num (pos 1))) 0)
for_1 = (Num (pos 1) ∷ [], refl, p_of (Num (pos 1)) (0, lit< tt, refl), refl)

-- ---- nothing is after a leaf

pub from_leaf : (trace : List Step) (clock node place : ℕ) (from : Obligation) (moves : List Obligation)
    (to : Obligation) (name : NameId) → from.node ≡ CausePlan node place name []
    → LeadsThrough trace clock from moves to → from ≡ to
from_leaf trace clock node place from [] to name is leads = leads
from_leaf trace clock node place from (next ∷ moves) to name is leads =
    absurd (subst (λ (n : Plan). LeadsTo trace clock n from.valuation from.position next) is leads.0)
