-- Small traces with p() within ten units: what continues them, and what is owed.
use Rattle.obligations.proofs.Vocabulary.{◌≡◌, ◌⊎◌, ℕ, zero, suc, ◌<◌, ◌≤◌, List, [], ◌∷◌, ◌++◌, length, Contains, Some, inl, inr, ⊎_elim, refl, sym, ap, subst, ◌∙◌, arith, slice_get, All-nil}
use Rattle.obligations.proofs.Vocabulary.{All-from_recursion, IsTrace, step_at, first_or_later, none_in_nil, there_from_get, HasNoRepeats, IsIn, Valuation, Event, Step, one_event, at_time, event_p}
use Rattle.obligations.proofs.Vocabulary.{elapsed, Continuation, LeadsThrough, LeadsTo, Obligation, obligation, interval_from_to, Plan, at_5, soon_p, cause_p}

-- ---- continuations

pub one_step : (time : ℕ) (events : List Event) → HasNoRepeats events → IsTrace (at_time time events ∷ [])
one_step time events distinct = record { distinct = each; ordered = in_order }
  where
    each : (i : ℕ) → i < 1 → HasNoRepeats (step_at (at_time time events ∷ []) i).events
    each zero below = distinct
    each (suc i) below = absurd (omega (arith, below))

    in_order : (i j : ℕ) → i ≤ j → j < 1 → (step_at (at_time time events ∷ []) i).time ≤ (step_at (at_time time events ∷ []) j).time
    in_order zero zero order below = omega arith
    in_order (suc i) zero order below = absurd (omega (arith, order))
    in_order i (suc j) order below = absurd (omega (arith, below))

-- a step before others that are not earlier
pub step_before : (time : ℕ) (events : List Event) (trace : List Step) → HasNoRepeats events → IsTrace trace
    → ((i : ℕ) → i < length trace → time ≤ (step_at trace i).time) → IsTrace (at_time time events ∷ trace)
step_before time events trace distinct is later = record { distinct = each; ordered = in_order }
  where
    each : (i : ℕ) → i < length (at_time time events ∷ trace) → HasNoRepeats (step_at (at_time time events ∷ trace) i).events
    each zero below = distinct
    each (suc i) below = is.distinct i (omega (arith, below))

    in_order : (i j : ℕ) → i ≤ j → j < length (at_time time events ∷ trace)
        → (step_at (at_time time events ∷ trace) i).time ≤ (step_at (at_time time events ∷ trace) j).time
    in_order zero zero order below = omega arith
    in_order zero (suc j) order below = later j (omega (arith, below))
    in_order (suc i) zero order below = absurd (omega (arith, order))
    in_order (suc i) (suc j) order below = is.ordered i j (omega (arith, order)) (omega (arith, below))

pub two_steps : (first second : ℕ) (events others : List Event) → first ≤ second → HasNoRepeats events
    → HasNoRepeats others → IsTrace (at_time first events ∷ at_time second others ∷ [])
two_steps first second events others order distinct also =
    step_before first events (at_time second others ∷ []) distinct (one_step second others also) later
  where
    later : (i : ℕ) → i < 1 → first ≤ (step_at (at_time second others ∷ []) i).time
    later zero below = order
    later (suc i) below = absurd (omega (arith, below))

-- a trace continues as it is,
pub as_it_is : (trace : List Step) (clock : ℕ) → trace ≡ trace ++ [] → IsTrace trace → Continuation trace clock trace
as_it_is trace clock same is =
    record { more = []; begins = same; later = All-nil (λ (step : Step). clock ≤ step.time); is_trace = is }

-- and a step at 5 and one at a time after it with p() at the clock
pub then_p : (time clock : ℕ) → 5 ≤ time → time ≤ clock
    → Continuation (at_time 5 [] ∷ at_time time [] ∷ []) clock (at_time 5 [] ∷ at_time time [] ∷ at_time clock (event_p ∷ []) ∷ [])
then_p time clock first second = record {
  more = at_time clock (event_p ∷ []) ∷ [];
  begins = refl;
  later = All-from_recursion (λ (step : Step). clock ≤ step.time) (at_time clock (event_p ∷ []) ∷ []) (omega arith, tt);
  is_trace =
      step_before 5 [] (at_time time [] ∷ at_time clock (event_p ∷ []) ∷ []) tt
      (two_steps time clock [] (event_p ∷ []) second tt (one_event event_p)) later;
}
  where
    later : (i : ℕ) → i < 2 → 5 ≤ (step_at (at_time time [] ∷ at_time clock (event_p ∷ []) ∷ []) i).time
    later zero below = first
    later (suc zero) below = omega (arith, first, second)
    later (suc (suc i)) below = absurd (omega (arith, below))

-- ---- too late

-- after a step at 5 without events, what comes at 16 or later is too late
pub too_late : (more : List Step) → ((i : ℕ) → i < length more → 16 ≤ (step_at more i).time) → (j : ℕ)
    → j < length (at_5 [] ++ more) → IsIn (interval_from_to 0 10) (elapsed (at_5 [] ++ more) 0 j)
    → Contains (step_at (at_5 [] ++ more) j).events event_p → ⊥
too_late more later zero below near has = none_in_nil event_p has
too_late more later (suc j) below near has =
    let far : 16 ≤ (step_at more j).time = later j (omega (arith, below)) in let upper = near.1 in omega (arith, far, upper)

-- so is it after one at 15 more
pub also_too_late : (more : List Step) → ((i : ℕ) → i < length more → 16 ≤ (step_at more i).time) → (j : ℕ)
    → j < length (at_5 [] ++ at_time 15 [] ∷ more) → IsIn (interval_from_to 0 10) (elapsed (at_5 [] ++ at_time 15 [] ∷ more) 0 j)
    → Contains (step_at (at_5 [] ++ at_time 15 [] ∷ more) j).events event_p → ⊥
also_too_late more later zero below near has = none_in_nil event_p has
also_too_late more later (suc zero) below near has = none_in_nil event_p has
also_too_late more later (suc (suc j)) below near has =
    let far : 16 ≤ (step_at more j).time = later j (omega (arith, below)) in let upper = near.1 in omega (arith, far, upper)

-- ---- what leads where

-- nothing is after what leads to nothing
pub nowhere : (trace : List Step) (clock : ℕ) (from : Obligation) (moves : List Obligation) (to : Obligation)
    → ((next : Obligation) → LeadsTo trace clock from.node from.valuation from.position next → ⊥)
    → LeadsThrough trace clock from moves to → from ≡ to
nowhere trace clock from [] to none leads = leads
nowhere trace clock from (next ∷ moves) to none leads = absurd (none next leads.0)

-- p() within ten units leads to itself and to p()
abbrev pub IsSoon : Obligation → Obligation → Type 0
IsSoon from to = (from ≡ to) ⊎ (cause_p 1 ≡ to.node)

-- after what leads to p() alone
pub behind_body : (trace : List Step) (clock : ℕ) (from next : Obligation) (moves : List Obligation) (to : Obligation)
    → cause_p 1 ≡ next.node → LeadsThrough trace clock next moves to → IsSoon from to
behind_body trace clock from next moves to is leads =
    inr (is ∙ ap (λ (o : Obligation). o.node)
    (nowhere trace clock next moves to
    (λ after none. subst (λ (n : Plan). LeadsTo trace clock n next.valuation next.position after) (sym is) none) leads))

pub soon_leads : (trace : List Step) (clock : ℕ) (v : Valuation) (j : ℕ) (moves : List Obligation) (to : Obligation)
    → LeadsThrough trace clock (obligation (soon_p 0 0) v j) moves to → IsSoon (obligation (soon_p 0 0) v j) to
soon_leads trace clock v j [] to leads = inl leads
soon_leads trace clock v j (next ∷ moves) to leads =
    behind_body trace clock (obligation (soon_p 0 0) v j) next moves to
    (ap (λ (o : Obligation). o.node) leads.0.3) leads.1

-- the root of the only rule
pub only_root : (plan root : Plan) (rule : ℕ) → slice_get (plan ∷ []) rule ≡ Some root → plan ≡ root
only_root plan root rule is =
    ⊎_elim (λ same. same) (λ none. absurd (none_in_nil root none))
    (first_or_later root plan [] (there_from_get (plan ∷ []) rule root is))
