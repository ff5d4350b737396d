-- Traces that grow.
use Rattle.std.proofs.Common.{◌≡◌, ℕ, zero, suc, ◌+◌, ◌<◌, ◌≤◌, List, [], ◌∷◌, ◌++◌, length, get_or, refl, sym, ap, subst, ◌∙◌, arith, length-append, ⊎_elim}
use Rattle.std.specs.List.{All}
use Rattle.std.proofs.lemmas.Bool.{cases_lt}
use Rattle.std.proofs.lemmas.List.{get_or-append-add, get_or_append_left, get_or_at, get_or_default}
use Rattle.enf_data.specs.meaning.Data.{IsTrace, step_at, no_step}
use Rattle.enf_data.specs.meaning.Membership.{HasNoRepeats}
use Rattle.enf_data.specs.declared.steps.Step.{Step}
use Rattle.trace_meaning.specs.meaning.Traces.{last_time}
use Rattle.trace_meaning.specs.machine.Laws.{TraceGrows, LastIsTheNew, LastIsAtTheEnd, NoneIsLater}

pub last_is_the_new : LastIsTheNew
last_is_the_new [] step = refl
last_is_the_new (first ∷ []) step = refl
last_is_the_new (first ∷ next ∷ trace) step = last_is_the_new (next ∷ trace) step

-- the last time is that at the last position
pub last_at : LastIsAtTheEnd
last_at [] k e = absurd (omega arith)
last_at (step ∷ []) zero e = refl
last_at (step ∷ []) (suc k) e = absurd (omega arith)
last_at (step ∷ next ∷ trace) zero e = absurd (omega arith)
last_at (step ∷ next ∷ trace) (suc k) e = last_at (next ∷ trace) k (omega arith)

pub no_later : NoneIsLater
no_later [] i t below = absurd (omega arith)
no_later (step ∷ trace) i t below =
    subst (λ time. (step_at (step ∷ trace) i).time ≤ time) (sym (last_at (step ∷ trace) (length trace) (omega arith))) (t.ordered i (length trace) (omega arith) (omega arith))

module _ (trace : List Step) (step : Step) where
  earlier_at : (i : ℕ) → i < length trace → step_at trace i ≡ step_at (trace ++ step ∷ []) i
  earlier_at i below = sym (get_or_append_left trace (step ∷ []) no_step i below)

  new_at : (i : ℕ) → i < length (trace ++ step ∷ []) → length trace ≤ i → step ≡ step_at (trace ++ step ∷ []) i
  new_at i below from =
      let n : length trace ≡ i = omega (arith, length-append trace (step ∷ [])) in
      sym (get_or_at trace step [] no_step i n)

  distinct_behind : IsTrace trace → HasNoRepeats step.events → (i : ℕ) → i < length (trace ++ step ∷ []) → HasNoRepeats (step_at (trace ++ step ∷ []) i).events
  distinct_behind t distinct i below =
      ⊎_elim
      (λ l. subst (λ (s : Step). HasNoRepeats s.events) (earlier_at i l) (t.distinct i l))
      (λ g. subst (λ (s : Step). HasNoRepeats s.events) (new_at i below g) distinct)
      (cases_lt i (length trace))

  ordered_behind : IsTrace trace → last_time trace ≤ step.time → (i j : ℕ) → i ≤ j → j < length (trace ++ step ∷ []) → (step_at (trace ++ step ∷ []) i).time ≤ (step_at (trace ++ step ∷ []) j).time
  ordered_behind t later i j order below =
      ⊎_elim
      (λ l. subst (λ (s : Step). (step_at (trace ++ step ∷ []) i).time ≤ s.time) (earlier_at j l)
      (subst (λ (s : Step). s.time ≤ (step_at trace j).time) (earlier_at i (omega arith)) (t.ordered i j order l)))
      (λ g. subst (λ (s : Step). (step_at (trace ++ step ∷ []) i).time ≤ s.time) (new_at j below g)
      (⊎_elim
      (λ l. subst (λ (s : Step). s.time ≤ step.time) (earlier_at i l) (let early : (step_at trace i).time ≤ last_time trace = no_later trace i t l in omega arith))
      (λ h. subst (λ (s : Step). s.time ≤ step.time) (new_at i (omega arith) h) (omega arith))
      (cases_lt i (length trace))))
      (cases_lt j (length trace))

pub trace_grows : TraceGrows
trace_grows trace step t later distinct =
    record { distinct = distinct_behind trace step t distinct; ordered = ordered_behind trace step t later }

pub trace_begins : IsTrace []
trace_begins = record { distinct = λ i below. absurd (omega arith); ordered = λ i j order below. absurd (omega arith) }

-- the front of a trace is one
pub trace_front : (trace more : List Step) → IsTrace (trace ++ more) → IsTrace trace
trace_front trace more t = record {
  distinct = λ i below. subst (λ (s : Step). HasNoRepeats s.events) (left i below) (t.distinct i (omega (arith, below, length-append trace more)));
  ordered = λ i j order below.
      subst (λ (s : Step). (step_at trace i).time ≤ s.time) (left j below)
      (subst (λ (s : Step). s.time ≤ (step_at (trace ++ more) j).time) (left i (omega (arith, order, below)))
      (t.ordered i j order (omega (arith, below, length-append trace more))));
}
  where
    left : (i : ℕ) → i < length trace → step_at (trace ++ more) i ≡ step_at trace i
    left i below = get_or_append_left trace more no_step i below

-- what stands after steps of a trace is not earlier than the last of them
pub not_earlier : (trace more : List Step) → IsTrace (trace ++ more) → All (λ step. last_time trace ≤ step.time) more
not_earlier [] more t k d l = omega arith
not_earlier (step ∷ trace) more t k d l =
    let ordered = t.ordered (length trace) (suc (length trace) + k) (omega arith) (omega (arith, l, length-append (step ∷ trace) more)) in
    let first : step_at ((step ∷ trace) ++ more) (length trace) ≡ step_at (step ∷ trace) (length trace) = get_or_append_left (step ∷ trace) more no_step (length trace) (omega arith) in
    let second : step_at ((step ∷ trace) ++ more) (suc (length trace) + k) ≡ get_or more k d = get_or-append-add (step ∷ trace) more k no_step ∙ get_or_default more k no_step d l in
    omega (arith, ordered, last_at (step ∷ trace) (length trace) (omega arith), ap (λ (s : Step). s.time) first, ap (λ (s : Step). s.time) second)
