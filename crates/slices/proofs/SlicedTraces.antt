-- Slices of traces are traces, slices of longer traces begin with theirs, and no other key is in them.
use Rattle.slices.proofs.Vocabulary.{◌≡◌, ℕ, ◌≤◌, Bool, false, List, [], ◌∷◌, ◌++◌, Contains, refl, sym, ap, subst, arith, ◌∙◌, true≢false, All, All-cons, All-head, All-nil, All-tail}
use Rattle.slices.proofs.Vocabulary.{Event, Step, Value, step_at, HasNoRepeats, HasNoRepeats-filter, Contains-from_filter, Keying, cut_events, event_key, has_key, onto_slice, origin, slice_of}
use Rattle.slices.proofs.SlicePlaces.{events_from, origin_below, origin_covers, origin_keeps, origin_rises, step_from, time_from}
use Rattle.slices.proofs.VerdictLemmas.{HasNoneOf}
use Rattle.slices.specs.machine.Laws.{SlicesAreTraces, SlicesComeFromTraces}

pub slices_come_from_traces : SlicesComeFromTraces
slices_come_from_traces keying keys trace = record {
  cut = step_from keying keys trace;
  there = origin_below keying keys trace;
  rises = origin_rises keying keys trace;
  rest = origin_covers keying keys trace;
}

pub slices_are_traces : SlicesAreTraces
slices_are_traces keying keys trace t = record {
  distinct = λ i below. subst (λ (events : List Event). HasNoRepeats events) (sym (events_from keying keys trace i))
      (HasNoRepeats-filter (λ (event : Event). has_key keys (event_key keying event)) (step_at trace (origin keying keys trace i)).events
      (t.distinct (origin keying keys trace i) (origin_below keying keys trace i below)));
  ordered = λ i j order below.
      let rises = t.ordered (origin keying keys trace i) (origin keying keys trace j) (origin_keeps keying keys trace i j order) (origin_below keying keys trace j below) in
      omega (arith, rises, time_from keying keys trace i, time_from keying keys trace j);
}

-- the time is not below the clock
abbrev pub IsFrom : ℕ → Step → Type 0
IsFrom clock step = clock ≤ step.time

onto_later : (clock time : ℕ) (events : List Event) (steps : List Step) → clock ≤ time → All (IsFrom clock) steps
    → All (IsFrom clock) (onto_slice time events steps)
onto_later clock time [] steps from later = later
onto_later clock time (event ∷ events) steps from later =
    All-cons (IsFrom clock) (record { time = time; events = event ∷ events }) steps from later

onto_more : (time : ℕ) (events : List Event) (steps more : List Step) → onto_slice time events (steps ++ more) ≡ onto_slice time events steps ++ more
onto_more time [] steps more = refl
onto_more time (event ∷ events) steps more = refl

module _ (keying : Keying) (keys : Value → Bool) where
  pub slice_later : (clock : ℕ) (trace : List Step) → All (IsFrom clock) trace → All (IsFrom clock) (slice_of keying keys trace)
  slice_later clock [] later = All-nil (IsFrom clock)
  slice_later clock (step ∷ trace) later =
      onto_later clock step.time (cut_events keying keys step.events) (slice_of keying keys trace) (All-head (IsFrom clock) step trace later)
      (slice_later clock trace (All-tail (IsFrom clock) step trace later))

  pub slice-append : (trace more : List Step) → slice_of keying keys (trace ++ more) ≡ slice_of keying keys trace ++ slice_of keying keys more
  slice-append [] more = refl
  slice-append (step ∷ trace) more =
      ap (onto_slice step.time (cut_events keying keys step.events)) (slice-append trace more)
      ∙ onto_more step.time (cut_events keying keys step.events) (slice_of keying keys trace) (slice_of keying keys more)

  pub none_of_others : (key : Value) → keys key ≡ false → (trace : List Step) → HasNoneOf keying key (slice_of keying keys trace)
  none_of_others key other trace i event there is =
      let from : Contains (cut_events keying keys (step_at trace (origin keying keys trace i)).events) event =
      subst (λ (events : List Event). Contains events event) (events_from keying keys trace i) there in
      let kept = Contains-from_filter (λ (e : Event). has_key keys (event_key keying e)) (step_at trace (origin keying keys trace i)).events event from in
      true≢false (sym kept.1 ∙ ap (has_key keys) is ∙ other)
