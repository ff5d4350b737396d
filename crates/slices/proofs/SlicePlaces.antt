-- Where the steps of a slice stand in the trace.
use Rattle.slices.proofs.Vocabulary.{◌≡◌, ◌⊎◌, ⊎_elim, inl, inr, ℕ, zero, suc, ◌<◌, ◌≤◌, Bool, List, [], ◌∷◌, length, refl, sym, ap, arith, cases_lt, Event, Step, Value}
use Rattle.slices.proofs.Vocabulary.{step_at, IsLeftOut, Keying, cut_events, cut_step, onto_slice, origin, place_behind, slice_of}

rises_behind : (events : List Event) (behind : ℕ → ℕ) → ((j k : ℕ) → j < k → behind j < behind k) → (j k : ℕ) → j < k
    → place_behind events j behind < place_behind events k behind
rises_behind [] behind rises j k lt = let before : behind j < behind k = rises j k lt in omega arith
rises_behind (event ∷ events) behind rises zero zero lt = absurd (omega arith)
rises_behind (event ∷ events) behind rises zero (suc k) lt = omega arith
rises_behind (event ∷ events) behind rises (suc j) zero lt = absurd (omega arith)
rises_behind (event ∷ events) behind rises (suc j) (suc k) lt =
    let before : behind j < behind k = rises j k (omega arith) in
    omega arith

below_behind : (time : ℕ) (events : List Event) (steps : List Step) (n : ℕ) (behind : ℕ → ℕ)
    → ((j : ℕ) → j < length steps → behind j < n) → (j : ℕ) → j < length (onto_slice time events steps)
    → place_behind events j behind < suc n
below_behind time [] steps n behind below j lt = let before : behind j < n = below j lt in omega arith
below_behind time (event ∷ events) steps n behind below zero lt = omega arith
below_behind time (event ∷ events) steps n behind below (suc j) lt =
    let before : behind j < n = below j (omega arith) in
    omega arith

module _ (keying : Keying) (keys : Value → Bool) where
  step_behind : (step : Step) (trace : List Step)
      → ((j : ℕ) → step_at (slice_of keying keys trace) j ≡ cut_step keying keys (step_at trace (origin keying keys trace j)))
      → (events : List Event) → cut_events keying keys step.events ≡ events → (j : ℕ)
      → step_at (onto_slice step.time events (slice_of keying keys trace)) j
      ≡ cut_step keying keys (step_at (step ∷ trace) (place_behind events j (λ k. origin keying keys trace k)))
  step_behind step trace behind [] is j = behind j
  step_behind step trace behind (event ∷ events) is zero = λ i. record { time = step.time; events = sym is i }
  step_behind step trace behind (event ∷ events) is (suc j) = behind j

  -- a step of the slice is the step of the trace from which it comes, with what is kept of it
  pub step_from : (trace : List Step) (j : ℕ)
      → step_at (slice_of keying keys trace) j ≡ cut_step keying keys (step_at trace (origin keying keys trace j))
  step_from [] j = refl
  step_from (step ∷ trace) j =
      step_behind step trace (λ k. step_from trace k) (cut_events keying keys step.events) refl j

  pub origin_rises : (trace : List Step) (j k : ℕ) → j < k → origin keying keys trace j < origin keying keys trace k
  origin_rises [] j k lt = lt
  origin_rises (step ∷ trace) j k lt =
      rises_behind (cut_events keying keys step.events) (λ l. origin keying keys trace l) (λ a b less. origin_rises trace a b less) j k lt

  pub origin_below : (trace : List Step) (j : ℕ) → j < length (slice_of keying keys trace)
      → origin keying keys trace j < length trace
  origin_below [] j lt = lt
  origin_below (step ∷ trace) j lt =
      below_behind step.time (cut_events keying keys step.events) (slice_of keying keys trace) (length trace)
      (λ l. origin keying keys trace l) (λ k less. origin_below trace k less) j lt

  -- a step of the trace has a place in the slice, or it is left out
  abbrev HasPlace : List Step → ℕ → Type 0
  HasPlace trace i = (j : ℕ) × (j < length (slice_of keying keys trace)) × (origin keying keys trace j ≡ i)

  covers_behind : (step : Step) (trace : List Step)
      → ((i : ℕ) → i < length trace → HasPlace trace i ⊎ IsLeftOut keying keys (step_at trace i))
      → (events : List Event) → cut_events keying keys step.events ≡ events → (i : ℕ) → i < length (step ∷ trace)
      → ((j : ℕ) × (j < length (onto_slice step.time events (slice_of keying keys trace)))
      × (place_behind events j (λ k. origin keying keys trace k) ≡ i))
      ⊎ IsLeftOut keying keys (step_at (step ∷ trace) i)
  covers_behind step trace behind [] is zero lt = inr is
  covers_behind step trace behind [] is (suc i) lt =
      ⊎_elim (λ found. inl (found.0, found.1, ap suc found.2)) (λ out. inr out) (behind i (omega arith))
  covers_behind step trace behind (event ∷ events) is zero lt = inl (zero, omega arith, refl)
  covers_behind step trace behind (event ∷ events) is (suc i) lt =
      ⊎_elim (λ found. inl (suc found.0, omega (arith, found.1), ap suc found.2)) (λ out. inr out) (behind i (omega arith))

  pub origin_covers : (trace : List Step) (i : ℕ) → i < length trace
      → HasPlace trace i ⊎ IsLeftOut keying keys (step_at trace i)
  origin_covers [] i lt = absurd (omega arith)
  origin_covers (step ∷ trace) i lt =
      covers_behind step trace (λ k less. origin_covers trace k less) (cut_events keying keys step.events) refl i lt

  pub origin_keeps : (trace : List Step) (j k : ℕ) → j ≤ k → origin keying keys trace j ≤ origin keying keys trace k
  origin_keeps trace j k le =
      ⊎_elim (λ lt. let before : origin keying keys trace j < origin keying keys trace k = origin_rises trace j k lt in omega arith)
      (λ from. let same : j ≡ k = omega arith in
      let at : origin keying keys trace j ≡ origin keying keys trace k = ap (λ l. origin keying keys trace l) same in omega arith)
      (cases_lt j k)

  pub place_upto : (trace : List Step) (j k : ℕ) → origin keying keys trace j ≤ origin keying keys trace k → j ≤ k
  place_upto trace j k le =
      ⊎_elim (λ lt. let before : origin keying keys trace k < origin keying keys trace j = origin_rises trace k j lt in absurd (omega arith))
      (λ from. from) (cases_lt k j)

  pub place_before : (trace : List Step) (j k : ℕ) → origin keying keys trace j < origin keying keys trace k → j < k
  place_before trace j k less =
      ⊎_elim (λ lt. lt)
      (λ from. let back : origin keying keys trace k ≤ origin keying keys trace j = origin_keeps trace k j from in absurd (omega arith))
      (cases_lt j k)

  pub time_from : (trace : List Step) (j : ℕ)
      → (step_at (slice_of keying keys trace) j).time ≡ (step_at trace (origin keying keys trace j)).time
  time_from trace j = ap (λ (s : Step). s.time) (step_from trace j)

  pub events_from : (trace : List Step) (j : ℕ)
      → (step_at (slice_of keying keys trace) j).events ≡ cut_events keying keys (step_at trace (origin keying keys trace j)).events
  events_from trace j = ap (λ (s : Step). s.events) (step_from trace j)
