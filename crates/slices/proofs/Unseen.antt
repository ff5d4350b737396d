-- Steps that a slice leaves out may be missing, and stand in any order.
use Rattle.slices.proofs.Vocabulary.{◌≡◌, ◌⊎◌, ⊎_elim, ℕ, Bool, List, [], ◌∷◌, ◌++◌, sym, ap, ◌∙◌, append-nil, filter-append, Event, Step, Value, Keying, IsLeftOut, cut_events, event_key, has_key, onto_slice, slice_of}
use Rattle.slices.proofs.SlicedTraces.{slice-append}
use Rattle.slices.specs.machine.Laws.{MissingIsUnseen, OrderIsUnseen, SplitIsUnseen}

module _ (keying : Keying) (keys : Value → Bool) where
  -- a step that is left out, before others
  without : (step : Step) (back : List Step) → IsLeftOut keying keys step
      → slice_of keying keys (step ∷ back) ≡ slice_of keying keys back
  without step back out = ap (λ events. onto_slice step.time events (slice_of keying keys back)) out

  behind : (front one other : List Step) → slice_of keying keys one ≡ slice_of keying keys other
      → slice_of keying keys (front ++ one) ≡ slice_of keying keys (front ++ other)
  behind front one other same =
      slice-append keying keys front one ∙ ap (λ steps. slice_of keying keys front ++ steps) same
      ∙ sym (slice-append keying keys front other)

  next_to : (step next : Step) (back : List Step) → IsLeftOut keying keys next
      → slice_of keying keys (step ∷ next ∷ back) ≡ slice_of keying keys (step ∷ back)
  next_to step next back out = ap (onto_slice step.time (cut_events keying keys step.events)) (without next back out)

  exchanged : (step next : Step) (back : List Step) → IsLeftOut keying keys step ⊎ IsLeftOut keying keys next
      → slice_of keying keys (step ∷ next ∷ back) ≡ slice_of keying keys (next ∷ step ∷ back)
  exchanged step next back either =
      ⊎_elim (λ out. without step (next ∷ back) out ∙ sym (next_to next step back out))
      (λ out. next_to step next back out ∙ sym (without next (step ∷ back) out)) either

  joined : (time : ℕ) (events more : List Event) (back : List Step)
      → (cut_events keying keys events ≡ []) ⊎ (cut_events keying keys more ≡ [])
      → slice_of keying keys (record { time = time; events = events ++ more } ∷ back)
      ≡ slice_of keying keys (record { time = time; events = events } ∷ record { time = time; events = more } ∷ back)
  joined time events more back either =
      let one : Step = record { time = time; events = events } in
      let two : Step = record { time = time; events = more } in
      let both = filter-append (λ (event : Event). has_key keys (event_key keying event)) events more in
      ap (λ kept. onto_slice time kept (slice_of keying keys back)) both
      ∙ ⊎_elim
      (λ out. ap (λ kept. onto_slice time (kept ++ cut_events keying keys more) (slice_of keying keys back)) out
      ∙ sym (without one (two ∷ back) out))
      (λ out. ap (λ kept. onto_slice time (cut_events keying keys events ++ kept) (slice_of keying keys back)) out
      ∙ ap (λ kept. onto_slice time kept (slice_of keying keys back)) (append-nil (cut_events keying keys events))
      ∙ sym (next_to one two back out))
      either

pub missing_is_unseen : MissingIsUnseen
missing_is_unseen keying keys front step back out = behind keying keys front (step ∷ back) back (without keying keys step back out)

pub order_is_unseen : OrderIsUnseen
order_is_unseen keying keys front step next back either =
    behind keying keys front (step ∷ next ∷ back) (next ∷ step ∷ back) (exchanged keying keys step next back either)

pub split_is_unseen : SplitIsUnseen
split_is_unseen keying keys front time events more back either =
    behind keying keys front (record { time = time; events = events ++ more } ∷ back)
    (record { time = time; events = events } ∷ record { time = time; events = more } ∷ back) (joined keying keys time events more back either)
