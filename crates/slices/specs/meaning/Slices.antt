-- Keys of events, and the slice of a trace for a set of keys.
use Rattle.enf_data.specs.declared.events.Event.{Event}
use Rattle.enf_data.specs.declared.events.NameId.{NameId}
use Rattle.enf_data.specs.declared.steps.Step.{Step}
use Rattle.enf_data.specs.declared.values.Value.{Value}
use Rattle.std.specs.List.{filter, slice_get}
use Rattle.std.specs.Prelude.{ℕ, zero, suc, List, [], ◌∷◌, Option, None, Some, Bool, true, ◌≡◌}

-- for each event name the argument, counted from 0, that is the key of its events; none where the name is shared
abbrev pub Keying : Type 0
Keying = NameId → Option ℕ

abbrev pub key_argument : Option ℕ → List Value → Option Value
key_argument None args = None
key_argument (Some column) args = slice_get args column

-- the key of an event; none where its name is shared, or it has no such argument
abbrev pub event_key : Keying → Event → Option Value
event_key keying event = key_argument (keying event.name) event.args

-- a set of keys has this one; what has no key is of each set
abbrev pub has_key : (Value → Bool) → Option Value → Bool
has_key keys None = true
has_key keys (Some key) = keys key

-- the events of these keys, and those without a key
abbrev pub cut_events : Keying → (Value → Bool) → List Event → List Event
cut_events keying keys events = filter (λ event. has_key keys (event_key keying event)) events

abbrev pub cut_step : Keying → (Value → Bool) → Step → Step
cut_step keying keys step = record { time = step.time; events = cut_events keying keys step.events }

-- a step before others, where it has events
abbrev pub onto_slice : ℕ → List Event → List Step → List Step
onto_slice time [] steps = steps
onto_slice time (event ∷ events) steps = record { time = time; events = event ∷ events } ∷ steps

-- the slice of a trace for a set of keys: its steps with the events of these keys and those without a key, where they
-- have any
abbrev pub slice_of : Keying → (Value → Bool) → List Step → List Step
slice_of keying keys [] = []
slice_of keying keys (step ∷ trace) =
    onto_slice step.time (cut_events keying keys step.events) (slice_of keying keys trace)

-- the slice has no step for this one
abbrev pub IsLeftOut : Keying → (Value → Bool) → Step → Type 0
IsLeftOut keying keys step = cut_events keying keys step.events ≡ []

-- the place behind a step, where it is there and where it was left out
abbrev pub place_behind : List Event → ℕ → (ℕ → ℕ) → ℕ
place_behind [] place behind = suc (behind place)
place_behind (event ∷ events) zero behind = zero
place_behind (event ∷ events) (suc place) behind = suc (behind place)

-- the position in the trace of the step that has this place in its slice
abbrev pub origin : Keying → (Value → Bool) → List Step → ℕ → ℕ
origin keying keys [] place = place
origin keying keys (step ∷ trace) place =
    place_behind (cut_events keying keys step.events) place (λ later. origin keying keys trace later)
