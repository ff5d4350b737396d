-- Slices of logs, and changes of the events of some keys.
use Rattle.enf_data.specs.declared.events.Event.{Event}
use Rattle.enf_data.specs.declared.events.NameId.{NameId}
use Rattle.enf_data.specs.declared.values.Value.{Value}
use Rattle.slices.specs.meaning.Slices.{Keying, cut_events, event_key}
use Rattle.std.specs.Prelude.{All, ℕ, List, [], ◌∷◌, ◌++◌, Some, map, Bool, false, IsTrue, ◌≡◌}
use Rattle.trace_meaning.specs.meaning.Traces.{Change, Leads, Record, StepRecord, Tick, event_of}

-- a step record with these events, and a tick where there are none
abbrev pub record_with : ℕ → List Event → Record
record_with time [] = Tick time
record_with time (event ∷ events) = StepRecord (record { time = time; events = event ∷ events })

-- the record with the events of these keys and those without a key
abbrev pub cut_record : Keying → (Value → Bool) → Record → Record
cut_record keying keys (StepRecord step) = record_with step.time (cut_events keying keys step.events)
cut_record keying keys (Tick time) = Tick time

-- the slice of a log: what it leaves out of the steps still tells the time
abbrev pub slice_of_log : Keying → (Value → Bool) → List Record → List Record
slice_of_log keying keys records = map (cut_record keying keys) records

-- an event of one of these keys is changed
abbrev pub IsChangeOf : Keying → (Value → Bool) → Change → Type 0
IsChangeOf keying keys change = (key : Value) × (event_key keying (event_of change) ≡ Some key) × IsTrue (keys key)

-- no key of the one set is in the other
abbrev pub ShareNoKey : (Value → Bool) → (Value → Bool) → Type 0
ShareNoKey keys others = (key : Value) → IsTrue (keys key) → others key ≡ false

-- these changes of a step's events, made in all of them, are those of the slice for these keys, and of each slice for
-- other keys none
pub record IsChangedForKeys (causable suppressible : NameId → Bool) (keying : Keying) (keys : Value → Bool)
    (changes : List Change) (before part whole : List Event) : Type 0 where
  pub leads : Leads causable suppressible changes before whole
  pub own : cut_events keying keys whole ≡ part
  pub others : (others : Value → Bool) → ShareNoKey keys others
      → cut_events keying others whole ≡ cut_events keying others before

-- what was done at a step in one slice: for these keys, by these changes, with these events after them
pub record StepPart : Type 0 where
  pub keys : Value → Bool
  pub changes : List Change
  pub events : List Event

-- it was done to the slice of these events, by lawful changes of events of its keys
pub record IsPartOf (causable suppressible : NameId → Bool) (keying : Keying) (before : List Event)
    (part : StepPart) : Type 0 where
  pub own : All (IsChangeOf keying part.keys) part.changes
  pub leads : Leads causable suppressible part.changes (cut_events keying part.keys before) part.events

-- no two of them share a key
abbrev pub AreOfOtherKeys : List StepPart → Type 0
AreOfOtherKeys [] = Unit {0}
AreOfOtherKeys (part ∷ parts) = All (λ (other : StepPart). ShareNoKey part.keys other.keys) parts × AreOfOtherKeys parts

abbrev pub all_changes : List StepPart → List Change
all_changes [] = []
all_changes (part ∷ parts) = part.changes ++ all_changes parts
