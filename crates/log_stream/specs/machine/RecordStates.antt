-- What has come of a record after its tokens, one after another, and where nothing can follow.
use Rattle.enf_data.specs.declared.events.Event.{Event}
use Rattle.enf_data.specs.declared.values.Value.{Value}
use Rattle.std.specs.List.{flat_map}
use Rattle.std.specs.Option.{option_and_then, option_map}
use Rattle.std.specs.Prelude.{ℕ, List, Option, None, Some, ◌+◌, ◌==◌, nat_lt, [], ◌∷◌, ◌++◌, length}
use Rattle.std.specs.Prelude.{if◌then◌else◌, ◌≡◌, Err, Ok, Result, map, ◌≤◌, take}
use Rattle.signature.specs.declared.entries.NameEntry.{NameEntry}
use Rattle.signature.specs.declared.entries.Sort.{Sort}
use Rattle.signature.specs.meaning.Columns.{has_sort}
use Rattle.trace_meaning.specs.declared.kinds.StepKind.{StepKind}
use Rattle.trace_meaning.specs.declared.kinds.StepKind.TheVariants.{Inserted, System}
use Rattle.log_stream.specs.declared.items.LogItem.{LogItem}
use Rattle.log_stream.specs.declared.items.LogMode.{LogMode}
use Rattle.log_stream.specs.declared.items.LogMode.TheVariants.{Input, TraceLog}
use Rattle.log_stream.specs.declared.items.LogRefusal.{LogRefusal}
use Rattle.log_stream.specs.declared.items.LogRefusal.TheVariants.{BadRecord, NoMemory, Arity, SortClash}
use Rattle.log_stream.specs.declared.limits.TheConstants.{MOST_EVENTS}
use Rattle.log_stream.specs.declared.scanning.Scan.TheVariants.{Outside}
use Rattle.log_stream.specs.meaning.LogGrammar.{length_to_end, argument_clash, argument_values, event_from_written}
use Rattle.log_stream.specs.meaning.LogGrammar.{event_refusal, first_event_refusal, IsRecordAnswer, WrittenArgument}
use Rattle.log_stream.specs.meaning.LogGrammar.{WrittenEvent, WrittenRecord, LogToken, LogMark, LogTime, LogName}
use Rattle.log_stream.specs.meaning.LogGrammar.{LogArgument, Line, TickLine, IsLogTokenAt, LogTokensLead, row_tokens}
use Rattle.log_stream.specs.meaning.LogGrammar.{event_tokens}

-- what has come of a record
pub data RecordState : Type 0 where
  RecordStart : RecordState
  RecordMarked : (kind : StepKind) → RecordState
  Ticking : RecordState
  Ticked : (time : ℕ) → RecordState
  Events : (kind : StepKind) → (time : ℕ) → (events : List WrittenEvent) → RecordState
  Named : (kind : StepKind) → (time : ℕ) → (events : List WrittenEvent) → (place : ℕ)
      → (name : List ℕ) → RecordState
  Opened : (kind : StepKind) → (time : ℕ) → (events : List WrittenEvent) → (place : ℕ)
      → (name : List ℕ) → RecordState
  Valued : (kind : StepKind) → (time : ℕ) → (events : List WrittenEvent) → (place : ℕ) → (name : List ℕ)
      → (args : List WrittenArgument) → RecordState
  Comma : (kind : StepKind) → (time : ℕ) → (events : List WrittenEvent) → (place : ℕ) → (name : List ℕ)
      → (args : List WrittenArgument) → RecordState
  Done : (written : WrittenRecord) → RecordState

abbrev pub event_at : ℕ → List ℕ → List WrittenArgument → WrittenEvent
event_at place name args = record { place = place; name = name; args = args }

abbrev pub argument_at : ℕ → Value → WrittenArgument
argument_at place value = record { place = place; value = value }

-- after `+`
abbrev pub inserted_state : LogMode → Option RecordState
inserted_state Input = None
inserted_state TraceLog = Some (RecordMarked Inserted)

-- the state after a token, where the token continues a record
abbrev pub record_next : LogMode → RecordState → LogToken → Option RecordState
record_next mode RecordStart (LogMark byte) =
    if byte == 64 then Some (RecordMarked System)
    else (if byte == 62 then Some Ticking
    else (if byte == 43 then inserted_state mode else None))
record_next mode (RecordMarked kind) (LogTime time) = Some (Events kind time [])
record_next mode Ticking (LogTime time) = Some (Ticked time)
record_next mode (Ticked time) (LogMark byte) = if byte == 59 then Some (Done (TickLine time)) else None
record_next mode (Events kind time events) (LogName place name) =
    if nat_lt (length events) MOST_EVENTS then Some (Named kind time events place name) else None
record_next mode (Events kind time events) (LogMark byte) = if byte == 59 then Some (Done (Line kind time events)) else
    None
record_next mode (Named kind time events place name) (LogMark byte) =
    if byte == 40 then Some (Opened kind time events place name) else None
record_next mode (Opened kind time events place name) (LogMark byte) =
    if byte == 41 then Some (Events kind time (events ++ event_at place name [] ∷ [])) else None
record_next mode (Opened kind time events place name) (LogArgument at value) =
    Some (Valued kind time events place name (argument_at at value ∷ []))
record_next mode (Valued kind time events place name args) (LogMark byte) =
    if byte == 44 then Some (Comma kind time events place name args)
    else (if byte == 41 then Some (Events kind time (events ++ event_at place name args ∷ [])) else None)
record_next mode (Comma kind time events place name args) (LogArgument at value) =
    Some (Valued kind time events place name (args ++ argument_at at value ∷ []))
record_next mode state token = None

-- the state after tokens
abbrev pub record_run : LogMode → RecordState → List LogToken → Option RecordState
record_run mode state [] = Some state
record_run mode state (token ∷ tokens) = option_and_then (λ after. record_run mode after tokens)
    (record_next mode state token)

-- no token that stands at the place continues the state, and no whole record ends there
pub record IsStuckAt (mode : LogMode) (bytes : List ℕ) (place : ℕ) (state : RecordState) : Type 0 where
  pub none : (token : LogToken) (end : ℕ) → IsLogTokenAt bytes place end token → record_next mode state token
      ≡ None
  pub unfinished : (written : WrittenRecord) → place ≡ length bytes → state ≡ Done written → ⊥

-- tokens lead from a place, where the record is in a state, to one where nothing can follow
pub record IsBadFrom (mode : LogMode) (bytes : List ℕ) (from : ℕ) (state : RecordState) (place : ℕ) : Type 0 where
  pub front : List LogToken
  pub after : RecordState
  pub leads : LogTokensLead bytes from front place
  pub runs : record_run mode state front ≡ Some after
  pub stuck : IsStuckAt mode bytes place after

-- reading on from a place is refused there, or there is no memory
abbrev pub FailsReading : LogMode → List ℕ → (from : ℕ) → RecordState → LogRefusal → Type 0
FailsReading mode bytes from state (BadRecord place) = IsBadFrom mode bytes from state place
FailsReading mode bytes from state NoMemory = Unit {0}
FailsReading mode bytes from state refusal = ⊥

-- where a value clashes with its column's sort, if there is such a column
abbrev pub clash_at : Option Sort → Value → ℕ → Option ℕ
clash_at None value place = None
clash_at (Some sort) value place = if has_sort sort value then None else Some place

-- the value that stands at a place goes last in a row, and the next token is at another
pub record PutsArgument (bytes : List ℕ) (at record_next : ℕ) (before after : List Value) : Type 0 where
  pub value : Value
  pub leads : LogTokensLead bytes at (LogArgument at value ∷ []) record_next
  pub last : after ≡ before ++ value ∷ []

-- the arguments that are read after `(`, with the first clash among them
pub record ReadsRow (sorts : List Sort) (bytes : List ℕ) (from : ℕ) (row : List Value) (clashes : Option ℕ)
    (to : ℕ) : Type 0 where
  pub args : List WrittenArgument
  pub leads : LogTokensLead bytes from (row_tokens args ++ LogMark 41 ∷ []) to
  pub values : row ≡ argument_values args
  pub first : clashes ≡ argument_clash sorts args

-- the event that is written, or its refusal
abbrev pub JudgesEvent : List NameEntry → WrittenEvent → Result Event LogRefusal → Type 0
JudgesEvent entries written (Ok event) = (event_refusal entries written ≡ None)
    × (event ≡ event_from_written entries written)
JudgesEvent entries written (Err refusal) = event_refusal entries written ≡ Some refusal

-- the event that is read, and where the next token is
abbrev pub ReadsEvent : List NameEntry → List ℕ → (from : ℕ)
    → Result Event LogRefusal → (to : ℕ) → Type 0
ReadsEvent entries bytes from event to =
    (written : WrittenEvent) × LogTokensLead bytes from (event_tokens written) to × JudgesEvent entries written event

-- the events that are written, repeats included, or the first refusal among them
abbrev pub JudgesEvents : List NameEntry → List WrittenEvent → Result (List Event) LogRefusal → Type 0
JudgesEvents entries written (Ok events) =
    (first_event_refusal entries written ≡ None) × (events ≡ map (event_from_written entries) written)
JudgesEvents entries written (Err refusal) = first_event_refusal entries written ≡ Some refusal

-- the events of a record are read from a place on, up to a semicolon at another place
pub record ReadsUpTo (entries : List NameEntry) (bytes : List ℕ) (from : ℕ)
    (events : Result (List Event) LogRefusal) (at : ℕ) : Type 0 where
  pub written : List WrittenEvent
  pub few : length written ≤ MOST_EVENTS
  pub leads : LogTokensLead bytes from (flat_map event_tokens written) at
  pub ends : IsLogTokenAt bytes at (at + 1) (LogMark 59)
  pub judged : JudgesEvents entries written events

-- the answer of a call is that of the bytes, unless there was no memory
abbrev pub GivesRecordAnswer : List NameEntry → LogMode → List ℕ → Result LogItem LogRefusal → Type 0
GivesRecordAnswer entries mode bytes (Err NoMemory) = Unit {0}
GivesRecordAnswer entries mode bytes answer = IsRecordAnswer entries mode bytes answer

-- why a row of so many arguments is refused at its event's place
abbrev pub row_refusal : List Sort → ℕ → Option ℕ → ℕ → Option LogRefusal
row_refusal sorts count clashes place =
    if count == length sorts then option_map SortClash clashes else Some (Arity place)

-- what comes of events, or of the first refusal among them, by an event more
abbrev pub PutsEvent : Result (List Event) LogRefusal → Result Event LogRefusal → Result (List Event) LogRefusal
    → Type 0
PutsEvent (Ok events) (Ok event) after = after ≡ Ok (events ++ event ∷ [])
PutsEvent (Ok events) (Err refusal) after = after ≡ Err refusal
PutsEvent (Err refusal) event after = after ≡ Err refusal

-- events, or the first refusal among them
abbrev pub so_far : List Event → Option LogRefusal → Result (List Event) LogRefusal
so_far events None = Ok events
so_far events (Some refusal) = Err refusal

-- the record at the front of bytes, and how many bytes it has; or, where the bytes are those of one record alone, its
-- refusal, unless there was no memory
abbrev pub ReadsFront : List NameEntry → LogMode → List ℕ → Result (LogItem × ℕ) LogRefusal → Type 0
ReadsFront entries mode bytes (Ok read) =
    (length_to_end Outside bytes ≡ Some read.1) × IsRecordAnswer entries mode (take read.1 bytes) (Ok read.0)
ReadsFront entries mode bytes (Err refusal) =
    length_to_end Outside bytes ≡ Some (length bytes) → GivesRecordAnswer entries mode bytes (Err refusal)
