-- The grammar of a log: the tokens of a record, what it says or why it is refused, and the text of steps.
use Rattle.enf_data.specs.declared.values.Value.{Value}
use Rattle.enf_data.specs.declared.values.Value.TheVariants.{Num}
use Rattle.std.specs.List.{flat_map}
use Rattle.std.specs.Prelude.{ℕ, List, ◌≡◌, ◌≢◌, ◌+◌, ◌<◌, pos, length, drop, take_while, slice_index, IsTrue, ◌≤◌}
use Rattle.std.specs.Prelude.{false, [], ◌∷◌, ◌++◌, Option, None, Some, if◌then◌else◌, slice_get, ◌==◌, map, unwrap_or}
use Rattle.std.specs.Prelude.{Result, Ok, Err, nat_lt, Bool, true, ◌&&◌, take, slice_index_or, decimal}
use Rattle.enf_value.specs.meaning.Tokens.{is_word, is_word_byte, is_blank, ValueTokenAt, spelled}
use Rattle.trace_meaning.specs.declared.kinds.StepKind.{StepKind}
use Rattle.trace_meaning.specs.declared.kinds.StepKind.TheVariants.{System, Inserted}
use Rattle.log_stream.specs.declared.items.LogMode.{LogMode}
use Rattle.log_stream.specs.declared.items.LogMode.TheVariants.{Input, TraceLog}
use Rattle.log_stream.specs.declared.limits.TheConstants.{MOST_EVENTS, MOST_RECORD_BYTES}
use Rattle.enf_data.specs.declared.events.Event.{Event}
use Rattle.enf_data.specs.meaning.Values.{has_event}
use Rattle.std.specs.Option.{option_and_then, option_map, option_or}
use Rattle.signature.specs.declared.entries.NameEntry.{NameEntry}
use Rattle.signature.specs.declared.entries.Sort.{Sort}
use Rattle.signature.specs.meaning.Columns.{has_sort}
use Rattle.signature.specs.meaning.Grammar.{name_number}
use Rattle.trace_meaning.specs.meaning.Traces.{most_time, OutStep}
use Rattle.log_stream.specs.declared.items.LogItem.{LogItem}
use Rattle.log_stream.specs.declared.items.LogItem.TheVariants.{Step, Tick}
use Rattle.log_stream.specs.declared.items.LogRefusal.{LogRefusal}
use Rattle.log_stream.specs.declared.items.LogRefusal.TheVariants.{UnknownName, Arity, SortClash, TimeTooLarge}
use Rattle.log_stream.specs.declared.items.LogRefusal.TheVariants.{BadRecord, TooLong, Truncated, NoMemory}
use Rattle.log_stream.specs.declared.scanning.Scan.{Scan}
use Rattle.log_stream.specs.declared.scanning.Scan.TheVariants.{Outside, Inside, Escaped}

-- the tokens of a record: a mark, which is one byte, a time, and a name and a value with the places where they begin
pub data LogToken : Type 0 where
  LogMark : (byte : ℕ) → LogToken
  LogTime : (time : ℕ) → LogToken
  LogName : (place : ℕ) → (name : List ℕ) → LogToken
  LogArgument : (place : ℕ) → (value : Value) → LogToken

-- the token begins at a place and ends before another: a time has digits alone, a name takes all letters, digits and
-- `_` that follow, and a value is a number or a text within their limits
abbrev pub IsLogTokenAt : List ℕ → (at end : ℕ) → LogToken → Type 0
IsLogTokenAt bytes at end (LogMark byte) = (at < length bytes) × (slice_index bytes at ≡ byte) × (end ≡ at + 1)
IsLogTokenAt bytes at end (LogTime time) = ValueTokenAt bytes at end (Num (pos time)) × (slice_index bytes at ≢ 45)
IsLogTokenAt bytes at end (LogName place name) =
    (place ≡ at) × IsTrue (is_word name) × (name ≡ take_while is_word_byte (drop at bytes)) × (end ≡ at + length name)
IsLogTokenAt bytes at end (LogArgument place value) = (place ≡ at) × ValueTokenAt bytes at end value

-- only blanks stand from a place to another, and no blank stands at that one
pub record IsLogGap (bytes : List ℕ) (from to : ℕ) : Type 0 where
  pub onward : from ≤ to
  pub blanks : (k : ℕ) → from ≤ k → k < to → IsTrue (is_blank (slice_index bytes k))
  pub ends : is_blank (slice_index bytes to) ≡ false

-- tokens, each with the blanks after it, lead from a place to another
abbrev pub LogTokensLead : List ℕ → (from : ℕ) → List LogToken → (to : ℕ) → Type 0
LogTokensLead bytes from [] to = to ≡ from
LogTokensLead bytes from (token ∷ tokens) to =
    (end next : ℕ) × IsLogTokenAt bytes from end token × IsLogGap bytes end next × LogTokensLead bytes next tokens to

-- an argument as it is written, and where it begins
pub record WrittenArgument : Type 0 where
  pub place : ℕ
  pub value : Value

-- an event as it is written, and where its name begins; whether a signature has the name is not asked here
pub record WrittenEvent : Type 0 where
  pub place : ℕ
  pub name : List ℕ
  pub args : List WrittenArgument

-- what a record writes: a step, each repeat of an event included, or a tick
pub data WrittenRecord : Type 0 where
  Line : (kind : StepKind) → (time : ℕ) → (events : List WrittenEvent) → WrittenRecord
  TickLine : (time : ℕ) → WrittenRecord

-- the mark before a step of a kind: `@` for the system, `+` for an inserted one
abbrev pub mark_of : StepKind → ℕ
mark_of System = 64
mark_of Inserted = 43

abbrev pub argument_token : WrittenArgument → LogToken
argument_token arg = LogArgument arg.place arg.value

-- values with commas between them
abbrev pub row_tokens : List WrittenArgument → List LogToken
row_tokens [] = []
row_tokens (arg ∷ args) = argument_token arg ∷ flat_map (λ next. LogMark 44 ∷ argument_token next ∷ []) args

-- NAME "(" [ value { "," value } ] ")"
abbrev pub event_tokens : WrittenEvent → List LogToken
event_tokens event = LogName event.place event.name ∷ LogMark 40 ∷ row_tokens event.args ++ LogMark 41 ∷ []

-- "@" TIME { event } ";", or "+" in the place of "@", or ">" TIME ";"
abbrev pub record_tokens : WrittenRecord → List LogToken
record_tokens (Line kind time events) = LogMark (mark_of kind) ∷ LogTime time ∷ flat_map event_tokens events ++
    LogMark 59 ∷ []
record_tokens (TickLine time) = LogMark 62 ∷ LogTime time ∷ LogMark 59 ∷ []

-- steps of the system are read in each log, inserted ones only in logs that were enforced
abbrev pub ModeReads : LogMode → StepKind → Type 0
ModeReads Input System = Unit {0}
ModeReads Input Inserted = ⊥
ModeReads TraceLog kind = Unit {0}

-- the record has at most 2,048 events, repeats included, and its step is of a kind that is read
abbrev pub IsRecordForm : LogMode → WrittenRecord → Type 0
IsRecordForm mode (Line kind time events) = ModeReads mode kind × (length events ≤ MOST_EVENTS)
IsRecordForm mode (TickLine time) = Unit {0}

-- the tokens are those of a record
abbrev pub IsRecordSentence : LogMode → List LogToken → Type 0
IsRecordSentence mode tokens = (written : WrittenRecord) × IsRecordForm mode written × (record_tokens written ≡ tokens)

-- some record begins with the tokens
abbrev pub CanBeginRecord : LogMode → List LogToken → Type 0
CanBeginRecord mode front = (written : WrittenRecord) × (rest : List LogToken) × IsRecordForm mode written
    × (record_tokens written ≡ front ++ rest)

-- the bytes are the tokens of a record and blanks between them
abbrev pub IsRecordSpelled : LogMode → List ℕ → WrittenRecord → Type 0
IsRecordSpelled mode bytes written = IsRecordForm mode written
    × LogTokensLead bytes 0 (record_tokens written) (length bytes)

-- the first place, or the end, at which the bytes cannot be those of a record: what is in front of it can begin one,
-- and no token that stands there continues it. So a number outside 64 bits, a faulty text and the name of the 2,049th
-- event are bad where they begin
pub record IsBadRecord (mode : LogMode) (bytes : List ℕ) (place : ℕ) : Type 0 where
  pub front : List LogToken
  pub leads : LogTokensLead bytes 0 front place
  pub begins : CanBeginRecord mode front
  pub unfinished : place ≡ length bytes → IsRecordSentence mode front → ⊥
  pub stuck : (token : LogToken) (end : ℕ) → IsLogTokenAt bytes place end token
      → CanBeginRecord mode (front ++ token ∷ []) → ⊥

-- ---- What a record says under a signature, or why it is refused.

-- where the first argument of another sort than its column's begins
abbrev pub argument_clash : List Sort → List WrittenArgument → Option ℕ
argument_clash [] args = None
argument_clash (sort ∷ sorts) [] = None
argument_clash (sort ∷ sorts) (arg ∷ args) = if has_sort sort arg.value then argument_clash sorts args else Some
    arg.place

-- the entry of a name
abbrev pub entry_of_name : List NameEntry → List ℕ → Option NameEntry
entry_of_name entries name = option_and_then (slice_get entries) (name_number entries name)

-- why an event is refused, given the entry of its name: the name comes first, then the number of its arguments, then
-- their sorts
abbrev pub event_refusal_by : Option NameEntry → WrittenEvent → Option LogRefusal
event_refusal_by None event = Some (UnknownName event.place)
event_refusal_by (Some entry) event =
    if length event.args == length entry.sorts then option_map SortClash (argument_clash entry.sorts event.args) else
    Some (Arity event.place)

abbrev pub event_refusal : List NameEntry → WrittenEvent → Option LogRefusal
event_refusal entries event = event_refusal_by (entry_of_name entries event.name) event

-- why the first refused event is refused
abbrev pub first_event_refusal : List NameEntry → List WrittenEvent → Option LogRefusal
first_event_refusal entries [] = None
first_event_refusal entries (event ∷ events) = option_or (event_refusal entries event)
    (first_event_refusal entries events)

-- the values of arguments, as they are written
abbrev pub argument_values : List WrittenArgument → List Value
argument_values args = map (λ arg. arg.value) args

-- the event that is written, its name by its number in the signature
abbrev pub event_from_written : List NameEntry → WrittenEvent → Event
event_from_written entries event =
    record { name = record { 0 = unwrap_or (name_number entries event.name) 0 }; args = argument_values event.args }

-- events with one more, which goes last where it is not among them
abbrev pub with_event_put : List Event → Event → List Event
with_event_put events event = if has_event events event then events else events ++ event ∷ []

-- events with others, which go last one after another, each where it is not there already
abbrev pub with_events_put : List Event → List Event → List Event
with_events_put before [] = before
with_events_put before (event ∷ events) = with_events_put (with_event_put before event) events

-- the events of a record; of a repeated one the first stays
abbrev pub events_from_written : List NameEntry → List WrittenEvent → List Event
events_from_written entries events = with_events_put [] (map (event_from_written entries) events)

abbrev pub judged_step : StepKind → ℕ → List Event → Option LogRefusal → Result LogItem LogRefusal
judged_step kind time events None = Ok (Step kind time events)
judged_step kind time events (Some refusal) = Err refusal

-- the item that is written, or its first refusal: the time comes before the events
abbrev pub judged_record : List NameEntry → WrittenRecord → Result LogItem LogRefusal
judged_record entries (Line kind time events) =
    if nat_lt (most_time kind) time then Err TimeTooLarge else judged_step kind time
    (events_from_written entries events) (first_event_refusal entries events)
judged_record entries (TickLine time) = if nat_lt (most_time System) time then Err TimeTooLarge else Ok (Tick time)

-- the answer to the bytes of one record, where a token that cannot continue one comes before all else
abbrev pub IsRecordAnswer : List NameEntry → LogMode → List ℕ → Result LogItem LogRefusal → Type 0
IsRecordAnswer entries mode bytes (Err (BadRecord place)) = IsBadRecord mode bytes place
IsRecordAnswer entries mode bytes answer =
    (written : WrittenRecord) × IsRecordSpelled mode bytes written × (judged_record entries written ≡ answer)

-- ---- A log: its whole records one after another, the rest, and its first refusal.

-- the scan after a byte: a quote outside of texts begins one wherever it stands, and inside it a backslash takes the
-- next byte with it, whatever that is
abbrev pub scan_behind : Scan → ℕ → Scan
scan_behind Outside byte = if byte == 34 then Inside else Outside
scan_behind Inside byte = if byte == 34 then Outside else (if byte == 92 then Escaped else Inside)
scan_behind Escaped byte = Inside

abbrev pub is_outside : Scan → Bool
is_outside Outside = true
is_outside scan = false

-- how many bytes there are up to the first semicolon outside of texts, which is counted with them
abbrev pub length_to_end : Scan → List ℕ → Option ℕ
length_to_end scan [] = None
length_to_end scan (byte ∷ bytes) =
    if is_outside scan && (byte == 59) then Some 1 else option_map (λ n. n + 1) (length_to_end
    (scan_behind scan byte) bytes)

-- how many bytes the record at the front has, where its end is among the first 65,536
abbrev pub record_length : List ℕ → Option ℕ
record_length bytes = length_to_end Outside (take MOST_RECORD_BYTES bytes)

-- a text from its first byte that is no blank on, where a record begins
abbrev pub behind_blanks : List ℕ → List ℕ
behind_blanks [] = []
behind_blanks (byte ∷ bytes) = if is_blank byte then behind_blanks bytes else byte ∷ bytes

-- a whole record of so many bytes stands at the front of the text, after blanks
abbrev pub HasRecord : List ℕ → ℕ → Type 0
HasRecord text n = record_length (behind_blanks text) ≡ Some n

-- the bytes of the record of so many bytes at the front
abbrev pub record_bytes : List ℕ → ℕ → List ℕ
record_bytes text n = take n (behind_blanks text)

abbrev pub behind_record : List ℕ → ℕ → List ℕ
behind_record text n = drop n (behind_blanks text)

-- the record at the front is this item, and this is left after it
abbrev pub BeginsWithRecord : List NameEntry → LogMode → List ℕ → LogItem → List ℕ → Type 0
BeginsWithRecord entries mode text item rest =
    (n : ℕ) × HasRecord text n × IsRecordAnswer entries mode (record_bytes text n) (Ok item)
    × (rest ≡ behind_record text n)

-- the record at the front is refused, whatever follows the text
abbrev pub RefusesFront : List NameEntry → LogMode → List ℕ → LogRefusal → Type 0
RefusesFront entries mode text TooLong =
    (record_length (behind_blanks text) ≡ None) × (MOST_RECORD_BYTES ≤ length (behind_blanks text))
RefusesFront entries mode text Truncated = ⊥
RefusesFront entries mode text NoMemory = ⊥
RefusesFront entries mode text refusal =
    (n : ℕ) × HasRecord text n × IsRecordAnswer entries mode (record_bytes text n) (Err refusal)

-- no record is whole at the front yet, and none is refused
abbrev pub IsPending : List ℕ → Type 0
IsPending text = (record_length (behind_blanks text) ≡ None) × (length (behind_blanks text) < MOST_RECORD_BYTES)

-- a record was begun at the front, and is not ended
abbrev pub IsTruncated : List ℕ → Type 0
IsTruncated text = IsPending text × (0 < length (behind_blanks text))

-- the text is whole records, one for each item, with blanks before them, and a rest; blanks in front of the rest
-- count for nothing
abbrev pub SpellsRecords : List NameEntry → LogMode → List ℕ → List LogItem → List ℕ → Type 0
SpellsRecords entries mode text [] rest = behind_blanks rest ≡ behind_blanks text
SpellsRecords entries mode text (item ∷ items) rest =
    (between : List ℕ) × BeginsWithRecord entries mode text item between × SpellsRecords entries mode between items rest

-- how a log ends with the rest: nothing is left of it, or this is its first refusal
abbrev pub EndsBy : List NameEntry → LogMode → List ℕ → Option LogRefusal → Type 0
EndsBy entries mode rest None = behind_blanks rest ≡ []
EndsBy entries mode rest (Some Truncated) = IsTruncated rest
EndsBy entries mode rest (Some refusal) = RefusesFront entries mode rest refusal

-- a text is a whole log: these are its records up to the first refusal, where there is one
abbrev pub IsLog : List NameEntry → LogMode → List ℕ → List LogItem → Option LogRefusal → Type 0
IsLog entries mode text items refusal =
    (rest : List ℕ) × SpellsRecords entries mode text items rest × EndsBy entries mode rest refusal

-- ---- The canonical text of steps: the lines that are given for them, which are read again as them.

-- the text of values, with commas between them
abbrev pub spelled_row : List Value → List ℕ
spelled_row [] = []
spelled_row (value ∷ row) = spelled value ++ flat_map (λ next. 44 ∷ spelled next) row

-- the text of an event: its name, and its arguments in parentheses; the names are those of the signature, by their
-- numbers
abbrev pub spelled_event : List (List ℕ) → Event → List ℕ
spelled_event names event = slice_index_or names event.name.0 [] ++ 40 ∷ spelled_row event.args ++ 41 ∷ []

-- the text of a step: its mark, its time, each event after a space, and a semicolon
abbrev pub spelled_step : List (List ℕ) → StepKind → ℕ → List Event → List ℕ
spelled_step names kind time events =
    mark_of kind ∷ decimal time ++ flat_map (λ event. 32 ∷ spelled_event names event) events ++ 59 ∷ []

-- the line of a step: its text, and a line feed
abbrev pub step_line : List (List ℕ) → StepKind → ℕ → List Event → List ℕ
step_line names kind time events = spelled_step names kind time events ++ 10 ∷ []

abbrev pub line_of : List (List ℕ) → OutStep → List ℕ
line_of names out = step_line names out.kind out.step.time out.step.events

-- the lines of the steps, in order
abbrev pub text_of : List (List ℕ) → List OutStep → List ℕ
text_of names out = flat_map (line_of names) out
