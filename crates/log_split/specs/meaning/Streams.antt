-- How a log is split into streams: the stream of an event by its key, and what each stream has of a record.
use Rattle.std.specs.Fmt.{signed_decimal}
use Rattle.std.specs.List.{flat_map}
use Rattle.std.specs.Prelude.{ℕ, zero, suc, ◌*◌, ◌%◌, ◌^◌, ◌==◌, Bool, List, [], ◌∷◌, ◌++◌}
use Rattle.std.specs.Prelude.{bit_xor, decimal, fold}
use Rattle.enf_data.specs.declared.events.Event.{Event}
use Rattle.enf_data.specs.declared.values.Value.{Value}
use Rattle.enf_data.specs.declared.values.Value.TheVariants.{Num, Text}
use Rattle.log_stream.specs.declared.items.LogItem.{LogItem}
use Rattle.log_stream.specs.declared.items.LogItem.TheVariants.{Step, Tick}
use Rattle.log_stream.specs.meaning.LogGrammar.{step_line}
use Rattle.signature.specs.declared.entries.NameEntry.{NameEntry}
use Rattle.signature.specs.meaning.Grammar.{entry_names}
use Rattle.slices.specs.meaning.Slices.{Keying, cut_events}
use Rattle.trace_meaning.specs.declared.kinds.StepKind.TheVariants.{System}

-- ---- The stream of an event.

-- FNV-1a with 64 bits: a byte goes into the hash by an exclusive or, and then the hash is multiplied
abbrev pub fnv_mixed : ℕ → ℕ → ℕ
fnv_mixed hash byte = (bit_xor hash byte * 0x100_0000_01b3) % 2 ^ 64

abbrev pub fnv_hash : List ℕ → ℕ
fnv_hash bytes = fold fnv_mixed 0xcbf2_9ce4_8422_2325 bytes

-- the bytes of a key: those that a text stands for, or the decimal text of a number
abbrev pub key_bytes : Value → List ℕ
key_bytes (Num number) = signed_decimal number
key_bytes (Text bytes) = bytes

-- which of so many streams a key has
abbrev pub stream_for_key : ℕ → Value → ℕ
stream_for_key streams key = fnv_hash (key_bytes key) % streams

-- whether a key has this stream
abbrev pub has_stream : ℕ → ℕ → Value → Bool
has_stream streams stream key = stream_for_key streams key == stream

-- ---- What each stream has of a record.

-- by what a log is split: the names of its events, their keys, and the number of streams
pub record SplitPlan : Type 0 where
  pub entries : List NameEntry
  pub keying : Keying
  pub streams : ℕ

-- the events of a step that go to a stream, in order: those whose key has it, and those without a key
abbrev pub events_to : SplitPlan → ℕ → List Event → List Event
events_to plan stream events = cut_events plan.keying (has_stream plan.streams stream) events

-- the tag of a stream: its number and a colon
abbrev pub stream_tag : ℕ → List ℕ
stream_tag stream = decimal stream ++ 58 ∷ []

-- the line of a tick in a stream
abbrev pub tagged_tick : ℕ → ℕ → List ℕ
tagged_tick time stream = stream_tag stream ++ 62 ∷ decimal time ++ 59 ∷ 10 ∷ []

-- the line of a step with these events in a stream; a stream to which none of them goes has no line of the step
abbrev pub tagged_step : SplitPlan → ℕ → ℕ → List Event → List ℕ
tagged_step plan time stream [] = []
tagged_step plan time stream (event ∷ events) =
    stream_tag stream ++ step_line (entry_names plan.entries) System time (event ∷ events)

-- the line of a record in a stream; a step that has no event is a tick
abbrev pub tagged_line : SplitPlan → LogItem → ℕ → List ℕ
tagged_line plan (Tick time) stream = tagged_tick time stream
tagged_line plan (Step kind time []) stream = tagged_tick time stream
tagged_line plan (Step kind time (event ∷ events)) stream =
    tagged_step plan time stream (events_to plan stream (event ∷ events))

-- the lines of the streams below a number, in order
abbrev pub lines_below : (ℕ → List ℕ) → ℕ → List ℕ
lines_below line zero = []
lines_below line (suc stream) = lines_below line stream ++ line stream

-- the lines of a record
abbrev pub tagged_lines : SplitPlan → LogItem → List ℕ
tagged_lines plan item = lines_below (tagged_line plan item) plan.streams

-- the text of the streams of a log: the lines of each record after those of the records before it
abbrev pub split_text : SplitPlan → List LogItem → List ℕ
split_text plan items = flat_map (tagged_lines plan) items
