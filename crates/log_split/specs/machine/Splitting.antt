-- The splitting of a log, as the calls have it.
use Rattle.std.specs.Option.{option_map}
use Rattle.std.specs.Prelude.{ℕ, ◌==◌, Bool, true, List, Option, None, Some}
use Rattle.enf_data.specs.declared.events.Event.{Event}
use Rattle.slices.specs.machine.StoredKeys.{keying_of}
use Rattle.slices.specs.meaning.Slices.{Keying, event_key}
use Rattle.log_split.specs.declared.lines.Split.{Split}
use Rattle.log_split.specs.meaning.Streams.{SplitPlan, stream_for_key}

-- by what a log is split
abbrev pub split_plan : Split → SplitPlan
split_plan split = record {
  entries = split.signature.now;
  keying = keying_of split.keys.now;
  streams = split.streams;
}

-- the stream of an event; none where it has no key
abbrev pub own_stream : Keying → ℕ → Event → Option ℕ
own_stream keying streams event = option_map (stream_for_key streams) (event_key keying event)

-- whether an event of this stream goes to a stream: one without a key goes to each
abbrev pub goes_to : ℕ → Option ℕ → Bool
goes_to stream None = true
goes_to stream (Some own) = own == stream
