-- Words for the worked cases.
use Rattle.log_stream.specs.declared.items.LogItem.{LogItem}
use Rattle.log_stream.specs.declared.items.LogItem.TheVariants.{Step, Tick}
use Rattle.std.specs.Prelude.{ℕ, List, [], ◌∷◌}
use Rattle.stream_mux.specs.declared.records.Offer.TheVariants.{Item, End}
use Rattle.stream_mux.specs.declared.records.Tagged.{Tagged}
use Rattle.stream_mux.specs.meaning.MergedStreams.{StreamStep}
use Rattle.trace_meaning.specs.declared.kinds.StepKind.TheVariants.{System}

-- a step without events
abbrev pub bare_step : (time : ℕ) → LogItem
bare_step time = Step System time []

-- what a stream gives: such a step, a tick, its end
abbrev pub gives_step : (stream time : ℕ) → Tagged
gives_step stream time = record { stream = stream; offer = Item (bare_step time) }

abbrev pub gives_tick : (stream time : ℕ) → Tagged
gives_tick stream time = record { stream = stream; offer = Item (Tick time) }

abbrev pub gives_end : (stream : ℕ) → Tagged
gives_end stream = record { stream = stream; offer = End }

-- such a step of a stream
abbrev pub step_from : (stream time : ℕ) → StreamStep
step_from stream time = record { stream = stream; item = bare_step time }

-- two streams, of which 0 gives 5 and then 40, and 1 gives 3 and then a tick at 50: in two orders, the last first
abbrev pub two_streams : List Tagged
two_streams = gives_tick 1 50 ∷ gives_step 0 40 ∷ gives_step 1 3 ∷ gives_step 0 5 ∷ []

abbrev pub otherwise_mixed : List Tagged
otherwise_mixed = gives_step 0 40 ∷ gives_tick 1 50 ∷ gives_step 0 5 ∷ gives_step 1 3 ∷ []
