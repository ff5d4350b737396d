-- What a `Mux` is seen as, and for which histories it stands.
use Rattle.log_stream.specs.declared.items.LogItem.{LogItem}
use Rattle.std.specs.Prelude.{ℕ, List, [], ◌∷◌, ◌++◌, ◌≡◌, Option, None, Some, Result, Ok, Err, length, max, replicate}
use Rattle.std.specs.Option.{option_map}
use Rattle.std.specs.Prelude.{slice_get}
use Rattle.stream_mux.specs.declared.records.MuxRefusal.{MuxRefusal}
use Rattle.stream_mux.specs.declared.records.MuxRefusal.TheVariants.{NoStream, Closed, NoMemory}
use Rattle.stream_mux.specs.declared.records.Offer.{Offer}
use Rattle.stream_mux.specs.declared.records.Offer.TheVariants.{Item, End}
use Rattle.stream_mux.specs.declared.records.Tagged.{Tagged}
use Rattle.stream_mux.specs.declared.turns.Turn.{Turn}
use Rattle.stream_mux.specs.machine.MuxQueues.{GivesUpTo, queue_of}
use Rattle.stream_mux.specs.machine.Turns.{IsFirstTurn, time_of_turn}
use Rattle.stream_mux.specs.meaning.MergedStreams.{AreTaken, StreamStep, falling, greatest_time, items_from}
use Rattle.stream_mux.specs.meaning.MergedStreams.{items_in_order}
use Rattle.stream_mux.specs.meaning.MergedStreams.{merge_of, open_marks, released, sent, shown_time, tick_above}
use Rattle.stream_mux.specs.meaning.MergedStreams.{waiting_steps}

-- the mark of each open stream, and none of a closed one; the steps of each stream that wait; the greatest time that
-- was sent
pub record MuxState : Type 0 where
  pub marks : List (Option ℕ)
  pub queues : List (List LogItem)
  pub greatest : ℕ

-- no record was offered
abbrev pub fresh_mux : (streams : ℕ) → MuxState
fresh_mux streams = record { marks = replicate streams (Some 0); queues = replicate streams []; greatest = 0 }

-- why it refuses an offer, by what it knows of the stream
abbrev pub refusal_by : Option (Option ℕ) → (stream : ℕ) → Offer → Option MuxRefusal
refusal_by None stream offer = Some (NoStream stream)
refusal_by (Some None) stream offer = Some (Closed stream)
refusal_by (Some (Some mark)) stream offer = falling stream mark offer

abbrev pub mux_refusal : MuxState → (stream : ℕ) → Offer → Option MuxRefusal
mux_refusal mux stream offer = refusal_by (slice_get mux.marks stream) stream offer

-- the refusal is answered, where there is one, and else none but want of memory
abbrev pub AnswersOffer : {T : Type 0} → Option MuxRefusal → Result T MuxRefusal → Type 0
AnswersOffer None (Ok given) = Unit {0}
AnswersOffer None (Err answer) = answer ≡ NoMemory
AnswersOffer (Some refusal) (Ok given) = ⊥
AnswersOffer (Some refusal) (Err answer) = answer ≡ refusal

-- the mark that an offer leaves
abbrev pub mark_left : Offer → Option ℕ
mark_left (Item item) = Some (shown_time item)
mark_left End = None

-- a record of a stream
abbrev pub tagged : (stream : ℕ) → Offer → Tagged
tagged stream offer = record { stream = stream; offer = offer }

-- each record of the history was taken, and the marks, the steps that wait and the greatest time are those after it
pub record StandsFor (mux : MuxState) (history : List Tagged) : Type 0 where
  pub taken : AreTaken (length mux.marks) history
  pub marks : mux.marks ≡ open_marks (length mux.marks) history
  pub waits : (stream : ℕ) → queue_of mux.queues stream ≡ items_from stream (waiting_steps (length mux.marks) history)
  pub greatest : mux.greatest ≡ greatest_time (sent (length mux.marks) history)

-- what is given is what more is sent after one more record
abbrev pub SendsMore : (streams : ℕ) → List Tagged → Tagged → (given : List LogItem) → Type 0
SendsMore streams history next given = sent streams (next ∷ history) ≡ sent streams history ++ given

-- the rest of the merge, behind what is released
abbrev pub GivesWaiting : (streams : ℕ) → List Tagged → (given : List LogItem) → Type 0
GivesWaiting streams history given = items_in_order (merge_of history) ≡ items_in_order (released streams history) ++ given

-- steps that are lined up go out up to the first turn of the marks, and then a tick at that one, where it is above the
-- greatest time
pub record SendsSteps (mux : MuxState) (steps : List StreamStep) (given : List LogItem) (mux' : MuxState) : Type 0 where
  pub bound : Option Turn
  pub first : IsFirstTurn mux.marks bound
  pub out : List LogItem
  pub gives : GivesUpTo bound steps [] out mux'.queues
  pub sends : given ≡ out ++ tick_above (max mux.greatest (greatest_time out)) (option_map time_of_turn bound)
  pub greatest : mux'.greatest ≡ max (max mux.greatest (greatest_time out))
      (greatest_time (tick_above (max mux.greatest (greatest_time out)) (option_map time_of_turn bound)))
