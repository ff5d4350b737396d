-- The statements of the laws of merged streams.
use Rattle.std.specs.List.{filter}
use Rattle.std.specs.Prelude.{ℕ, List, [], ◌++◌, ◌≡◌, ◌==◌, length}
use Rattle.stream_mux.specs.declared.records.Offer.{Offer}
use Rattle.stream_mux.specs.declared.records.Tagged.{Tagged}
use Rattle.stream_mux.specs.machine.MuxStates.{MuxState, StandsFor, fresh_mux, mux_refusal, tagged}
use Rattle.stream_mux.specs.meaning.MergedStreams.{AreInMergeOrder, AreTaken, StreamStep, TimesNeverFall, is_step}
use Rattle.stream_mux.specs.meaning.MergedStreams.{items_from, items_in_order}
use Rattle.stream_mux.specs.meaning.MergedStreams.{merge_of, offer_refusal, released, sent, steps_given}
use Rattle.stream_mux.specs.meaning.MergedStreams.{waiting_steps}

-- the merge is in order
abbrev pub MergesAreOrdered : Type 0
MergesAreOrdered = (history : List Tagged) → AreInMergeOrder (merge_of history)

-- and has of each stream the steps that it gave, each once, in the order in which they came
abbrev pub MergesKeepStreams : Type 0
MergesKeepStreams = (streams : ℕ) (history : List Tagged) (stream : ℕ) → AreTaken streams history
    → items_from stream (merge_of history) ≡ steps_given stream history

-- lists in order that have the same steps of each stream are the same
abbrev pub OneMerge : Type 0
OneMerge = (steps others : List StreamStep) → AreInMergeOrder steps → AreInMergeOrder others
    → ((stream : ℕ) → items_from stream steps ≡ items_from stream others) → steps ≡ others

-- however the records of the same streams came among one another, the merge is the same
abbrev pub InterleavingsMergeAlike : Type 0
InterleavingsMergeAlike = (streams : ℕ) (history other : List Tagged)
    → AreTaken streams history → AreTaken streams other
    → ((stream : ℕ) → filter (λ taken. taken.stream == stream) history ≡ filter (λ taken. taken.stream == stream) other)
    → merge_of history ≡ merge_of other

-- what is released is the front of each merge to which more records lead, the last of them first
abbrev pub ReleasedGoFirst : Type 0
ReleasedGoFirst = (streams : ℕ) (history more : List Tagged) → AreTaken streams (more ++ history)
    → (rest : List StreamStep) × (merge_of (more ++ history) ≡ released streams history ++ rest)

-- the steps that are sent are those that are released
abbrev pub SentStepsAreReleased : Type 0
SentStepsAreReleased = (streams : ℕ) (history : List Tagged) → AreTaken streams history
    → filter is_step (sent streams history) ≡ items_in_order (released streams history)

-- the times of what is sent never fall, nor do they where the steps that wait follow at last
abbrev pub SentNeverFalls : Type 0
SentNeverFalls = (streams : ℕ) (history : List Tagged) → AreTaken streams history
    → TimesNeverFall 0 (sent streams history ++ items_in_order (waiting_steps streams history))

-- a `Mux` refuses what the rules refuse after the history for which it stands
abbrev pub RefusesByHistory : Type 0
RefusesByHistory = (mux : MuxState) (history : List Tagged) (stream : ℕ) (offer : Offer) → StandsFor mux history
    → mux_refusal mux stream offer ≡ offer_refusal (length mux.marks) history (tagged stream offer)

-- a new one stands for no record
abbrev pub FreshMuxesStand : Type 0
FreshMuxesStand = (streams : ℕ) → StandsFor (fresh_mux streams) []
