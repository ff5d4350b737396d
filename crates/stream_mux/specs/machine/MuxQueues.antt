-- Queues of steps, one for each stream, and what lets the first of them go.
use Rattle.log_stream.specs.declared.items.LogItem.{LogItem}
use Rattle.std.specs.List.{AllByRecursion}
use Rattle.std.specs.Prelude.{ℕ, List, [], ◌∷◌, ◌++◌, ◌≡◌, Bool, true, false, if◌then◌else◌, Option, None, Some, map}
use Rattle.std.specs.Prelude.{slice_index_or, slice_set}
use Rattle.stream_mux.specs.declared.records.Offer.{Offer}
use Rattle.stream_mux.specs.declared.records.Offer.TheVariants.{Item, End}
use Rattle.stream_mux.specs.declared.turns.Turn.{Turn}
use Rattle.stream_mux.specs.machine.Turns.{IsFirstTurn, is_earlier}
use Rattle.stream_mux.specs.meaning.MergedStreams.{AreInMergeOrder, StreamStep, is_step, items_from, items_in_order}
use Rattle.stream_mux.specs.meaning.MergedStreams.{lets_pass, shown_time}

-- the time of the first item of a queue
abbrev pub front_time : List LogItem → Option ℕ
front_time [] = None
front_time (item ∷ items) = Some (shown_time item)

abbrev pub front_times : List (List LogItem) → List (Option ℕ)
front_times queues = map front_time queues

abbrev pub queue_of : List (List LogItem) → (stream : ℕ) → List LogItem
queue_of queues stream = slice_index_or queues stream []

-- an item at the end of the queue of a stream
abbrev pub put_behind : (stream : ℕ) → LogItem → List (List LogItem) → List (List LogItem)
put_behind stream item queues = slice_set queues stream (queue_of queues stream ++ item ∷ [])

-- the step of an offer there, where it has one
abbrev pub queued : (stream : ℕ) → Offer → List (List LogItem) → List (List LogItem)
queued stream (Item item) queues = if is_step item then put_behind stream item queues else queues
queued stream End queues = queues

-- a turn is not behind a bound, where there is one
abbrev pub is_up_to_turn : Option Turn → Turn → Bool
is_up_to_turn None turn = true
is_up_to_turn (Some bound) turn = if is_earlier bound turn then false else true

-- the item of the first turn is taken out, which is not behind the bound
pub record TakesFirst (bound : Option Turn) (queues : List (List LogItem)) (item : LogItem)
    (queues' : List (List LogItem)) : Type 0 where
  pub turn : Turn
  pub first : IsFirstTurn (front_times queues) (Some turn)
  pub passes : is_up_to_turn bound turn ≡ true
  pub rest : List LogItem
  pub queue : queue_of queues turn.stream ≡ item ∷ rest
  pub after : queues' ≡ slice_set queues turn.stream rest

-- nothing waits, or the first turn is behind the bound
abbrev pub IsBehind : Option Turn → (first : Option Turn) → Type 0
IsBehind bound None = Unit {0}
IsBehind bound (Some turn) = is_up_to_turn bound turn ≡ false

pub record HoldsBack (bound : Option Turn) (queues : List (List LogItem)) : Type 0 where
  pub front : Option Turn
  pub first : IsFirstTurn (front_times queues) front
  pub behind : IsBehind bound front

-- ---- Queues as one list.

-- steps in the order of the merge, whose items stand in the queues of their streams
pub record AreLinedUp (queues : List (List LogItem)) (steps : List StreamStep) : Type 0 where
  pub ordered : AreInMergeOrder steps
  pub streams : (stream : ℕ) → queue_of queues stream ≡ items_from stream steps

abbrev pub passes_up_to : Option Turn → StreamStep → Bool
passes_up_to None step = true
passes_up_to (Some bound) step = lets_pass bound.stream (Some bound.time) step

-- of steps that are lined up, those at the front are given behind what was given, and none of them is behind the bound
pub record GivesFront (bound : Option Turn) (steps : List StreamStep) (given given' : List LogItem)
    (queues' : List (List LogItem)) : Type 0 where
  pub front : List StreamStep
  pub left : List StreamStep
  pub parts : steps ≡ front ++ left
  pub gives : given' ≡ given ++ items_in_order front
  pub gone : AllByRecursion (λ step. passes_up_to bound step ≡ true) front
  pub lined_up : AreLinedUp queues' left

-- and each of those left is behind the bound
pub record GivesUpTo (bound : Option Turn) (steps : List StreamStep) (given given' : List LogItem)
    (queues' : List (List LogItem)) : Type 0 where
  pub gives : GivesFront bound steps given given' queues'
  pub held : AllByRecursion (λ step. passes_up_to bound step ≡ false) gives.left
