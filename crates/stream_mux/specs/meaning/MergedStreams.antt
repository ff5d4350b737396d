-- Several streams of records: which records are refused, and the one list that is made of those that are taken.
use Rattle.log_stream.specs.declared.items.LogItem.{LogItem}
use Rattle.log_stream.specs.declared.items.LogItem.TheVariants.{Step, Tick}
use Rattle.std.specs.List.{AllByRecursion, filter, list_all, list_any, range_with_len}
use Rattle.std.specs.Prelude.{ℕ, List, [], ◌∷◌, ◌++◌, ◌≡◌, ◌≤◌, Bool, true, false, ◌&&◌, ◌||◌, ◌==◌, nat_lt, nat_le}
use Rattle.std.specs.Prelude.{max, min}
use Rattle.std.specs.Prelude.{if◌then◌else◌, Option, None, Some, map, length, drop}
use Rattle.stream_mux.specs.declared.records.MuxRefusal.{MuxRefusal}
use Rattle.stream_mux.specs.declared.records.MuxRefusal.TheVariants.{NoStream, Closed, FallingStream}
use Rattle.stream_mux.specs.declared.records.Offer.{Offer}
use Rattle.stream_mux.specs.declared.records.Offer.TheVariants.{Item, End}
use Rattle.stream_mux.specs.declared.records.Tagged.{Tagged}

-- the time that an item of a log shows, and whether it is a step
abbrev pub shown_time : LogItem → ℕ
shown_time (Step kind time events) = time
shown_time (Tick time) = time

abbrev pub is_step : LogItem → Bool
is_step (Step kind time events) = true
is_step (Tick time) = false

-- ---- Marks, closings and refusals. A history has the records that were taken, the last one first.

-- the mark of a stream: the time of its last item, 0 at first
abbrev pub mark_behind : Offer → ℕ → ℕ
mark_behind (Item item) mark = shown_time item
mark_behind End mark = mark

abbrev pub mark_after : List Tagged → (stream : ℕ) → ℕ
mark_after [] stream = 0
mark_after (last ∷ before) stream =
    if last.stream == stream then mark_behind last.offer (mark_after before stream) else mark_after before stream

abbrev pub is_end : Offer → Bool
is_end (Item item) = false
is_end End = true

abbrev pub is_closed : List Tagged → (stream : ℕ) → Bool
is_closed history stream = list_any (λ taken. (taken.stream == stream) && is_end taken.offer) history

-- the mark of a stream that is open, and none of one that is closed; and these of streams from 0 on
abbrev pub open_mark : List Tagged → (stream : ℕ) → Option ℕ
open_mark history stream = if is_closed history stream then None else Some (mark_after history stream)

abbrev pub open_marks : (streams : ℕ) → List Tagged → List (Option ℕ)
open_marks streams history = map (open_mark history) (range_with_len 0 streams)

-- an item is refused below the mark of its stream
abbrev pub falling : (stream mark : ℕ) → Offer → Option MuxRefusal
falling stream mark (Item item) =
    if nat_lt (shown_time item) mark then Some (FallingStream stream mark (shown_time item)) else None
falling stream mark End = None

-- why a record is refused after a history: there is no such stream, it was closed, or the time falls
abbrev pub offer_refusal : (streams : ℕ) → List Tagged → Tagged → Option MuxRefusal
offer_refusal streams history next =
    if nat_lt next.stream streams then (if is_closed history next.stream then Some (Closed next.stream) else falling
    next.stream (mark_after history next.stream) next.offer) else Some (NoStream next.stream)

-- no record was refused after those before it
abbrev pub AreTaken : (streams : ℕ) → List Tagged → Type 0
AreTaken streams [] = Unit {0}
AreTaken streams (last ∷ before) = (offer_refusal streams before last ≡ None) × AreTaken streams before

-- ---- The merge: the step records by time, then by stream, then in the order in which they came.

pub record StreamStep : Type 0 where
  pub stream : ℕ
  pub item : LogItem

abbrev pub time_of_step : StreamStep → ℕ
time_of_step step = shown_time step.item

-- a step is before another one: by its time, or at the same time by its stream
abbrev pub is_before : StreamStep → StreamStep → Bool
is_before step other = nat_lt (time_of_step step) (time_of_step other) ||
    ((time_of_step step == time_of_step other) && nat_lt step.stream other.stream)

-- a step goes in front of the first one that it is before
abbrev pub put_in_order : StreamStep → List StreamStep → List StreamStep
put_in_order step [] = step ∷ []
put_in_order step (first ∷ rest) =
    if is_before step first then step ∷ first ∷ rest else first ∷ put_in_order step rest

-- the step of an offer, where it has one, put in order
abbrev pub with_offer : (stream : ℕ) → Offer → List StreamStep → List StreamStep
with_offer stream (Item item) steps =
    if is_step item then put_in_order (record { stream = stream; item = item }) steps else steps
with_offer stream End steps = steps

abbrev pub merge_of : List Tagged → List StreamStep
merge_of [] = []
merge_of (last ∷ before) = with_offer last.stream last.offer (merge_of before)

abbrev pub items_in_order : List StreamStep → List LogItem
items_in_order steps = map (λ step. step.item) steps

-- ---- What is released: no open stream can give anything that comes before it.

-- a stream with this mark, where it is open, gives nothing more before the step
abbrev pub lets_pass : (stream : ℕ) → (mark : Option ℕ) → StreamStep → Bool
lets_pass stream None step = true
lets_pass stream (Some mark) step =
    nat_lt (time_of_step step) mark || ((time_of_step step == mark) && nat_le step.stream stream)

abbrev pub may_go : (streams : ℕ) → List Tagged → StreamStep → Bool
may_go streams history step =
    list_all (λ stream. lets_pass stream (open_mark history stream) step) (range_with_len 0 streams)

abbrev pub released : (streams : ℕ) → List Tagged → List StreamStep
released streams history = filter (may_go streams history) (merge_of history)

-- the steps past these, which wait
abbrev pub waiting_steps : (streams : ℕ) → List Tagged → List StreamStep
waiting_steps streams history = drop (length (released streams history)) (merge_of history)

-- ---- What streams have of it.

-- the items of a stream among steps
abbrev pub items_from : (stream : ℕ) → List StreamStep → List LogItem
items_from stream [] = []
items_from stream (step ∷ steps) =
    if step.stream == stream then step.item ∷ items_from stream steps else items_from stream steps

-- the step of an offer, where it has one
abbrev pub steps_in : Offer → List LogItem
steps_in (Item item) = if is_step item then item ∷ [] else []
steps_in End = []

-- the steps that a stream gave, in the order in which they came
abbrev pub steps_given : (stream : ℕ) → List Tagged → List LogItem
steps_given stream [] = []
steps_given stream (last ∷ before) =
    steps_given stream before ++ (if last.stream == stream then steps_in last.offer else [])

-- no step is before one that stands in front of it
abbrev pub AreInMergeOrder : List StreamStep → Type 0
AreInMergeOrder [] = Unit {0}
AreInMergeOrder (step ∷ steps) = AllByRecursion (λ later. is_before later step ≡ false) steps × AreInMergeOrder steps

-- ---- What is sent: at each record the steps that it releases, and then a tick at the least mark of the open streams,
-- where that is above 0 and every time that was sent.

abbrev pub lesser_mark : Option ℕ → Option ℕ → Option ℕ
lesser_mark None other = other
lesser_mark (Some mark) None = Some mark
lesser_mark (Some mark) (Some other) = Some (min mark other)

abbrev pub least_mark : List (Option ℕ) → Option ℕ
least_mark [] = None
least_mark (mark ∷ marks) = lesser_mark mark (least_mark marks)

-- the greatest time of items, 0 of none
abbrev pub greatest_time : List LogItem → ℕ
greatest_time [] = 0
greatest_time (item ∷ items) = max (shown_time item) (greatest_time items)

abbrev pub tick_above : (greatest : ℕ) → Option ℕ → List LogItem
tick_above greatest None = []
tick_above greatest (Some mark) = if nat_lt greatest mark then Tick mark ∷ [] else []

-- items, and then that tick
abbrev pub and_tick : Option ℕ → List LogItem → List LogItem
and_tick mark items = items ++ tick_above (greatest_time items) mark

-- the steps that a record released
abbrev pub newly_released : (streams : ℕ) → (last : Tagged) → (before : List Tagged) → List StreamStep
newly_released streams last before = drop (length (released streams before)) (released streams (last ∷ before))

abbrev pub sent : (streams : ℕ) → List Tagged → List LogItem
sent streams [] = []
sent streams (last ∷ before) =
    and_tick (least_mark (open_marks streams (last ∷ before)))
    (sent streams before ++ items_in_order (newly_released streams last before))

-- times that never fall, the first of them not below the clock
abbrev pub TimesNeverFall : (clock : ℕ) → List LogItem → Type 0
TimesNeverFall clock [] = Unit {0}
TimesNeverFall clock (item ∷ items) = (clock ≤ shown_time item) × TimesNeverFall (shown_time item) items
