-- One record more: what a `Mux` sends for it, and for which history it stands then.
use Rattle.enf_data.proofs.Lists.{AllByRecursion-of_append, AllByRecursion-weaker}
use Rattle.log_stream.specs.declared.items.LogItem.{LogItem}
use Rattle.std.proofs.Common.{ap, append_assoc, append-nil, arith, refl, subst, sym, true≢false, ◌∙◌}
use Rattle.std.proofs.lemmas.Bool.{eqb-true, eqb-false}
use Rattle.std.proofs.lemmas.List.{get_or-set_other, get_or-set_same, length-set, map-append}
use Rattle.std.specs.List.{AllByRecursion}
use Rattle.std.specs.Option.{option_map}
use Rattle.std.specs.Prelude.{ℕ, List, [], ◌∷◌, ◌++◌, ◌≡◌, ◌≢◌, ◌<◌, ◌≤◌, Bool, true, false, ◌==◌, cond, length, max, None, set}
use Rattle.stream_mux.proofs.GreatestTimes.{greatest_append}
use Rattle.stream_mux.proofs.MergedLists.{with_ordered}
use Rattle.stream_mux.proofs.MuxStands.{refuses_by_history}
use Rattle.stream_mux.proofs.OpenMarks.{bound_tells, least_of_first, next_marks}
use Rattle.stream_mux.proofs.ReleasedSteps.{next_parts, released_parts, waiting_ordered}
use Rattle.stream_mux.proofs.TakenRecords.{FitsBehind, fits_behind, late_enough, steps_below_marks, with_other, with_own}
use Rattle.stream_mux.specs.declared.records.Offer.{Offer}
use Rattle.stream_mux.specs.declared.records.Offer.TheVariants.{Item, End}
use Rattle.stream_mux.specs.declared.records.Tagged.{Tagged}
use Rattle.stream_mux.specs.machine.MuxQueues.{AreLinedUp, GivesUpTo, passes_up_to, put_behind, queue_of, queued}
use Rattle.stream_mux.specs.machine.MuxStates.{GivesWaiting, MuxState, SendsMore, SendsSteps, StandsFor, mark_left, mux_refusal, tagged}
use Rattle.stream_mux.specs.machine.Turns.{IsFirstTurn, time_of_turn}
use Rattle.stream_mux.specs.meaning.MergedStreams.{AreTaken, StreamStep, greatest_time, is_step, items_from, items_in_order, least_mark}
use Rattle.stream_mux.specs.meaning.MergedStreams.{mark_after, may_go, newly_released, offer_refusal, open_marks, released, sent}
use Rattle.stream_mux.specs.meaning.MergedStreams.{steps_in, tick_above, time_of_step, waiting_steps, with_offer}

-- ---- The queues after an offer.

queued_own : (stream : ℕ) (offer : Offer) (queues : List (List LogItem)) → stream < length queues
    → queue_of (queued stream offer queues) stream ≡ queue_of queues stream ++ steps_in offer
queued_own stream End queues within = sym (append-nil (queue_of queues stream))
queued_own stream (Item item) queues within = by (is_step item)
  where
    by : (b : Bool) → queue_of (cond b (put_behind stream item queues) queues) stream ≡ queue_of queues stream ++ cond b (item ∷ []) []
    by true = get_or-set_same queues stream (queue_of queues stream ++ item ∷ []) [] within
    by false = sym (append-nil (queue_of queues stream))

queued_other : (stream : ℕ) (offer : Offer) (queues : List (List LogItem)) (s : ℕ) → s ≢ stream
    → queue_of (queued stream offer queues) s ≡ queue_of queues s
queued_other stream End queues s apart = refl
queued_other stream (Item item) queues s apart = by (is_step item)
  where
    by : (b : Bool) → queue_of (cond b (put_behind stream item queues) queues) s ≡ queue_of queues s
    by true = get_or-set_other queues stream s (queue_of queues stream ++ item ∷ []) [] apart
    by false = refl

pub lined_behind : (n : ℕ) (history : List Tagged) (stream : ℕ) (offer : Offer) (queues : List (List LogItem))
    → AreTaken n history → FitsBehind n history (tagged stream offer) → stream < length queues
    → ((s : ℕ) → queue_of queues s ≡ items_from s (waiting_steps n history))
    → AreLinedUp (queued stream offer queues) (with_offer stream offer (waiting_steps n history))
lined_behind n history stream offer queues taken fits within waits = record {
  ordered = with_ordered stream offer (waiting_steps n history) (waiting_ordered n history);
  streams = λ s. by s (s == stream) refl;
}
  where
    late : AllByRecursion (λ y. time_of_step y ≤ mark_after history y.stream) (waiting_steps n history)
    late = (AllByRecursion-of_append (λ y. time_of_step y ≤ mark_after history y.stream) (released n history) (waiting_steps n history)
        (subst (AllByRecursion (λ y. time_of_step y ≤ mark_after history y.stream)) (released_parts n history).parts
        (steps_below_marks n history taken))).1

    own : queue_of (queued stream offer queues) stream ≡ items_from stream (with_offer stream offer (waiting_steps n history))
    own = queued_own stream offer queues within ∙ ap (λ is. is ++ steps_in offer) (waits stream)
        ∙ sym (with_own stream (mark_after history stream) offer (waiting_steps n history)
        (late_enough n history (tagged stream offer) (waiting_steps n history) fits late) (waiting_ordered n history))

    by : (s : ℕ) → (b : Bool) → (s == stream) ≡ b
        → queue_of (queued stream offer queues) s ≡ items_from s (with_offer stream offer (waiting_steps n history))
    by s true e = subst (λ j. queue_of (queued stream offer queues) j ≡ items_from j (with_offer stream offer (waiting_steps n history)))
        (sym (eqb-true s stream e)) own
    by s false e =
        let apart : s ≢ stream = eqb-false s stream e in
        queued_other stream offer queues s apart ∙ waits s
        ∙ sym (with_other stream offer (waiting_steps n history) s (λ h. apart (sym h)))

-- ---- What is sent.

-- a list of what is sent and of what is given for one record more
pub record NextSent (n : ℕ) (history : List Tagged) (next : Tagged) (given : List LogItem) (greatest : ℕ)
    (queues : List (List LogItem)) : Type 0 where
  pub sends : sent n (next ∷ history) ≡ sent n history ++ given
  pub greatest_is : greatest ≡ greatest_time (sent n (next ∷ history))
  pub waits : (stream : ℕ) → queue_of queues stream ≡ items_from stream (waiting_steps n (next ∷ history))

pub next_sent : (n : ℕ) (history : List Tagged) (next : Tagged) (given : List LogItem) (mux mux' : MuxState)
    → FitsBehind n history next → mux.marks ≡ open_marks n (next ∷ history) → mux.greatest ≡ greatest_time (sent n history)
    → SendsSteps mux (with_offer next.stream next.offer (waiting_steps n history)) given mux'
    → NextSent n history next given mux'.greatest mux'.queues
next_sent n history next given mux mux' fits marks greatest sends =
    let first : IsFirstTurn (open_marks n (next ∷ history)) sends.bound = subst (λ m. IsFirstTurn m sends.bound) marks sends.first in
    let gives = sends.gives.gives in
    let tells = bound_tells n (next ∷ history) sends.bound first in
    let go : AllByRecursion (λ y. may_go n (next ∷ history) y ≡ true) gives.front =
    AllByRecursion-weaker (λ y. passes_up_to sends.bound y ≡ true) (λ y. may_go n (next ∷ history) y ≡ true) gives.front
    (λ y h. tells y ∙ h) gives.gone in
    let stay : AllByRecursion (λ y. may_go n (next ∷ history) y ≡ false) gives.left =
    AllByRecursion-weaker (λ y. passes_up_to sends.bound y ≡ false) (λ y. may_go n (next ∷ history) y ≡ false) gives.left
    (λ y h. tells y ∙ h) sends.gives.held in
    let parts = next_parts n next history gives.front gives.left fits gives.parts go stay in
    let before = sent n history in
    let out : sends.out ≡ items_in_order (newly_released n next history) = gives.gives ∙ ap items_in_order (sym parts.newly) in
    let items = before ++ items_in_order (newly_released n next history) in
    let so_far : max mux.greatest (greatest_time sends.out) ≡ greatest_time items =
    ap (λ g. max g (greatest_time sends.out)) greatest ∙ sym (greatest_append before sends.out)
    ∙ ap (λ o. greatest_time (before ++ o)) out in
    let mark = least_mark (open_marks n (next ∷ history)) in
    let least : option_map time_of_turn sends.bound ≡ mark = sym (least_of_first (open_marks n (next ∷ history)) sends.bound first) in
    let tick : tick_above (max mux.greatest (greatest_time sends.out)) (option_map time_of_turn sends.bound)
    ≡ tick_above (greatest_time items) mark =
    ap (λ g. tick_above g (option_map time_of_turn sends.bound)) so_far ∙ ap (tick_above (greatest_time items)) least in
    record {
      sends = append_assoc before (items_in_order (newly_released n next history)) (tick_above (greatest_time items) mark)
          ∙ ap (λ o. before ++ (o ++ tick_above (greatest_time items) mark)) (sym out)
          ∙ ap (λ t. before ++ (sends.out ++ t)) (sym tick) ∙ ap (λ g. before ++ g) (sym sends.sends);
      greatest_is = sends.greatest ∙ ap (λ g. max g (greatest_time (tick_above (max mux.greatest (greatest_time sends.out))
          (option_map time_of_turn sends.bound)))) so_far
          ∙ ap (λ t. max (greatest_time items) (greatest_time t)) tick ∙ sym (greatest_append items (tick_above (greatest_time items) mark));
      waits = λ stream. gives.lined_up.streams stream ∙ ap (items_from stream) (sym parts.waits);
    }

-- ---- For which history it stands then.

pub stands_with : (mux : MuxState) (history : List Tagged) (n : ℕ) → n ≡ length mux.marks → AreTaken n history
    → mux.marks ≡ open_marks n history → ((s : ℕ) → queue_of mux.queues s ≡ items_from s (waiting_steps n history))
    → mux.greatest ≡ greatest_time (sent n history) → StandsFor mux history
stands_with mux history n same taken marks waits greatest =
    let P : ℕ → Type 0 = λ k. AreTaken k history × (mux.marks ≡ open_marks k history)
    × ((s : ℕ) → queue_of mux.queues s ≡ items_from s (waiting_steps k history)) × (mux.greatest ≡ greatest_time (sent k history)) in
    let all = subst P same (taken, marks, waits, greatest) in
    record { taken = all.0; marks = all.1; waits = all.2; greatest = all.3 }

-- what an offer that is not refused leaves between its admission and what is sent
pub record Admitted (mux : MuxState) (stream : ℕ) (offer : Offer) (mux' : MuxState) : Type 0 where
  pub marks : mux'.marks ≡ set mux.marks stream (mark_left offer)
  pub queues : mux'.queues ≡ queued stream offer mux.queues
  pub greatest : mux'.greatest ≡ mux.greatest

pub record OfferTaken (mux : MuxState) (history : List Tagged) (stream : ℕ) (offer : Offer) (given : List LogItem) (mux' : MuxState) : Type 0 where
  pub sends : SendsMore (length mux.marks) history (tagged stream offer) given
  pub stands : StandsFor mux' (tagged stream offer ∷ history)

fits_offer : (mux : MuxState) (history : List Tagged) (stream : ℕ) (offer : Offer) → StandsFor mux history
    → mux_refusal mux stream offer ≡ None → offer_refusal (length mux.marks) history (tagged stream offer) ≡ None
fits_offer mux history stream offer stands none = sym (refuses_by_history mux history stream offer stands) ∙ none

admitted_marks : (mux between : MuxState) (history : List Tagged) (stream : ℕ) (offer : Offer) → StandsFor mux history
    → mux_refusal mux stream offer ≡ None → Admitted mux stream offer between
    → between.marks ≡ open_marks (length mux.marks) (tagged stream offer ∷ history)
admitted_marks mux between history stream offer stands none admitted =
    let n = length mux.marks in
    let fits = fits_behind n history (tagged stream offer) (fits_offer mux history stream offer stands none) in
    admitted.marks ∙ ap (λ m. set m stream (mark_left offer)) stands.marks
    ∙ next_marks n history (tagged stream offer) fits.within fits.is_open

pub lined_after : (mux between : MuxState) (history : List Tagged) (stream : ℕ) (offer : Offer) → StandsFor mux history
    → mux_refusal mux stream offer ≡ None → length mux.queues ≡ length mux.marks → Admitted mux stream offer between
    → AreLinedUp between.queues (with_offer stream offer (waiting_steps (length mux.marks) history))
lined_after mux between history stream offer stands none same admitted =
    let n = length mux.marks in
    let fits = fits_behind n history (tagged stream offer) (fits_offer mux history stream offer stands none) in
    subst (λ qs. AreLinedUp qs (with_offer stream offer (waiting_steps n history))) (sym admitted.queues)
    (lined_behind n history stream offer mux.queues stands.taken fits (omega (arith, fits.within, same)) stands.waits)

pub offer_taken : (mux between mux' : MuxState) (history : List Tagged) (stream : ℕ) (offer : Offer) (given : List LogItem)
    → StandsFor mux history → mux_refusal mux stream offer ≡ None → Admitted mux stream offer between
    → mux'.marks ≡ between.marks
    → SendsSteps between (with_offer stream offer (waiting_steps (length mux.marks) history)) given mux'
    → OfferTaken mux history stream offer given mux'
offer_taken mux between mux' history stream offer given stands none admitted marks sends =
    let n = length mux.marks in
    let next = tagged stream offer in
    let taken = fits_offer mux history stream offer stands none in
    let new_marks = admitted_marks mux between history stream offer stands none admitted in
    let more = next_sent n history next given between mux' (fits_behind n history next taken) new_marks
    (admitted.greatest ∙ stands.greatest) sends in
    let count : n ≡ length mux'.marks =
    sym (ap length marks ∙ ap length admitted.marks ∙ length-set mux.marks stream (mark_left offer)) in
    record {
      sends = more.sends;
      stands = stands_with mux' (next ∷ history) n count (taken, stands.taken) (marks ∙ new_marks) more.waits more.greatest_is;
    }

-- ---- The rest.

nothing_held : (l : List StreamStep) → AllByRecursion (λ y. passes_up_to None y ≡ false) l → l ≡ []
nothing_held [] held = refl
nothing_held (y ∷ l) held = absurd (true≢false held.0)

pub gives_rest : (mux : MuxState) (history : List Tagged) (given : List LogItem) (queues : List (List LogItem)) → StandsFor mux history
    → GivesUpTo None (waiting_steps (length mux.marks) history) [] given queues → GivesWaiting (length mux.marks) history given
gives_rest mux history given queues stands gives =
    let n = length mux.marks in
    let none = nothing_held gives.gives.left gives.held in
    let all : waiting_steps n history ≡ gives.gives.front =
    gives.gives.parts ∙ ap (λ l. gives.gives.front ++ l) none ∙ append-nil gives.gives.front in
    ap items_in_order (released_parts n history).parts
    ∙ map-append (λ (step : StreamStep). step.item) (released n history) (waiting_steps n history)
    ∙ ap (λ l. items_in_order (released n history) ++ items_in_order l) all
    ∙ ap (λ is. items_in_order (released n history) ++ is) (sym gives.gives.gives)

pub lined_standing : (mux : MuxState) (history : List Tagged) → StandsFor mux history
    → AreLinedUp mux.queues (waiting_steps (length mux.marks) history)
lined_standing mux history stands = record { ordered = waiting_ordered (length mux.marks) history; streams = stands.waits }
