-- The times of what is sent never fall.
use Rattle.enf_data.proofs.Lists.{AllByRecursion-of_append, AllByRecursion-weaker}
use Rattle.log_stream.specs.declared.items.LogItem.{LogItem}
use Rattle.log_stream.specs.declared.items.LogItem.TheVariants.{Tick}
use Rattle.std.proofs.Common.{ap, arith, refl, subst, sym, true≢false, ◌∙◌, suc, zero}
use Rattle.std.proofs.lemmas.Bool.{eqb-true, eqb-false}
use Rattle.std.proofs.lemmas.Bool.Decides.{nat_tests}
use Rattle.std.proofs.lemmas.Option.{none-some, same_Some}
use Rattle.std.specs.List.{AllByRecursion, list_all, range_with_len}
use Rattle.std.specs.Prelude.{ℕ, List, [], ◌∷◌, ◌++◌, ◌≡◌, ◌+◌, ◌<◌, ◌≤◌, Bool, true, false, ◌&&◌, ◌||◌, ◌==◌, cond, max, min, nat_le, nat_lt, Option, None, Some, get_or}
use Rattle.stream_mux.proofs.GreatestTimes.{greatest_append}
use Rattle.stream_mux.proofs.MergeOrder.{lex_false}
use Rattle.stream_mux.proofs.MergedLists.{filter_passes, ordered_front, with_ordered}
use Rattle.stream_mux.proofs.OpenMarks.{at_open}
use Rattle.stream_mux.proofs.ReleasedSteps.{may_go_at, next_split, open_before, open_other, open_own, released_parts, waiting_ordered}
use Rattle.stream_mux.proofs.TakenRecords.{FitsBehind, fits_behind, with_all}
use Rattle.stream_mux.specs.declared.records.Offer.{Offer}
use Rattle.stream_mux.specs.declared.records.Offer.TheVariants.{Item, End}
use Rattle.stream_mux.specs.declared.records.Tagged.{Tagged}
use Rattle.stream_mux.specs.machine.Laws.{SentNeverFalls}
use Rattle.stream_mux.specs.machine.MuxStates.{mark_left}
use Rattle.stream_mux.specs.meaning.MergedStreams.{AreInMergeOrder, AreTaken, StreamStep, TimesNeverFall, greatest_time, is_before}
use Rattle.stream_mux.specs.meaning.MergedStreams.{items_in_order, least_mark, lesser_mark, lets_pass, mark_after, mark_behind, may_go, merge_of}
use Rattle.stream_mux.specs.meaning.MergedStreams.{newly_released, open_mark, open_marks, released, sent, shown_time, tick_above}
use Rattle.stream_mux.specs.meaning.MergedStreams.{time_of_step, waiting_steps}

-- ---- What does not go is held by a mark.

fails_in_range : (f : ℕ → Bool) (a n : ℕ) → list_all f (range_with_len a n) ≡ false → (k : ℕ) × (a ≤ k) × (k < a + n) × (f k ≡ false)
fails_in_range f a zero e = absurd (true≢false e)
fails_in_range f a (suc n) e = by (f a) refl e (fails_in_range f (a + 1) n)
  where
    by : (b : Bool) → f a ≡ b → (b && list_all f (range_with_len (a + 1) n)) ≡ false
        → (list_all f (range_with_len (a + 1) n) ≡ false → (k : ℕ) × (a + 1 ≤ k) × (k < a + 1 + n) × (f k ≡ false))
        → (k : ℕ) × (a ≤ k) × (k < a + suc n) × (f k ≡ false)
    by true is e rest = let there = rest e in (there.0, omega (arith, there.1), omega (arith, there.2), there.3)
    by false is e rest = (a, omega arith, omega arith, is)

held_by : (s m t k : ℕ) → (nat_lt t m || ((t == m) && nat_le k s)) ≡ false → m ≤ t
held_by s m t k e = grind (arith, nat_tests)

passed_by : (s m t k : ℕ) → (nat_lt t m || ((t == m) && nat_le k s)) ≡ true → t ≤ m
passed_by s m t k e = grind (arith, nat_tests)

-- a bound of the marks of open streams
abbrev pub BoundsMarks : (n : ℕ) → List Tagged → (greatest : ℕ) → Type 0
BoundsMarks n history greatest = (k m : ℕ) → k < n → open_mark history k ≡ Some m → greatest ≤ m

held_above : (k greatest : ℕ) (mark : Option ℕ) (y : StreamStep) → ((m : ℕ) → mark ≡ Some m → greatest ≤ m)
    → lets_pass k mark y ≡ false → greatest ≤ time_of_step y
held_above k greatest None y bound e = absurd (true≢false e)
held_above k greatest (Some m) y bound e = omega (arith, bound m refl, held_by k m (time_of_step y) y.stream e)

waits_above : (n : ℕ) (history : List Tagged) (greatest : ℕ) → BoundsMarks n history greatest
    → AllByRecursion (λ y. greatest ≤ time_of_step y) (waiting_steps n history)
waits_above n history greatest bounds =
    AllByRecursion-weaker (λ y. may_go n history y ≡ false) (λ y. greatest ≤ time_of_step y) (waiting_steps n history)
    (λ y stays. let held = fails_in_range (λ s. lets_pass s (open_mark history s) y) 0 n stays in
    held_above held.0 greatest (open_mark history held.0) y (λ m is. bounds held.0 m (omega (arith, held.2)) is) held.3)
    (released_parts n history).fails

-- ---- What is sent is not above the marks of open streams.

least_low : (marks : List (Option ℕ)) (k m o : ℕ) → get_or marks k None ≡ Some m → least_mark marks ≡ Some o → o ≤ m
least_low [] k m o there e = absurd (none-some m there)
least_low (None ∷ marks) zero m o there e = absurd (none-some m there)
least_low (None ∷ marks) (suc k) m o there e = least_low marks k m o there e
least_low (Some f ∷ marks) zero m o there e = by (least_mark marks) e
  where
    by : (least : Option ℕ) → lesser_mark (Some f) least ≡ Some o → o ≤ m
    by None e = let p = same_Some f m there in let q = same_Some f o e in omega (arith, p, q)
    by (Some l) e = let p = same_Some f m there in let q = same_Some (min f l) o e in omega (arith, p, q)
least_low (Some f ∷ marks) (suc k) m o there e = by (least_mark marks) refl e (least_low marks k m)
  where
    by : (least : Option ℕ) → least_mark marks ≡ least → lesser_mark (Some f) least ≡ Some o
        → ((o : ℕ) → get_or marks k None ≡ Some m → least_mark marks ≡ Some o → o ≤ m) → o ≤ m
    by None is e rest = absurd (none_there marks k is there)
      where
        none_there : (marks : List (Option ℕ)) (k : ℕ) → least_mark marks ≡ None → get_or marks k None ≡ Some m → ⊥
        none_there [] k is there = none-some m there
        none_there (None ∷ marks) zero is there = none-some m there
        none_there (None ∷ marks) (suc k) is there = none_there marks k is there
        none_there (Some g ∷ marks) k is there = some_least (least_mark marks) is
          where
            some_least : (least : Option ℕ) → lesser_mark (Some g) least ≡ None → ⊥
            some_least None e = none-some g (sym e)
            some_least (Some l) e = none-some (min g l) (sym e)
    by (Some l) is e rest = let q = same_Some (min f l) o e in let low = rest l there is in omega (arith, q, low)

greatest_of_steps : (l : List StreamStep) (m : ℕ) → AllByRecursion (λ y. time_of_step y ≤ m) l → greatest_time (items_in_order l) ≤ m
greatest_of_steps [] m all = omega arith
greatest_of_steps (y ∷ l) m all = let rest = greatest_of_steps l m all.1 in omega (arith, rest, all.0)

greatest_of_tick : (greatest m : ℕ) (mark : Option ℕ) → ((o : ℕ) → mark ≡ Some o → o ≤ m) → greatest_time (tick_above greatest mark) ≤ m
greatest_of_tick greatest m None low = omega arith
greatest_of_tick greatest m (Some o) low = by (nat_lt greatest o)
  where
    by : (b : Bool) → greatest_time (cond b (Tick o ∷ []) []) ≤ m
    by true = let h = low o refl in omega (arith, h)
    by false = omega arith

-- the marks of open streams only rise
still_bounds : (n : ℕ) (before : List Tagged) (last : Tagged) (greatest : ℕ) → FitsBehind n before last → BoundsMarks n before greatest
    → BoundsMarks n (last ∷ before) greatest
still_bounds n before last greatest fits bounds k m below is = by (last.stream == k) refl
  where
    rises : (offer : Offer) (mark : ℕ) → mark ≤ mark_behind offer mark → greatest ≤ mark → mark_left offer ≡ Some m → greatest ≤ m
    rises End mark up low e = absurd (none-some m e)
    rises (Item item) mark up low e = let t = same_Some (shown_time item) m e in omega (arith, t, up, low)

    by : (b : Bool) → (last.stream == k) ≡ b → greatest ≤ m
    by true e =
        rises last.offer (mark_after before last.stream) fits.rises
        (bounds last.stream (mark_after before last.stream) fits.within (open_before before last.stream fits.is_open))
        (sym (open_own before last fits.is_open)
        ∙ subst (λ j. open_mark (last ∷ before) j ≡ Some m) (sym (eqb-true last.stream k e)) is)
    by false e = bounds k m below (sym (open_other before last k (eqb-false last.stream k e)) ∙ is)

newly_below : (n : ℕ) (before : List Tagged) (last : Tagged) → FitsBehind n before last → (k m : ℕ) → k < n
    → open_mark (last ∷ before) k ≡ Some m → AllByRecursion (λ y. time_of_step y ≤ m) (newly_released n last before)
newly_below n before last fits k m below is =
    AllByRecursion-weaker (λ y. may_go n (last ∷ before) y ≡ true) (λ y. time_of_step y ≤ m) (newly_released n last before)
    (λ y goes. passed_by k m (time_of_step y) y.stream
    (subst (λ mark. lets_pass k mark y ≡ true) is (may_go_at n (last ∷ before) y goes k below)))
    (AllByRecursion-of_append (λ y. may_go n (last ∷ before) y ≡ true) (released n before) (newly_released n last before)
    (subst (AllByRecursion (λ y. may_go n (last ∷ before) y ≡ true)) (next_split n last before fits).released_is
    (filter_passes_released n (last ∷ before)))).1
  where
    filter_passes_released : (n : ℕ) (history : List Tagged) → AllByRecursion (λ y. may_go n history y ≡ true) (released n history)
    filter_passes_released n history = filter_passes (may_go n history) (merge_of history)

pub sent_bounds : (n : ℕ) (history : List Tagged) → AreTaken n history → BoundsMarks n history (greatest_time (sent n history))
sent_bounds n [] taken k m below is = omega arith
sent_bounds n (last ∷ before) taken k m below is =
    let fits = fits_behind n before last taken.0 in
    let newly = items_in_order (newly_released n last before) in
    let items = sent n before ++ newly in
    let mark = least_mark (open_marks n (last ∷ before)) in
    let old = still_bounds n before last (greatest_time (sent n before)) fits (sent_bounds n before taken.1) k m below is in
    let new = greatest_of_steps (newly_released n last before) m (newly_below n before last fits k m below is) in
    let tick = greatest_of_tick (greatest_time items) m mark
    (λ o e. least_low (open_marks n (last ∷ before)) k m o (at_open n (last ∷ before) k below ∙ is) e) in
    omega (arith, greatest_append items (tick_above (greatest_time items) mark), greatest_append (sent n before) newly, old, new, tick)

-- ---- Times that never fall.

from_earlier : (c d : ℕ) (l : List LogItem) → c ≤ d → TimesNeverFall d l → TimesNeverFall c l
from_earlier c d [] le falls = tt
from_earlier c d (x ∷ l) le falls = (omega (arith, le, falls.0), falls.1)

joined_times : (c : ℕ) (l m : List LogItem) → TimesNeverFall c l → TimesNeverFall (max c (greatest_time l)) m → TimesNeverFall c (l ++ m)
joined_times c [] m falls rest = from_earlier c (max c 0) m (omega arith) rest
joined_times c (x ∷ l) m falls rest = (
  falls.0,
  joined_times (shown_time x) l m falls.1
      (from_earlier (max (shown_time x) (greatest_time l)) (max c (max (shown_time x) (greatest_time l))) m (omega arith) rest),
)

steps_in_time : (c : ℕ) (l : List StreamStep) → AreInMergeOrder l → AllByRecursion (λ y. c ≤ time_of_step y) l
    → TimesNeverFall c (items_in_order l)
steps_in_time c [] o all = tt
steps_in_time c (y ∷ l) o all = (
  all.0,
  steps_in_time (time_of_step y) l o.1
      (AllByRecursion-weaker (λ z. is_before z y ≡ false) (λ z. time_of_step y ≤ time_of_step z) l
      (λ z later. let ordered = lex_false (time_of_step z) z.stream (time_of_step y) y.stream later in omega (arith, ordered)) o.0),
)

tick_in_time : (greatest : ℕ) (mark : Option ℕ) → TimesNeverFall greatest (tick_above greatest mark)
tick_in_time greatest None = tt
tick_in_time greatest (Some mark) = by (nat_lt greatest mark) refl
  where
    by : (b : Bool) → nat_lt greatest mark ≡ b → TimesNeverFall greatest (cond b (Tick mark ∷ []) [])
    by true e = (let less : greatest < mark = grind (arith, nat_tests) in omega arith, tt)
    by false e = tt

newly_in_time : (n : ℕ) (last : Tagged) (before : List Tagged) → AreTaken n (last ∷ before)
    → TimesNeverFall (greatest_time (sent n before)) (items_in_order (newly_released n last before))
newly_in_time n last before taken =
    let g = greatest_time (sent n before) in
    let fits = fits_behind n before last taken.0 in
    let bounds = sent_bounds n before taken.1 in
    let all = with_all (λ y. g ≤ time_of_step y) last.stream last.offer (waiting_steps n before)
    (λ item e is. let low = bounds last.stream (mark_after before last.stream) fits.within (open_before before last.stream fits.is_open) in
    omega (arith, low, fits.rises, ap (λ o. mark_behind o (mark_after before last.stream)) e))
    (waits_above n before g bounds) in
    let parts = (next_split n last before fits).parts in
    let newly = newly_released n last before in
    let waits = waiting_steps n (last ∷ before) in
    steps_in_time g newly
    (ordered_front newly waits (subst AreInMergeOrder parts
    (with_ordered last.stream last.offer (waiting_steps n before) (waiting_ordered n before))))
    (AllByRecursion-of_append (λ y. g ≤ time_of_step y) newly waits (subst (AllByRecursion (λ y. g ≤ time_of_step y)) parts all)).0

sent_in_time : (n : ℕ) (history : List Tagged) → AreTaken n history → TimesNeverFall 0 (sent n history)
sent_in_time n [] taken = tt
sent_in_time n (last ∷ before) taken =
    let newly = items_in_order (newly_released n last before) in
    let items = sent n before ++ newly in
    let mark = least_mark (open_marks n (last ∷ before)) in
    joined_times 0 items (tick_above (greatest_time items) mark)
    (joined_times 0 (sent n before) newly (sent_in_time n before taken.1)
    (from_earlier (max 0 (greatest_time (sent n before))) (greatest_time (sent n before)) newly (omega arith)
    (newly_in_time n last before taken)))
    (from_earlier (max 0 (greatest_time items)) (greatest_time items) (tick_above (greatest_time items) mark) (omega arith)
    (tick_in_time (greatest_time items) mark))

pub sent_never_falls : SentNeverFalls
sent_never_falls n history taken =
    let g = greatest_time (sent n history) in
    joined_times 0 (sent n history) (items_in_order (waiting_steps n history)) (sent_in_time n history taken)
    (from_earlier (max 0 g) g (items_in_order (waiting_steps n history)) (omega arith)
    (steps_in_time g (waiting_steps n history) (waiting_ordered n history) (waits_above n history g (sent_bounds n history taken))))
