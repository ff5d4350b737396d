-- What a history releases, and what one record more releases.
use Rattle.enf_data.proofs.Lists.{AllByRecursion-append, AllByRecursion-weaker}
use Rattle.log_stream.specs.declared.items.LogItem.{LogItem}
use Rattle.std.proofs.Common.{ap, append_assoc, append-nil, arith, refl, subst, sym, ◌∙◌, suc, zero}
use Rattle.std.proofs.lemmas.Bool.{and_parts, eqb-true, eqb-false}
use Rattle.std.proofs.lemmas.Bool.Decides.{nat_tests}
use Rattle.std.proofs.lemmas.List.{drop_at}
use Rattle.std.specs.List.{AllByRecursion, filter, list_all, range_with_len}
use Rattle.std.specs.Prelude.{ℕ, List, [], ◌∷◌, ◌++◌, ◌≡◌, ◌+◌, ◌<◌, ◌≤◌, Bool, true, false, ◌&&◌, ◌||◌, ◌==◌, cond, drop, length}
use Rattle.std.specs.Prelude.{Option, None, Some, nat_lt, nat_le}
use Rattle.enf_data.proofs.ListFacts.{true_from_eq, false_from_ne}
use Rattle.stream_mux.proofs.MergeOrder.{lex, lex_far}
use Rattle.stream_mux.proofs.MergedLists.{IsSplit, PassesFirst, filter_front, filter_passes, is_split, merges_are_ordered}
use Rattle.stream_mux.proofs.MergedLists.{ordered_behind, with_front, with_ordered}
use Rattle.stream_mux.proofs.TakenRecords.{FitsBehind, fits_behind, mark_other, mark_own}
use Rattle.stream_mux.specs.declared.records.Offer.{Offer}
use Rattle.stream_mux.specs.declared.records.Offer.TheVariants.{Item, End}
use Rattle.stream_mux.specs.declared.records.Tagged.{Tagged}
use Rattle.stream_mux.specs.machine.Laws.{ReleasedGoFirst}
use Rattle.stream_mux.specs.machine.MuxStates.{mark_left}
use Rattle.stream_mux.specs.meaning.MergedStreams.{AreInMergeOrder, AreTaken, StreamStep, is_before, is_closed, is_end}
use Rattle.stream_mux.specs.meaning.MergedStreams.{lets_pass, mark_after, mark_behind, may_go, merge_of, newly_released, open_mark}
use Rattle.stream_mux.specs.meaning.MergedStreams.{released, shown_time, time_of_step, waiting_steps, with_offer}

-- ---- Tests over a range.

pub all_in_range : (f : ℕ → Bool) (a n : ℕ) → ((k : ℕ) → a ≤ k → k < a + n → f k ≡ true)
    → list_all f (range_with_len a n) ≡ true
all_in_range f a zero all = refl
all_in_range f a (suc n) all =
    λ i. all a (omega arith) (omega arith) i && all_in_range f (a + 1) n (λ k low high. all k (omega arith) (omega arith)) i

pub at_in_range : (f : ℕ → Bool) (a n : ℕ) → list_all f (range_with_len a n) ≡ true → (k : ℕ) → a ≤ k → k < a + n
    → f k ≡ true
at_in_range f a zero all k low high = absurd (omega arith)
at_in_range f a (suc n) all k low high =
    let parts = and_parts (f a) (list_all f (range_with_len (a + 1) n)) all in
    by (a == k) refl parts.0 (λ above. at_in_range f (a + 1) n parts.1 k above (omega arith))
  where
    by : (b : Bool) → (a == k) ≡ b → f a ≡ true → (a + 1 ≤ k → f k ≡ true) → f k ≡ true
    by true e here rest = subst (λ j. f j ≡ true) (eqb-true a k e) here
    by false e here rest = rest (let apart = eqb-false a k e in grind (arith, apart))

-- ---- What a mark lets pass.

pub pass_is_lex : (s m t k : ℕ) → (nat_lt t m || ((t == m) && nat_le k s)) ≡ true → lex m s t k ≡ false
pass_is_lex s m t k h = grind (arith, nat_tests)

pub pass_from_lex : (s m t k : ℕ) → lex m s t k ≡ false → (nat_lt t m || ((t == m) && nat_le k s)) ≡ true
pass_from_lex s m t k h = grind (arith, nat_tests)

pub passes_up : (s m n t k : ℕ) → (nat_lt t m || ((t == m) && nat_le k s)) ≡ true → m ≤ n
    → (nat_lt t n || ((t == n) && nat_le k s)) ≡ true
passes_up s m n t k h le = grind (arith, nat_tests)

-- a mark lets pass what is not behind what it lets pass
lets_pass_first : (s : ℕ) (mark : Option ℕ) → PassesFirst (lets_pass s mark)
lets_pass_first s None x y front passes = refl
lets_pass_first s (Some m) x y front passes =
    pass_from_lex s m (time_of_step x) x.stream (lex_far m s (time_of_step y) y.stream (time_of_step x) x.stream
    (pass_is_lex s m (time_of_step y) y.stream passes) front)

pub may_go_at : (streams : ℕ) (history : List Tagged) (y : StreamStep) → may_go streams history y ≡ true → (k : ℕ) → k < streams
    → lets_pass k (open_mark history k) y ≡ true
may_go_at streams history y all k below =
    at_in_range (λ s. lets_pass s (open_mark history s) y) 0 streams all k (omega arith) (omega arith)

pub may_go_all : (streams : ℕ) (history : List Tagged) (y : StreamStep)
    → ((k : ℕ) → k < streams → lets_pass k (open_mark history k) y ≡ true) → may_go streams history y ≡ true
may_go_all streams history y all =
    all_in_range (λ s. lets_pass s (open_mark history s) y) 0 streams (λ k low high. all k (omega arith))

pub may_go_first : (streams : ℕ) (history : List Tagged) → PassesFirst (may_go streams history)
may_go_first streams history x y front passes = may_go_all streams history x
    (λ k below. lets_pass_first k (open_mark history k) x y front (may_go_at streams history y passes k below))

-- ---- The marks of open streams, one record later.

pub open_other : (before : List Tagged) (last : Tagged) (s : ℕ) → (last.stream ≡ s → ⊥)
    → open_mark (last ∷ before) s ≡ open_mark before s
open_other before last s apart =
    ap (λ b. cond ((b && is_end last.offer) || is_closed before s) None (Some (mark_after (last ∷ before) s)))
    (false_from_ne last.stream s apart)
    ∙ ap (λ m. cond (is_closed before s) None (Some m)) (mark_other before last s apart)

pub open_own : (before : List Tagged) (last : Tagged) → is_closed before last.stream ≡ false
    → open_mark (last ∷ before) last.stream ≡ mark_left last.offer
open_own before last is_open =
    ap (λ b. cond ((b && is_end last.offer) || is_closed before last.stream) None (Some (mark_after (last ∷ before) last.stream)))
    (true_from_eq last.stream last.stream refl)
    ∙ ap (λ b. cond (is_end last.offer || b) None (Some (mark_after (last ∷ before) last.stream))) is_open
    ∙ ap (λ m. cond (is_end last.offer || false) None (Some m)) (mark_own before last last.stream refl)
    ∙ by last.offer
  where
    by : (offer : Offer) → cond (is_end offer || false) None (Some (mark_behind offer (mark_after before last.stream))) ≡ mark_left offer
    by End = refl
    by (Item item) = refl

pub open_before : (before : List Tagged) (s : ℕ) → is_closed before s ≡ false → open_mark before s ≡ Some (mark_after before s)
open_before before s is_open = ap (λ b. cond b None (Some (mark_after before s))) is_open

-- what its mark let pass an open stream still lets pass
passes_own : (offer : Offer) (s mark : ℕ) (y : StreamStep) → mark ≤ mark_behind offer mark → lets_pass s (Some mark) y ≡ true
    → lets_pass s (mark_left offer) y ≡ true
passes_own End s mark y rises passes = refl
passes_own (Item item) s mark y rises passes = passes_up s mark (shown_time item) (time_of_step y) y.stream passes rises

pub may_go_on : (streams : ℕ) (before : List Tagged) (last : Tagged) → FitsBehind streams before last → (y : StreamStep)
    → may_go streams before y ≡ true → may_go streams (last ∷ before) y ≡ true
may_go_on streams before last fits y passes = may_go_all streams (last ∷ before) y (λ k below. by k below (last.stream == k) refl)
  where
    own : lets_pass last.stream (open_mark (last ∷ before) last.stream) y ≡ true
    own = subst (λ m. lets_pass last.stream m y ≡ true) (sym (open_own before last fits.is_open))
        (passes_own last.offer last.stream (mark_after before last.stream) y fits.rises
        (subst (λ m. lets_pass last.stream m y ≡ true) (open_before before last.stream fits.is_open)
        (may_go_at streams before y passes last.stream fits.within)))

    by : (k : ℕ) → k < streams → (b : Bool) → (last.stream == k) ≡ b → lets_pass k (open_mark (last ∷ before) k) y ≡ true
    by k below true e = subst (λ j. lets_pass j (open_mark (last ∷ before) j) y ≡ true) (eqb-true last.stream k e) own
    by k below false e = subst (λ m. lets_pass k m y ≡ true) (sym (open_other before last k (eqb-false last.stream k e)))
        (may_go_at streams before y passes k below)

-- ---- What is released, and what waits.

pub released_parts : (streams : ℕ) (history : List Tagged) → IsSplit (may_go streams history) (merge_of history)
released_parts streams history =
    is_split (may_go streams history) (may_go_first streams history) (merge_of history) (merges_are_ordered history)

pub waiting_ordered : (streams : ℕ) (history : List Tagged) → AreInMergeOrder (waiting_steps streams history)
waiting_ordered streams history =
    ordered_behind (released streams history) (waiting_steps streams history)
    (subst AreInMergeOrder (released_parts streams history).parts (merges_are_ordered history))

-- a step that a stream gives now is before none that was released
behind_released : (streams : ℕ) (before : List Tagged) (last : Tagged) → FitsBehind streams before last
    → (item : LogItem) → last.offer ≡ Item item
    → AllByRecursion (λ y. is_before (record { stream = last.stream; item = item }) y ≡ false) (released streams before)
behind_released streams before last fits item e =
    AllByRecursion-weaker (λ y. may_go streams before y ≡ true)
    (λ y. is_before (record { stream = last.stream; item = item }) y ≡ false) (released streams before)
    (λ y passes. pass_is_lex last.stream (shown_time item) (time_of_step y) y.stream
    (passes_up last.stream (mark_after before last.stream) (shown_time item) (time_of_step y) y.stream
    (subst (λ m. lets_pass last.stream m y ≡ true) (open_before before last.stream fits.is_open)
    (may_go_at streams before y passes last.stream fits.within))
    (subst (λ o. mark_after before last.stream ≤ mark_behind o (mark_after before last.stream)) e fits.rises)))
    (filter_passes (may_go streams before) (merge_of before))

pub next_merge : (streams : ℕ) (before : List Tagged) (last : Tagged) → FitsBehind streams before last
    → merge_of (last ∷ before)
    ≡ released streams before ++ with_offer last.stream last.offer (waiting_steps streams before)
next_merge streams before last fits =
    ap (with_offer last.stream last.offer) (released_parts streams before).parts
    ∙ with_front last.stream last.offer (released streams before) (waiting_steps streams before)
    (behind_released streams before last fits)

-- what one record more releases of the steps that wait, where these are told as a front that goes and a rest that stays
pub record NextParts (streams : ℕ) (last : Tagged) (before : List Tagged) (front left : List StreamStep) : Type 0 where
  pub released : released streams (last ∷ before) ≡ released streams before ++ front
  pub newly : newly_released streams last before ≡ front
  pub waits : waiting_steps streams (last ∷ before) ≡ left

pub next_parts : (streams : ℕ) (last : Tagged) (before : List Tagged) (front left : List StreamStep)
    → FitsBehind streams before last → with_offer last.stream last.offer (waiting_steps streams before) ≡ front ++ left
    → AllByRecursion (λ y. may_go streams (last ∷ before) y ≡ true) front
    → AllByRecursion (λ y. may_go streams (last ∷ before) y ≡ false) left
    → NextParts streams last before front left
next_parts streams last before front left fits parts go stay =
    let old = released streams before in
    let merge : merge_of (last ∷ before) ≡ (old ++ front) ++ left =
    next_merge streams before last fits ∙ ap (λ l. old ++ l) parts ∙ sym (append_assoc old front left) in
    let still : AllByRecursion (λ y. may_go streams (last ∷ before) y ≡ true) old =
    AllByRecursion-weaker (λ y. may_go streams before y ≡ true) (λ y. may_go streams (last ∷ before) y ≡ true) old
    (may_go_on streams before last fits) (filter_passes (may_go streams before) (merge_of before)) in
    let is : released streams (last ∷ before) ≡ old ++ front =
    ap (filter (may_go streams (last ∷ before))) merge
    ∙ filter_front (may_go streams (last ∷ before)) (old ++ front) left
    (AllByRecursion-append (λ y. may_go streams (last ∷ before) y ≡ true) old front still go) stay in
    record {
      released = is;
      newly = ap (drop (length old)) is ∙ drop_at old front (length old) refl;
      waits = ap (λ (l : List StreamStep). drop (length l) (merge_of (last ∷ before))) is
          ∙ ap (drop (length (old ++ front))) merge ∙ drop_at (old ++ front) left (length (old ++ front)) refl;
    }

-- so told by the test itself
pub record NextSplit (streams : ℕ) (last : Tagged) (before : List Tagged) : Type 0 where
  pub released_is : released streams (last ∷ before) ≡ released streams before ++ newly_released streams last before
  pub parts : with_offer last.stream last.offer (waiting_steps streams before)
      ≡ newly_released streams last before ++ waiting_steps streams (last ∷ before)

pub next_split : (streams : ℕ) (last : Tagged) (before : List Tagged) → FitsBehind streams before last
    → NextSplit streams last before
next_split streams last before fits =
    let p = may_go streams (last ∷ before) in
    let l = with_offer last.stream last.offer (waiting_steps streams before) in
    let split = is_split p (may_go_first streams (last ∷ before)) l
    (with_ordered last.stream last.offer (waiting_steps streams before) (waiting_ordered streams before)) in
    let next = next_parts streams last before (filter p l) (drop (length (filter p l)) l) fits split.parts
    (filter_passes p l) split.fails in
    record {
      released_is = next.released ∙ ap (λ l. released streams before ++ l) (sym next.newly);
      parts = split.parts ∙ ap (λ front. front ++ drop (length (filter p l)) l) (sym next.newly)
          ∙ ap (λ left. newly_released streams last before ++ left) (sym next.waits);
    }

pub next_released : (streams : ℕ) (last : Tagged) (before : List Tagged) → FitsBehind streams before last
    → released streams (last ∷ before) ≡ released streams before ++ newly_released streams last before
next_released streams last before fits = (next_split streams last before fits).released_is

-- ---- What is released goes first in each merge that comes.

stays_released : (streams : ℕ) (history more : List Tagged) → AreTaken streams (more ++ history)
    → (rest : List StreamStep) × (released streams (more ++ history) ≡ released streams history ++ rest)
stays_released streams history [] taken = ([], sym (append-nil (released streams history)))
stays_released streams history (last ∷ more) taken =
    let so_far = stays_released streams history more taken.1 in
    let newly = newly_released streams last (more ++ history) in (
      so_far.0 ++ newly,
      next_released streams last (more ++ history) (fits_behind streams (more ++ history) last taken.0)
          ∙ ap (λ l. l ++ newly) so_far.1 ∙ append_assoc (released streams history) so_far.0 newly,
    )

pub released_go_first : ReleasedGoFirst
released_go_first streams history more taken =
    let stays = stays_released streams history more taken in
    let waits = waiting_steps streams (more ++ history) in (
      stays.0 ++ waits,
      (released_parts streams (more ++ history)).parts ∙ ap (λ l. l ++ waits) stays.1
          ∙ append_assoc (released streams history) stays.0 waits,
    )
