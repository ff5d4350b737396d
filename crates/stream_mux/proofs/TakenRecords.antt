-- Histories of records that were taken: the marks that they leave, and what the streams have of their merge.
use Rattle.enf_data.proofs.ListFacts.{true_from_eq, false_from_ne}
use Rattle.enf_data.proofs.Lists.{AllByRecursion-weaker}
use Rattle.log_stream.specs.declared.items.LogItem.{LogItem}
use Rattle.std.proofs.Common.{ap, append-nil, arith, refl, subst, sym, ◌∙◌}
use Rattle.std.proofs.lemmas.Bool.{eqb-true, eqb-false}
use Rattle.std.proofs.lemmas.Bool.Decides.{nat_tests}
use Rattle.std.proofs.lemmas.Option.{none-some}
use Rattle.std.specs.List.{AllByRecursion, filter}
use Rattle.std.specs.Prelude.{ℕ, List, [], ◌∷◌, ◌++◌, ◌≡◌, ◌<◌, ◌≤◌, Bool, true, false, ◌==◌, cond, nat_lt, None, Some}
use Rattle.stream_mux.proofs.MergeOrder.{lex_apart, lex_same}
use Rattle.stream_mux.proofs.MergedLists.{items_own, items_other, merges_are_ordered, no_items, one_merge, put_all}
use Rattle.stream_mux.specs.declared.records.MuxRefusal.TheVariants.{NoStream, Closed, FallingStream}
use Rattle.stream_mux.specs.declared.records.Offer.{Offer}
use Rattle.stream_mux.specs.declared.records.Offer.TheVariants.{Item, End}
use Rattle.stream_mux.specs.declared.records.Tagged.{Tagged}
use Rattle.stream_mux.specs.machine.Laws.{InterleavingsMergeAlike, MergesKeepStreams}
use Rattle.stream_mux.specs.meaning.MergedStreams.{AreInMergeOrder, AreTaken, StreamStep, falling, is_before, is_closed, is_step}
use Rattle.stream_mux.specs.meaning.MergedStreams.{items_from, mark_after, mark_behind, merge_of, offer_refusal, put_in_order}
use Rattle.stream_mux.specs.meaning.MergedStreams.{shown_time, steps_given, steps_in, time_of_step, with_offer}

-- ---- What it is to be taken.

-- a record of an open stream that does not fall below its mark
pub record FitsBehind (streams : ℕ) (before : List Tagged) (last : Tagged) : Type 0 where
  pub within : last.stream < streams
  pub is_open : is_closed before last.stream ≡ false
  pub rises : mark_after before last.stream ≤ mark_behind last.offer (mark_after before last.stream)

rises_from : (stream mark : ℕ) (offer : Offer) → falling stream mark offer ≡ None → mark ≤ mark_behind offer mark
rises_from stream mark End e = omega arith
rises_from stream mark (Item item) e = by (nat_lt (shown_time item) mark) refl e
  where
    by : (b : Bool) → nat_lt (shown_time item) mark ≡ b
        → cond b (Some (FallingStream stream mark (shown_time item))) None ≡ None → mark ≤ shown_time item
    by true d e = absurd (none-some (FallingStream stream mark (shown_time item)) (sym e))
    by false d e = grind (arith, nat_tests)

pub fits_behind : (streams : ℕ) (before : List Tagged) (last : Tagged) → offer_refusal streams before last ≡ None
    → FitsBehind streams before last
fits_behind streams before last e = by (nat_lt last.stream streams) (is_closed before last.stream) refl refl e
  where
    by : (b d : Bool) → nat_lt last.stream streams ≡ b → is_closed before last.stream ≡ d
        → cond b (cond d (Some (Closed last.stream)) (falling last.stream (mark_after before last.stream) last.offer))
        (Some (NoStream last.stream)) ≡ None → FitsBehind streams before last
    by true true p q e = absurd (none-some (Closed last.stream) (sym e))
    by true false p q e = record {
      within = grind (arith, nat_tests);
      is_open = q;
      rises = rises_from last.stream (mark_after before last.stream) last.offer e;
    }
    by false d p q e = absurd (none-some (NoStream last.stream) (sym e))

-- ---- Marks.

pub mark_own : (before : List Tagged) (last : Tagged) (s : ℕ) → last.stream ≡ s
    → mark_after (last ∷ before) s ≡ mark_behind last.offer (mark_after before s)
mark_own before last s e =
    ap (λ b. cond b (mark_behind last.offer (mark_after before s)) (mark_after before s)) (true_from_eq last.stream s e)

pub mark_other : (before : List Tagged) (last : Tagged) (s : ℕ) → (last.stream ≡ s → ⊥)
    → mark_after (last ∷ before) s ≡ mark_after before s
mark_other before last s e =
    ap (λ b. cond b (mark_behind last.offer (mark_after before s)) (mark_after before s)) (false_from_ne last.stream s e)

-- they do not fall
pub mark_grows : (streams : ℕ) (before : List Tagged) (last : Tagged) → FitsBehind streams before last → (s : ℕ)
    → mark_after before s ≤ mark_after (last ∷ before) s
mark_grows streams before last fits s = by (last.stream == s) refl
  where
    by : (b : Bool) → (last.stream == s) ≡ b
        → mark_after before s ≤ cond b (mark_behind last.offer (mark_after before s)) (mark_after before s)
    by true e = subst (λ n. mark_after before n ≤ mark_behind last.offer (mark_after before n)) (eqb-true last.stream s e) fits.rises
    by false e = omega arith

-- what holds of steps, and of that of an offer, where it has one, holds of all of them
pub with_all : (P : StreamStep → Type 0) (stream : ℕ) (offer : Offer) (l : List StreamStep)
    → ((item : LogItem) → offer ≡ Item item → is_step item ≡ true → P (record { stream = stream; item = item }))
    → AllByRecursion P l → AllByRecursion P (with_offer stream offer l)
with_all P stream End l one all = all
with_all P stream (Item item) l one all = by (is_step item) refl
  where
    by : (b : Bool) → is_step item ≡ b → AllByRecursion P (cond b (put_in_order (record { stream = stream; item = item }) l) l)
    by true e = put_all P (record { stream = stream; item = item }) l (one item refl e) all
    by false e = all

-- no step is later than the mark of its stream
pub steps_below_marks : (streams : ℕ) (history : List Tagged) → AreTaken streams history
    → AllByRecursion (λ y. time_of_step y ≤ mark_after history y.stream) (merge_of history)
steps_below_marks streams [] taken = tt
steps_below_marks streams (last ∷ before) taken =
    with_all (λ y. time_of_step y ≤ mark_after (last ∷ before) y.stream) last.stream last.offer (merge_of before)
    (λ item e is. omega (arith, mark_own before last last.stream refl, ap (λ o. mark_behind o (mark_after before last.stream)) e))
    (AllByRecursion-weaker (λ y. time_of_step y ≤ mark_after before y.stream)
    (λ y. time_of_step y ≤ mark_after (last ∷ before) y.stream) (merge_of before)
    (λ y h. omega (arith, h, mark_grows streams before last (fits_behind streams before last taken.0) y.stream))
    (steps_below_marks streams before taken.1))

-- ---- What a stream has of a list with the step of an offer put in.

pub put_own : (x : StreamStep) (l : List StreamStep) → AllByRecursion (λ y. y.stream ≡ x.stream → time_of_step y ≤ time_of_step x) l
    → AreInMergeOrder l → items_from x.stream (put_in_order x l) ≡ items_from x.stream l ++ x.item ∷ []
put_own x [] late o = items_own x.stream x [] refl
put_own x (y ∷ l) late o = by (is_before x y) refl (put_own x l late.1 o.1)
  where
    apart : (z : StreamStep) → is_before x y ≡ true → (z.stream ≡ x.stream → time_of_step z ≤ time_of_step x)
        → is_before z y ≡ false → z.stream ≡ x.stream → ⊥
    apart z front late behind same =
        lex_apart (time_of_step x) x.stream (time_of_step y) y.stream (time_of_step z) z.stream front behind same (late same)

    none : (m : List StreamStep) → is_before x y ≡ true
        → AllByRecursion (λ z. z.stream ≡ x.stream → time_of_step z ≤ time_of_step x) m
        → AllByRecursion (λ z. is_before z y ≡ false) m → AllByRecursion (λ z. z.stream ≡ x.stream → ⊥) m
    none [] front late behind = tt
    none (z ∷ m) front late behind = (apart z front late.0 behind.0, none m front late.1 behind.1)

    by : (b : Bool) → is_before x y ≡ b
        → items_from x.stream (put_in_order x l) ≡ items_from x.stream l ++ x.item ∷ []
        → items_from x.stream (cond b (x ∷ y ∷ l) (y ∷ put_in_order x l)) ≡ items_from x.stream (y ∷ l) ++ x.item ∷ []
    by true e rest =
        let nothing = no_items x.stream (y ∷ l) (none (y ∷ l) e late (lex_same (time_of_step y) y.stream, o.0)) in
        items_own x.stream x (y ∷ l) refl ∙ ap (λ is. x.item ∷ is) nothing ∙ ap (λ is. is ++ x.item ∷ []) (sym nothing)
    by false e rest = among (y.stream == x.stream)
      where
        among : (b : Bool) → cond b (y.item ∷ items_from x.stream (put_in_order x l)) (items_from x.stream (put_in_order x l))
            ≡ cond b (y.item ∷ items_from x.stream l) (items_from x.stream l) ++ x.item ∷ []
        among true = ap (λ is. y.item ∷ is) rest
        among false = rest

put_other : (x : StreamStep) (l : List StreamStep) (s : ℕ) → (x.stream ≡ s → ⊥)
    → items_from s (put_in_order x l) ≡ items_from s l
put_other x [] s apart = items_other s x [] apart
put_other x (y ∷ l) s apart = by (is_before x y) (put_other x l s apart)
  where
    by : (b : Bool) → items_from s (put_in_order x l) ≡ items_from s l
        → items_from s (cond b (x ∷ y ∷ l) (y ∷ put_in_order x l)) ≡ items_from s (y ∷ l)
    by true rest = items_other s x (y ∷ l) apart
    by false rest = ap (λ is. cond (y.stream == s) (y.item ∷ is) is) rest

-- the step of an offer is the last that its stream has, where it is not earlier than those
pub with_own : (stream mark : ℕ) (offer : Offer) (l : List StreamStep)
    → AllByRecursion (λ y. y.stream ≡ stream → time_of_step y ≤ mark_behind offer mark) l → AreInMergeOrder l
    → items_from stream (with_offer stream offer l) ≡ items_from stream l ++ steps_in offer
with_own stream mark End l late o = sym (append-nil (items_from stream l))
with_own stream mark (Item item) l late o = by (is_step item)
  where
    by : (b : Bool) → items_from stream (cond b (put_in_order (record { stream = stream; item = item }) l) l)
        ≡ items_from stream l ++ cond b (item ∷ []) []
    by true = put_own (record { stream = stream; item = item }) l late o
    by false = sym (append-nil (items_from stream l))

pub with_other : (stream : ℕ) (offer : Offer) (l : List StreamStep) (s : ℕ) → (stream ≡ s → ⊥)
    → items_from s (with_offer stream offer l) ≡ items_from s l
with_other stream End l s apart = refl
with_other stream (Item item) l s apart = by (is_step item)
  where
    by : (b : Bool) → items_from s (cond b (put_in_order (record { stream = stream; item = item }) l) l) ≡ items_from s l
    by true = put_other (record { stream = stream; item = item }) l s apart
    by false = refl

-- what the rule for the time of an offer says of steps below the marks
pub late_enough : (streams : ℕ) (before : List Tagged) (last : Tagged) (l : List StreamStep) → FitsBehind streams before last
    → AllByRecursion (λ y. time_of_step y ≤ mark_after before y.stream) l
    → AllByRecursion (λ y. y.stream ≡ last.stream → time_of_step y ≤ mark_behind last.offer (mark_after before last.stream)) l
late_enough streams before last l fits below =
    AllByRecursion-weaker (λ y. time_of_step y ≤ mark_after before y.stream)
    (λ y. y.stream ≡ last.stream → time_of_step y ≤ mark_behind last.offer (mark_after before last.stream)) l
    (λ y h same. omega (arith, h, ap (mark_after before) same, fits.rises)) below

-- one record more
kept_behind : (streams : ℕ) (last : Tagged) (before : List Tagged) (s : ℕ) → AreTaken streams (last ∷ before)
    → items_from s (merge_of before) ≡ steps_given s before
    → items_from s (merge_of (last ∷ before)) ≡ steps_given s (last ∷ before)
kept_behind streams last before s taken kept = by (last.stream == s) refl
  where
    own : items_from last.stream (merge_of (last ∷ before)) ≡ items_from last.stream (merge_of before) ++ steps_in last.offer
    own = with_own last.stream (mark_after before last.stream) last.offer (merge_of before)
        (late_enough streams before last (merge_of before) (fits_behind streams before last taken.0)
        (steps_below_marks streams before taken.1)) (merges_are_ordered before)

    by : (b : Bool) → (last.stream == s) ≡ b
        → items_from s (merge_of (last ∷ before)) ≡ steps_given s before ++ cond b (steps_in last.offer) []
    by true e =
        subst (λ n. items_from n (merge_of (last ∷ before)) ≡ items_from n (merge_of before) ++ steps_in last.offer)
        (eqb-true last.stream s e) own ∙ ap (λ is. is ++ steps_in last.offer) kept
    by false e = with_other last.stream last.offer (merge_of before) s (eqb-false last.stream s e) ∙ kept
        ∙ sym (append-nil (steps_given s before))

pub merges_keep_streams : MergesKeepStreams
merges_keep_streams streams [] s taken = refl
merges_keep_streams streams (last ∷ before) s taken =
    kept_behind streams last before s taken (merges_keep_streams streams before s taken.1)

-- ---- However the records of streams came among one another, the merge is the same.

-- the steps that a stream gave are told by its own records
given_by_own : (s : ℕ) (history : List Tagged) → steps_given s history ≡ steps_given s (filter (λ taken. taken.stream == s) history)
given_by_own s [] = refl
given_by_own s (last ∷ before) = by (last.stream == s) refl (given_by_own s before)
  where
    by : (b : Bool) → (last.stream == s) ≡ b → steps_given s before ≡ steps_given s (filter (λ taken. taken.stream == s) before)
        → steps_given s before ++ cond b (steps_in last.offer) []
        ≡ steps_given s (cond b (last ∷ filter (λ taken. taken.stream == s) before) (filter (λ taken. taken.stream == s) before))
    by true e rest = ap (λ is. is ++ steps_in last.offer) rest
        ∙ ap (λ b. steps_given s (filter (λ taken. taken.stream == s) before) ++ cond b (steps_in last.offer) []) (sym e)
    by false e rest = append-nil (steps_given s before) ∙ rest

pub interleavings_merge_alike : InterleavingsMergeAlike
interleavings_merge_alike streams history other taken took same =
    one_merge (merge_of history) (merge_of other) (merges_are_ordered history) (merges_are_ordered other)
    (λ s. merges_keep_streams streams history s taken ∙ given_by_own s history ∙ ap (steps_given s) (same s)
    ∙ sym (given_by_own s other) ∙ sym (merges_keep_streams streams other s took))
