-- Lists of steps in the order of the merge: a step put in, what streams have of a list, and that there is one list of
-- what they have.
use Rattle.enf_data.proofs.ListFacts.{nil_not_cons, true_from_eq, false_from_ne}
use Rattle.enf_data.proofs.Lists.{AllByRecursion-of_append, AllByRecursion-weaker}
use Rattle.log_stream.specs.declared.items.LogItem.{LogItem}
use Rattle.std.proofs.Common.{ap, refl, subst, sym, true≢false, ◌∙◌}
use Rattle.std.proofs.lemmas.Bool.{eqb-true, false_from_ne_true}
use Rattle.std.specs.List.{AllByRecursion, filter}
use Rattle.std.specs.Prelude.{ℕ, List, [], ◌∷◌, ◌++◌, ◌≡◌, Bool, true, false, ◌==◌, cond, drop, get_or, length}
use Rattle.stream_mux.proofs.MergeOrder.{lex_both, lex_far, lex_same, lex_turned}
use Rattle.stream_mux.specs.declared.records.Offer.{Offer}
use Rattle.stream_mux.specs.declared.records.Offer.TheVariants.{Item, End}
use Rattle.stream_mux.specs.machine.Laws.{MergesAreOrdered, OneMerge}
use Rattle.stream_mux.specs.meaning.MergedStreams.{AreInMergeOrder, StreamStep, is_before, is_step, items_from}
use Rattle.stream_mux.specs.meaning.MergedStreams.{merge_of, put_in_order, time_of_step, with_offer}

pub same_step : (x y : StreamStep) → x.stream ≡ y.stream → x.item ≡ y.item → x ≡ y
same_step x y p q = λ j. record { stream = p j; item = q j }

-- ---- A step that is put in order.

-- what holds of it and of the others holds of all
pub put_all : (P : StreamStep → Type 0) (x : StreamStep) (l : List StreamStep) → P x → AllByRecursion P l
    → AllByRecursion P (put_in_order x l)
put_all P x [] px all = (px, tt)
put_all P x (y ∷ ys) px all = by (is_before x y) (put_all P x ys px all.1)
  where
    by : (b : Bool) → AllByRecursion P (put_in_order x ys)
        → AllByRecursion P (cond b (x ∷ y ∷ ys) (y ∷ put_in_order x ys))
    by true rest = (px, all)
    by false rest = (all.0, rest)

-- what stands behind a step that another is before is not before that one
behind_all : (x y : StreamStep) (ys : List StreamStep) → is_before x y ≡ true
    → AllByRecursion (λ later. is_before later y ≡ false) ys → AllByRecursion (λ later. is_before later x ≡ false) ys
behind_all x y ys e all =
    AllByRecursion-weaker (λ later. is_before later y ≡ false) (λ later. is_before later x ≡ false) ys
    (λ z h. lex_far (time_of_step z) z.stream (time_of_step y) y.stream (time_of_step x) x.stream h
    (lex_turned (time_of_step x) x.stream (time_of_step y) y.stream e)) all

pub put_ordered : (x : StreamStep) (l : List StreamStep) → AreInMergeOrder l → AreInMergeOrder (put_in_order x l)
put_ordered x [] o = (tt, tt)
put_ordered x (y ∷ ys) o = by (is_before x y) refl (put_ordered x ys o.1)
  where
    by : (b : Bool) → is_before x y ≡ b → AreInMergeOrder (put_in_order x ys)
        → AreInMergeOrder (cond b (x ∷ y ∷ ys) (y ∷ put_in_order x ys))
    by true e rest = (
      (lex_turned (time_of_step x) x.stream (time_of_step y) y.stream e, behind_all x y ys e o.0),
      o,
    )
    by false e rest = (put_all (λ later. is_before later y ≡ false) x ys e o.0, rest)

-- ---- What a stream has of a list.

pub items_own : (s : ℕ) (x : StreamStep) (l : List StreamStep) → x.stream ≡ s → items_from s (x ∷ l) ≡ x.item ∷ items_from s l
items_own s x l e = ap (λ b. cond b (x.item ∷ items_from s l) (items_from s l)) (true_from_eq x.stream s e)

pub items_other : (s : ℕ) (x : StreamStep) (l : List StreamStep) → (x.stream ≡ s → ⊥) → items_from s (x ∷ l) ≡ items_from s l
items_other s x l e = ap (λ b. cond b (x.item ∷ items_from s l) (items_from s l)) (false_from_ne x.stream s e)

pub items_append : (s : ℕ) (l m : List StreamStep) → items_from s (l ++ m) ≡ items_from s l ++ items_from s m
items_append s [] m = refl
items_append s (x ∷ l) m = by (x.stream == s) (items_append s l m)
  where
    by : (b : Bool) → items_from s (l ++ m) ≡ items_from s l ++ items_from s m
        → cond b (x.item ∷ items_from s (l ++ m)) (items_from s (l ++ m))
        ≡ cond b (x.item ∷ items_from s l) (items_from s l) ++ items_from s m
    by true rest = ap (λ is. x.item ∷ is) rest
    by false rest = rest

pub no_items : (s : ℕ) (l : List StreamStep) → AllByRecursion (λ z. z.stream ≡ s → ⊥) l → items_from s l ≡ []
no_items s [] none = refl
no_items s (x ∷ l) none = items_other s x l none.0 ∙ no_items s l none.1

-- what holds of each step of a list holds of the first that a stream has in it
first_item : (P : StreamStep → Type 0) (s : ℕ) (l : List StreamStep) (i : LogItem) (is : List LogItem) → AllByRecursion P l
    → items_from s l ≡ i ∷ is → P (record { stream = s; item = i })
first_item P s [] i is all e = absurd (nil_not_cons i is e)
first_item P s (x ∷ l) i is all e = by (x.stream == s) refl e (first_item P s l i is all.1)
  where
    by : (b : Bool) → (x.stream == s) ≡ b → cond b (x.item ∷ items_from s l) (items_from s l) ≡ i ∷ is
        → (items_from s l ≡ i ∷ is → P (record { stream = s; item = i })) → P (record { stream = s; item = i })
    by true d e rest = subst P (same_step x (record { stream = s; item = i }) (eqb-true x.stream s d)
        (ap (λ l. get_or l 0 i) e)) all.0
    by false d e rest = rest e

-- the first that a stream has in a list is not before the first of the list
pub first_is_first : (s : ℕ) (x : StreamStep) (l : List StreamStep) (i : LogItem) (is : List LogItem) → AreInMergeOrder (x ∷ l)
    → items_from s (x ∷ l) ≡ i ∷ is → is_before (record { stream = s; item = i }) x ≡ false
first_is_first s x l i is o e =
    first_item (λ z. is_before z x ≡ false) s (x ∷ l) i is (lex_same (time_of_step x) x.stream, o.0) e

-- ---- One list of what streams have.

-- lists that begin alike and have the same of a stream have it behind the first too
same_behind : (x : StreamStep) (l m : List StreamStep) (s : ℕ) → items_from s (x ∷ l) ≡ items_from s (x ∷ m)
    → items_from s l ≡ items_from s m
same_behind x l m s = by (x.stream == s)
  where
    by : (b : Bool) → cond b (x.item ∷ items_from s l) (items_from s l) ≡ cond b (x.item ∷ items_from s m) (items_from s m)
        → items_from s l ≡ items_from s m
    by true e = ap (drop 1) e
    by false e = e

pub one_merge : OneMerge
one_merge [] [] o p same = refl
one_merge [] (y ∷ m) o p same = absurd (nil_not_cons y.item (items_from y.stream m) (same y.stream ∙ items_own y.stream y m refl))
one_merge (x ∷ l) [] o p same = absurd (nil_not_cons x.item (items_from x.stream l) (sym (same x.stream) ∙ items_own x.stream x l refl))
one_merge (x ∷ l) (y ∷ m) o p same =
    let here = sym (same x.stream) ∙ items_own x.stream x l refl in
    let there = same y.stream ∙ items_own y.stream y m refl in
    let keys = lex_both (time_of_step x) x.stream (time_of_step y) y.stream
    (first_is_first x.stream y m x.item (items_from x.stream l) p here)
    (first_is_first y.stream x l y.item (items_from y.stream m) o there) in
    let item : x.item ≡ y.item = ap (λ is. get_or is 0 y.item) (sym here ∙ items_own x.stream y m (sym keys.1)) in
    let first = same_step x y keys.1 item in
    let rest = one_merge l m o.1 p.1
    (λ s. same_behind y l m s (ap (λ z. items_from s (z ∷ l)) (sym first) ∙ same s)) in
    λ j. first j ∷ rest j

-- ---- The merge is in order.

pub with_ordered : (stream : ℕ) (offer : Offer) (l : List StreamStep) → AreInMergeOrder l
    → AreInMergeOrder (with_offer stream offer l)
with_ordered stream End l o = o
with_ordered stream (Item item) l o = by (is_step item)
  where
    by : (b : Bool) → AreInMergeOrder (cond b (put_in_order (record { stream = stream; item = item }) l) l)
    by true = put_ordered (record { stream = stream; item = item }) l o
    by false = o

pub merges_are_ordered : MergesAreOrdered
merges_are_ordered [] = tt
merges_are_ordered (last ∷ before) = with_ordered last.stream last.offer (merge_of before) (merges_are_ordered before)

-- ---- Parts of lists in order.

-- the parts of a list in order are in order
pub ordered_behind : (front left : List StreamStep) → AreInMergeOrder (front ++ left) → AreInMergeOrder left
ordered_behind [] left o = o
ordered_behind (x ∷ front) left o = ordered_behind front left o.1

pub ordered_front : (front left : List StreamStep) → AreInMergeOrder (front ++ left) → AreInMergeOrder front
ordered_front [] left o = tt
ordered_front (x ∷ front) left o =
    ((AllByRecursion-of_append (λ later. is_before later x ≡ false) front left o.0).0, ordered_front front left o.1)

-- a step goes behind a front of which it is before none
put_front : (x : StreamStep) (front left : List StreamStep) → AllByRecursion (λ y. is_before x y ≡ false) front
    → put_in_order x (front ++ left) ≡ front ++ put_in_order x left
put_front x [] left behind = refl
put_front x (y ∷ front) left behind =
    ap (λ b. cond b (x ∷ y ∷ (front ++ left)) (y ∷ put_in_order x (front ++ left))) behind.0
    ∙ ap (λ l. y ∷ l) (put_front x front left behind.1)

pub with_front : (stream : ℕ) (offer : Offer) (front left : List StreamStep)
    → ((item : LogItem) → offer ≡ Item item → AllByRecursion (λ y. is_before (record { stream = stream; item = item }) y ≡ false) front)
    → with_offer stream offer (front ++ left) ≡ front ++ with_offer stream offer left
with_front stream End front left behind = refl
with_front stream (Item item) front left behind = by (is_step item)
  where
    by : (b : Bool) → cond b (put_in_order (record { stream = stream; item = item }) (front ++ left)) (front ++ left)
        ≡ front ++ cond b (put_in_order (record { stream = stream; item = item }) left) left
    by true = put_front (record { stream = stream; item = item }) front left (behind item refl)
    by false = refl

-- ---- Fronts that pass a test.

-- what passes stands before what fails
abbrev pub PassesFirst : (StreamStep → Bool) → Type 0
PassesFirst p = (x y : StreamStep) → is_before y x ≡ false → p y ≡ true → p x ≡ true

pub filter_passes : (p : StreamStep → Bool) (l : List StreamStep) → AllByRecursion (λ x. p x ≡ true) (filter p l)
filter_passes p [] = tt
filter_passes p (x ∷ l) = by (p x) refl (filter_passes p l)
  where
    by : (b : Bool) → p x ≡ b → AllByRecursion (λ x. p x ≡ true) (filter p l)
        → AllByRecursion (λ x. p x ≡ true) (cond b (x ∷ filter p l) (filter p l))
    by true e rest = (e, rest)
    by false e rest = rest

filter_nothing : (p : StreamStep → Bool) (l : List StreamStep) → AllByRecursion (λ x. p x ≡ false) l → filter p l ≡ []
filter_nothing p [] none = refl
filter_nothing p (x ∷ l) none = ap (λ b. cond b (x ∷ filter p l) (filter p l)) none.0 ∙ filter_nothing p l none.1

-- what passes, where all in front passes and nothing behind it
pub filter_front : (p : StreamStep → Bool) (front left : List StreamStep) → AllByRecursion (λ x. p x ≡ true) front
    → AllByRecursion (λ x. p x ≡ false) left → filter p (front ++ left) ≡ front
filter_front p [] left all none = filter_nothing p left none
filter_front p (x ∷ front) left all none =
    ap (λ b. cond b (x ∷ filter p (front ++ left)) (filter p (front ++ left))) all.0
    ∙ ap (λ l. x ∷ l) (filter_front p front left all.1 none)

-- a list in order is what passes and, behind it, what fails
pub record IsSplit (p : StreamStep → Bool) (l : List StreamStep) : Type 0 where
  pub parts : l ≡ filter p l ++ drop (length (filter p l)) l
  pub fails : AllByRecursion (λ x. p x ≡ false) (drop (length (filter p l)) l)

all_fail : (p : StreamStep → Bool) → PassesFirst p → (x : StreamStep) (l : List StreamStep) → p x ≡ false
    → AllByRecursion (λ z. is_before z x ≡ false) l → AllByRecursion (λ z. p z ≡ false) l
all_fail p first x l e behind =
    AllByRecursion-weaker (λ z. is_before z x ≡ false) (λ z. p z ≡ false) l
    (λ z h. false_from_ne_true (p z) (λ passes. true≢false (sym (first x z h passes) ∙ e))) behind

pub is_split : (p : StreamStep → Bool) → PassesFirst p → (l : List StreamStep) → AreInMergeOrder l → IsSplit p l
is_split p first [] o = record { parts = refl; fails = tt }
is_split p first (x ∷ l) o = by (p x) refl (is_split p first l o.1)
  where
    by : (b : Bool) → p x ≡ b → IsSplit p l → IsSplit p (x ∷ l)
    by true e rest =
        let is : filter p (x ∷ l) ≡ x ∷ filter p l = ap (λ b. cond b (x ∷ filter p l) (filter p l)) e in
        record {
          parts = subst (λ front. x ∷ l ≡ front ++ drop (length front) (x ∷ l)) (sym is) (ap (λ l. x ∷ l) rest.parts);
          fails = subst (λ (front : List StreamStep). AllByRecursion (λ x. p x ≡ false) (drop (length front) (x ∷ l))) (sym is) rest.fails;
        }
    by false e rest =
        let none : AllByRecursion (λ z. p z ≡ false) (x ∷ l) = (e, all_fail p first x l e o.0) in
        let is : filter p (x ∷ l) ≡ [] = filter_nothing p (x ∷ l) none in
        record {
          parts = subst (λ front. x ∷ l ≡ front ++ drop (length front) (x ∷ l)) (sym is) refl;
          fails = subst (λ (front : List StreamStep). AllByRecursion (λ x. p x ≡ false) (drop (length front) (x ∷ l))) (sym is) none;
        }
