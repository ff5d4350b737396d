-- The laws of exchanges that grow, and of what calls alone exchanged.
use Rattle.std.proofs.Common.{◌-◌, arith, length-append, refl, sym, append-nil, ◌++◌, ap, ◌∙◌, append_assoc, ◌∷◌, ◌≡◌, subst, drop, map, length-drop, take}
use Rattle.std.proofs.Math.Seq.{drop-length, drop-append_seam, take-add, take-length}
use Rattle.std.proofs.lemmas.List.{drop-append-le, map-append, drop-drop, take-append-le}
use Rattle.std.proofs.lemmas.List.Elements.{All-weaker, All-nil, All-append, All-push, All-map, All-same}
use Rattle.std.specs.Option.{option_map}
use Rattle.std.specs.Prelude.{ℕ, List, [], ◌≤◌, length, All, Option, None, Some, IfSome}
use Rattle.enf_io.specs.machine.StreamCalls.{with_taken, with_read_mark, TookNothing, Took}
use Rattle.enf_io.specs.meaning.Exchange.{Exchange, input_left, exchange_since, taken_bytes, AtEachMark, OfCalls}
use Rattle.enf_io.specs.meaning.ExchangeGrowth.{IsMarkBetween, Grew, with_given, GrewWhereTold, Gave}

-- an exchange in which nothing was taken or given yet
abbrev pub begun_exchange : List ℕ → Exchange
begun_exchange input = record { input = input; taken = 0; given = []; marks = [] }

-- no mark counts more than was taken or given
abbrev pub MarksWithin : Exchange → Type 0
MarksWithin x = All (λ mark. (mark.0 ≤ x.taken) × (mark.1 ≤ length x.given)) x.marks

-- marks between two exchanges are between the first and one that grew from the second
between-to : (x y z : Exchange) → y.taken ≤ z.taken → length y.given ≤ length z.given
    → (marks : List (ℕ × ℕ)) → All (IsMarkBetween x y) marks → All (IsMarkBetween x z) marks
between-to x y z taken given marks all = All-weaker (IsMarkBetween x y) (IsMarkBetween x z) (λ mark b. record {
  taken_from = b.taken_from;
  taken_to = omega arith;
  given_from = b.given_from;
  given_to = omega arith;
}) marks all

between-from : (x y z : Exchange) → x.taken ≤ y.taken → length x.given ≤ length y.given
    → (marks : List (ℕ × ℕ)) → All (IsMarkBetween y z) marks → All (IsMarkBetween x z) marks
between-from x y z taken given marks all = All-weaker (IsMarkBetween y z) (IsMarkBetween x z) (λ mark b. record {
  taken_from = omega arith;
  taken_to = b.taken_to;
  given_from = omega arith;
  given_to = b.given_to;
}) marks all

given_grew : (x y : Exchange) → Grew x y → length x.given ≤ length y.given
given_grew x y grew = rw (grew.given.1, length-append) (omega arith)

pub Grew-refl : (x : Exchange) → Grew x x
Grew-refl x = record {
  input = refl;
  taken = omega arith;
  given = ([], sym (append-nil x.given));
  marks = ([], sym (append-nil x.marks), All-nil (IsMarkBetween x x));
}

pub Grew-trans : (x y z : Exchange) → Grew x y → Grew y z → Grew x z
Grew-trans x y z first second = record {
  input = second.input ∙ first.input;
  taken = omega (arith, first.taken, second.taken);
  given = (
    first.given.0 ++ second.given.0,
    second.given.1 ∙ ap (λ l. l ++ second.given.0) first.given.1
        ∙ append_assoc x.given first.given.0 second.given.0,
  );
  marks = (
    first.marks.0 ++ second.marks.0,
    second.marks.1 ∙ ap (λ l. l ++ second.marks.0) first.marks.1
        ∙ append_assoc x.marks first.marks.0 second.marks.0,
    All-append (IsMarkBetween x z) first.marks.0 second.marks.0
        (between-to x y z second.taken (given_grew y z second) first.marks.0 first.marks.2)
        (between-from x y z first.taken (given_grew x y first) second.marks.0 second.marks.2),
  );
}

pub Grew-given : (x : Exchange) (bytes : List ℕ) → Grew x (with_given bytes x)
Grew-given x bytes = record {
  input = refl;
  taken = omega arith;
  given = (bytes, refl);
  marks = ([], sym (append-nil x.marks), All-nil (IsMarkBetween x (with_given bytes x)));
}

pub Grew-taken : (x : Exchange) (count : ℕ) → Grew x (with_taken count x)
Grew-taken x count = record {
  input = refl;
  taken = omega arith;
  given = ([], sym (append-nil x.given));
  marks = ([], sym (append-nil x.marks), All-nil (IsMarkBetween x (with_taken count x)));
}

pub Grew-mark : (x : Exchange) → Grew x (with_read_mark x)
Grew-mark x = record {
  input = refl;
  taken = omega arith;
  given = ([], sym (append-nil x.given));
  marks = (
    (x.taken, length x.given) ∷ [],
    refl,
    All-push (IsMarkBetween x (with_read_mark x)) [] (x.taken, length x.given)
        (All-nil (IsMarkBetween x (with_read_mark x)))
        (record { taken_from = omega arith; taken_to = omega arith; given_from = omega arith; given_to = omega arith }),
  );
}

pub GrewWhereTold-refl : (told : Option Exchange) → GrewWhereTold told told
GrewWhereTold-refl None = tt
GrewWhereTold-refl (Some x) = Grew-refl x

pub GrewWhereTold-trans : (x y z : Option Exchange) → GrewWhereTold x y → GrewWhereTold y z → GrewWhereTold x z
GrewWhereTold-trans None None None first second = tt
GrewWhereTold-trans None None (Some z) first second = second
GrewWhereTold-trans None (Some y) z first second = absurd first
GrewWhereTold-trans (Some x) None z first second = absurd first
GrewWhereTold-trans (Some x) (Some y) None first second = second
GrewWhereTold-trans (Some x) (Some y) (Some z) first second = Grew-trans x y z first second

-- a change under which each exchange grows
grew_by : (f : Exchange → Exchange) → ((x : Exchange) → Grew x (f x))
    → (told after : Option Exchange) → after ≡ option_map f told → GrewWhereTold told after
grew_by f grows None after same = subst (GrewWhereTold None) (sym same) tt
grew_by f grows (Some x) after same = subst (GrewWhereTold (Some x)) (sym same) (grows x)

pub GrewWhereTold-gave : (bytes : List ℕ) (before after : Option Exchange)
    → Gave bytes before after → GrewWhereTold before after
GrewWhereTold-gave bytes before after gave = grew_by (with_given bytes) (λ x. Grew-given x bytes) before after gave

pub GrewWhereTold-marked : (before after : Option Exchange) → TookNothing before after → GrewWhereTold before after
GrewWhereTold-marked before after marked = grew_by with_read_mark Grew-mark before after marked

pub GrewWhereTold-took : (bytes : List ℕ) (before after : Option Exchange)
    → Took bytes before after → GrewWhereTold before after
GrewWhereTold-took bytes before after took =
    grew_by (λ x. with_taken (length bytes) (with_read_mark x))
    (λ x. Grew-trans x (with_read_mark x) _ (Grew-mark x) (Grew-taken (with_read_mark x) (length bytes)))
    before after took.counted

-- an exchange by its parts
exchange_of : {i j : List ℕ} {t u : ℕ} {g h : List ℕ} {m n : List (ℕ × ℕ)} → i ≡ j
    → t ≡ u → g ≡ h → m ≡ n
    → ◌≡◌ {A = Exchange}
    (record { input = i; taken = t; given = g; marks = m }) (record { input = j; taken = u; given = h; marks = n })
exchange_of p q r s = λ k. record { input = p k; taken = q k; given = r k; marks = s k }

pub since-refl : (x : Exchange) → exchange_since x x ≡ begun_exchange (input_left x)
since-refl x = exchange_of refl (omega arith) (drop-length x.given) (rw (drop-length x.marks) refl)

pub since-given : (x y : Exchange) (bytes : List ℕ) → Grew x y
    → exchange_since x (with_given bytes y) ≡ with_given bytes (exchange_since x y)
since-given x y bytes grew =
    exchange_of refl refl (drop-append-le (length x.given) y.given bytes (given_grew x y grew)) refl

pub since-taken : (x y : Exchange) (count : ℕ) → Grew x y
    → exchange_since x (with_taken count y) ≡ with_taken count (exchange_since x y)
since-taken x y count grew = exchange_of refl (omega (arith, grew.taken)) refl refl

marks_grew : (x y : Exchange) → Grew x y → length x.marks ≤ length y.marks
marks_grew x y grew = rw (grew.marks.1, length-append) (omega arith)

pub since-mark : (x y : Exchange) → Grew x y → exchange_since x (with_read_mark y)
    ≡ with_read_mark (exchange_since x y)
since-mark x y grew =
    let relative : ℕ × ℕ → ℕ × ℕ = λ mark. (mark.0 - x.taken, mark.1 - length x.given) in
    exchange_of refl refl refl
    (ap (map relative)
    (drop-append-le (length x.marks) y.marks ((y.taken, length y.given) ∷ []) (marks_grew x y grew))
    ∙ map-append relative (drop (length x.marks) y.marks) ((y.taken, length y.given) ∷ [])
    ∙ ap (λ n. map relative (drop (length x.marks) y.marks) ++ (y.taken - x.taken, n) ∷ [])
    (sym (length-drop (length x.given) y.given)))

-- what is left to take is the same, from wherever it is counted
pub left-since : (x y : Exchange) → Grew x y → input_left (exchange_since x y) ≡ input_left y
left-since x y grew =
    drop-drop (y.taken - x.taken) x.taken x.input ∙ ap (λ n. drop n x.input) (omega (arith, grew.taken))
    ∙ ap (drop y.taken) (sym grew.input)

pub MarksWithin-since : (x y : Exchange) → Grew x y → MarksWithin (exchange_since x y)
MarksWithin-since x y grew =
    let Within : ℕ × ℕ → Type 0 =
    λ mark. (mark.0 ≤ y.taken - x.taken) × (mark.1 ≤ length (drop (length x.given) y.given)) in
    All-map Within (λ mark. (mark.0 - x.taken, mark.1 - length x.given)) (drop (length x.marks) y.marks)
    (All-same (λ mark. Within (mark.0 - x.taken, mark.1 - length x.given)) _ grew.marks.0
    (ap (drop (length x.marks)) grew.marks.1 ∙ drop-append_seam x.marks grew.marks.0)
    (All-weaker (IsMarkBetween x y) (λ mark. Within (mark.0 - x.taken, mark.1 - length x.given))
    (λ mark b. (omega (arith, b.taken_to), rw length-drop (omega (arith, b.given_to)))) grew.marks.0 grew.marks.2))

-- the bytes taken, after these were taken next
pub taken_bytes-taken : (x : Exchange) (bytes : List ℕ) → take (length bytes) (input_left x) ≡ bytes
    → taken_bytes (with_taken (length bytes) x) ≡ taken_bytes x ++ bytes
taken_bytes-taken x bytes next = take-add x.taken (length bytes) x.input ∙ ap (λ l. take x.taken x.input ++ l) next

-- what holds at the marks that are there holds at them whatever is given next
pub AtEachMark-given : (P : List ℕ → List ℕ → Type 0) (x : Exchange) (bytes : List ℕ) → MarksWithin x
    → AtEachMark P x → AtEachMark P (with_given bytes x)
AtEachMark-given P x bytes within all = λ k d below.
    rw (take-append-le _ x.given bytes (within k d below).1) (all k d below)

-- what holds when a read begins holds at its mark
pub AtEachMark-mark : (P : List ℕ → List ℕ → Type 0) (x : Exchange) → P (taken_bytes x) x.given
    → AtEachMark P x → AtEachMark P (with_read_mark x)
AtEachMark-mark P x now all =
    All-push (λ mark. P (take mark.0 x.input) (take mark.1 x.given)) x.marks (x.taken, length x.given) all
    (rw (take-length x.given) now)

-- what follows from what is told of the calls is told of them
pub OfCalls-weaker : (P Q : Exchange → Type 0) (before after : Option Exchange) → ((x : Exchange) → P x → Q x)
    → OfCalls P before after → OfCalls Q before after
OfCalls-weaker P Q None after weaker told = tt
OfCalls-weaker P Q (Some x) None weaker told = tt
OfCalls-weaker P Q (Some x) (Some y) weaker told = weaker (exchange_since x y) told

-- before any call nothing was taken, given or marked
pub OfCalls-none : (P : Exchange → Type 0) (told : Option Exchange)
    → ((input : List ℕ) → P (begun_exchange input))
    → OfCalls P told told
OfCalls-none P None start = tt
OfCalls-none P (Some x) start = subst P (sym (since-refl x)) (start (input_left x))

-- and with one change more it holds of the exchange with that change
of_calls_by : (P : Exchange → Type 0) (f : Exchange → Exchange) (first before after : Option Exchange)
    → ((x y : Exchange) → Grew x y → exchange_since x (f y) ≡ f (exchange_since x y))
    → GrewWhereTold first before → after ≡ option_map f before
    → OfCalls (λ x. P (f x)) first before → OfCalls P first after
of_calls_by P f None before after along grew same told = tt
of_calls_by P f (Some x) None after along grew same told = absurd grew
of_calls_by P f (Some x) (Some y) after along grew same told =
    subst (OfCalls P (Some x)) (sym same) (subst P (sym (along x y grew)) told)

pub OfCalls-gave : (P : Exchange → Type 0) (bytes : List ℕ) (first before after : Option Exchange)
    → GrewWhereTold first before → Gave bytes before after
    → OfCalls (λ x. P (with_given bytes x)) first before → OfCalls P first after
OfCalls-gave P bytes first before after grew gave told =
    of_calls_by P (with_given bytes) first before after (λ x y. since-given x y bytes) grew gave told

pub OfCalls-marked : (P : Exchange → Type 0) (first before after : Option Exchange)
    → GrewWhereTold first before → TookNothing before after
    → OfCalls (λ x. P (with_read_mark x)) first before → OfCalls P first after
OfCalls-marked P first before after grew marked told =
    of_calls_by P with_read_mark first before after since-mark grew marked told

-- what a read takes is what is left to take
next_of_calls : (bytes : List ℕ) (first before : Option Exchange) (P : Exchange → Type 0)
    → GrewWhereTold first before
    → IfSome before (λ x. take (length bytes) (input_left x) ≡ bytes)
    → OfCalls (λ x. take (length bytes) (input_left x) ≡ bytes → P x) first before → OfCalls P first before
next_of_calls bytes None before P grew next told = tt
next_of_calls bytes (Some x) None P grew next told = tt
next_of_calls bytes (Some x) (Some y) P grew next told = told (ap (take (length bytes)) (left-since x y grew) ∙ next)

pub OfCalls-took : (P : Exchange → Type 0) (bytes : List ℕ) (first before after : Option Exchange)
    → GrewWhereTold first before → Took bytes before after
    → OfCalls (λ x. take (length bytes) (input_left x) ≡ bytes
    → P (with_taken (length bytes) (with_read_mark x))) first before
    → OfCalls P first after
OfCalls-took P bytes first before after grew took told =
    of_calls_by P (λ x. with_taken (length bytes) (with_read_mark x)) first before after
    (λ x y g. since-taken x (with_read_mark y) (length bytes) (Grew-trans x y (with_read_mark y) g (Grew-mark y))
    ∙ ap (with_taken (length bytes)) (since-mark x y g))
    grew took.counted
    (next_of_calls bytes first before (λ x. P (with_taken (length bytes) (with_read_mark x))) grew took.next told)

-- what holds of the calls is known where their exchange is
pub OfCalls-MarksWithin : (P : Exchange → Type 0) (first before : Option Exchange) → GrewWhereTold first before
    → OfCalls (λ x. MarksWithin x → P x) first before → OfCalls P first before
OfCalls-MarksWithin P None before grew told = tt
OfCalls-MarksWithin P (Some x) None grew told = tt
OfCalls-MarksWithin P (Some x) (Some y) grew told = told (MarksWithin-since x y grew)
