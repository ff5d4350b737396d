-- Fronts of a text that were appended before memory ran out.
use Rattle.enf_value.proofs.Vocabulary.{◌≡◌, ℕ, ◌+◌, ◌<◌, ◌≤◌, List, [], ◌∷◌, ◌++◌, get_or, length, take, drop, sym, ap, subst, ◌∙◌, append_assoc, append-nil, length-take-le, take-append-drop}
use Rattle.enf_value.proofs.Vocabulary.{take_min, take_more, take-append-add, flat_map-append, flat_map, prefix_len, is_of_kind, AppendsPart, Plain, escaped}
use Rattle.std.proofs.Common.{take_while}
use Rattle.std.proofs.lemmas.List.{length-take}
use Rattle.enf_value.proofs.SpellingLaws.{escaped-front}

-- the texts of the first i items are a front of the texts of all
pub part_of_flat_map : (f : ℕ → List ℕ) (xs : List ℕ) (i : ℕ) (before after : List ℕ) → after ≡ before ++ flat_map f (take i xs) → AppendsPart (flat_map f xs) before after
part_of_flat_map f xs i before after is =
    (flat_map f (take i xs), flat_map f (drop i xs), sym (sym (flat_map-append f (take i xs) (drop i xs)) ∙ ap (flat_map f) (take-append-drop i xs)), is)

-- a front of the middle of a text, after its beginning, is a front of the text
pub part_inside : (start text end before middle after : List ℕ) → middle ≡ before ++ start → AppendsPart text middle after → AppendsPart (start ++ (text ++ end)) before after
part_inside start text end before middle after is (part, rest, split, appended) = (
  start ++ part,
  rest ++ end,
  ap (λ t. start ++ (t ++ end)) split ∙ ap (λ t. start ++ t) (append_assoc part rest end) ∙ sym (append_assoc start part (rest ++ end)),
  appended ∙ ap (λ t. t ++ part) is ∙ append_assoc before start part,
)

-- a front of what is left of a text, after what was appended of it, is a front of the text
pub part_behind : (f : ℕ → List ℕ) (xs : List ℕ) (at : ℕ) (before middle after : List ℕ) → middle ≡ before ++ flat_map f (take at xs)
    → AppendsPart (flat_map f (drop at xs)) middle after → AppendsPart (flat_map f xs) before after
part_behind f xs at before middle after is part =
    subst (λ t. AppendsPart t before after)
    (ap (λ l. flat_map f (take at xs) ++ l) (append-nil (flat_map f (drop at xs))) ∙ sym (flat_map-append f (take at xs) (drop at xs)) ∙ ap (flat_map f) (take-append-drop at xs))
    (part_inside (flat_map f (take at xs)) (flat_map f (drop at xs)) [] before middle after is part)

-- the bytes at the front that stand for themselves are printed as they are
pub plain_appended : (bytes plain before after : List ℕ) → plain ≡ take_while (is_of_kind Plain) bytes → after ≡ before ++ plain → after ≡ before ++ flat_map escaped (take (length plain) bytes)
plain_appended bytes plain before after is appended =
    let count = prefix_len (is_of_kind Plain) bytes in
    let same = ap (λ l. take (length l) bytes) is ∙ ap (λ n. take n bytes) (length-take count bytes) ∙ take_min count bytes in
    appended ∙ ap (λ l. before ++ l) (is ∙ sym (escaped-front bytes) ∙ ap (flat_map escaped) (sym same))

-- and then the byte after them by its escape
pub byte_appended : (bytes : List ℕ) (n : ℕ) (before middle after : List ℕ) → n < length bytes → middle ≡ before ++ flat_map escaped (take n bytes) → after
    ≡ middle ++ escaped (get_or bytes n 0) → after ≡ before ++ flat_map escaped (take (n + 1) bytes)
byte_appended bytes n before middle after within is appended =
    let byte = get_or bytes n 0 in
    let more =
    ap (flat_map escaped) (take_more bytes n 0 within) ∙ flat_map-append escaped (take n bytes) (byte ∷ [])
    ∙ ap (λ l. flat_map escaped (take n bytes) ++ l) (append-nil (escaped byte)) in
    appended ∙ ap (λ l. l ++ escaped byte) is ∙ append_assoc before (flat_map escaped (take n bytes)) (escaped byte)
    ∙ ap (λ l. before ++ l) (sym more)

-- what is appended of a text after a front of it
pub front_appended : (bytes : List ℕ) (at n : ℕ) (before middle after : List ℕ) → at ≤ length bytes → middle ≡ before ++ flat_map escaped (take at bytes) → after
    ≡ middle ++ flat_map escaped (take n (drop at bytes)) → after ≡ before ++ flat_map escaped (take (at + n) bytes)
front_appended bytes at n before middle after within is appended =
    let split : take (at + n) bytes ≡ take at bytes ++ take n (drop at bytes) =
    ap (λ l. take (at + n) l) (sym (take-append-drop at bytes))
    ∙ ap (λ k. take (k + n) (take at bytes ++ drop at bytes)) (sym (length-take-le at bytes within))
    ∙ take-append-add (take at bytes) (drop at bytes) n in
    appended ∙ ap (λ l. l ++ flat_map escaped (take n (drop at bytes))) is
    ∙ append_assoc before (flat_map escaped (take at bytes)) (flat_map escaped (take n (drop at bytes)))
    ∙ ap (λ l. before ++ l) (sym (ap (flat_map escaped) split ∙ flat_map-append escaped (take at bytes) (take n (drop at bytes))))
