-- What was appended of a text when memory ran out, for a text in parts.
use Rattle.enf_value.proofs.Vocabulary.{◌≡◌, ℕ, List, [], sym, ◌∙◌, refl, append-nil, ◌++◌, ap, append_assoc, Result, Ok, Err, OnErr, subst, ◌∷◌, ◌<◌, ◌+◌, take, drop, length, get_or, take_more}
use Rattle.enf_value.proofs.Vocabulary.{flat_map-append, AppendsPart}
use Rattle.std.proofs.Common.{take-append-drop, flat_map}

-- nothing is a front
pub part_none : (text before after : List ℕ) → after ≡ before → AppendsPart text before after
part_none text before after e = ([], text, refl, e ∙ sym (append-nil before))

-- a front of a text is a front of a longer one
pub part_first : (text rest before after : List ℕ) → AppendsPart text before after → AppendsPart (text ++ rest) before after
part_first text rest before after (part, more, split, appended) =
    (part, more ++ rest, ap (λ (t : List ℕ). t ++ rest) split ∙ append_assoc part more rest, appended)

-- a front after a text
pub part_behind : (start text before middle after : List ℕ) → middle ≡ before ++ start → AppendsPart text middle after
    → AppendsPart (start ++ text) before after
part_behind start text before middle after is (part, more, split, appended) = (
  start ++ part,
  more,
  ap (λ (t : List ℕ). start ++ t) split ∙ sym (append_assoc start part more),
  appended ∙ ap (λ (t : List ℕ). t ++ part) is ∙ append_assoc before start part,
)

-- a part of a text was appended, where the call that ends the text is refused
pub part_last : {T E : Type 0} (result : Result T E) (start text before middle after : List ℕ) → middle ≡ before ++ start
    → OnErr result (AppendsPart text middle after) → OnErr result (AppendsPart (start ++ text) before after)
part_last (Ok x) start text before middle after is h = tt
part_last (Err e) start text before middle after is h = part_behind start text before middle after is h

-- a part of a text was appended, where the call that ends it is refused and appends all or nothing
pub none_last : {T E : Type 0} (result : Result T E) (text middle after : List ℕ) → OnErr result (after ≡ middle)
    → OnErr result (AppendsPart text middle after)
none_last (Ok x) text middle after h = tt
none_last (Err e) text middle after h = part_none text middle after h

-- a front of the text of one item, after those of the items before it, is a front of the texts of all
pub part_of_items : {X : Type 0} (f : X → List ℕ) (xs : List X) (i : ℕ) (x : X) (before middle after : List ℕ)
    → i < length xs → x ≡ get_or xs i x → middle ≡ before ++ flat_map f (take i xs) → AppendsPart (f x) middle after
    → AppendsPart (flat_map f xs) before after
part_of_items f xs i x before middle after within is begun part =
    let rest = flat_map f (drop (i + 1) xs) in
    let whole : flat_map f (take i xs) ++ (f x ++ rest) ≡ flat_map f xs =
    sym (append_assoc (flat_map f (take i xs)) (f x) rest)
    ∙ ap (λ t. t ++ rest) (ap (λ t. flat_map f (take i xs) ++ t) (sym (append-nil (f x))) ∙ sym (flat_map-append f (take i xs) (x ∷ []))
    ∙ ap (flat_map f) (ap (λ y. take i xs ++ y ∷ []) is ∙ sym (take_more xs i x within)))
    ∙ sym (flat_map-append f (take (i + 1) xs) (drop (i + 1) xs)) ∙ ap (flat_map f) (take-append-drop (i + 1) xs) in
    subst (λ (t : List ℕ). AppendsPart t before after) whole
    (part_behind (flat_map f (take i xs)) (f x ++ rest) before middle after begun (part_first (f x) rest middle after part))
