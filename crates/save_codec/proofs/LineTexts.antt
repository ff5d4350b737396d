-- The lines by their parts.
use Rattle.save_codec.proofs.Vocabulary.{◌≡◌, ◌++◌, ◌∷◌, ℕ, List, Option, Some, None, codes, decimal, slice_index, refl, sym, ap, ◌∙◌, append_assoc, Value, cancel_front as cancel, IsSmallTime}
use Rattle.save_codec.proofs.Vocabulary.{due_text, line_text, spaced, values_text, Last, Row, Due}
use Rattle.save_codec.proofs.ByteFronts.{decimal_is_no_minus}

pub no_dash : (last : Option ℕ) (rest left behind : List ℕ) → IsSmallTime last → left ≡ line_text (Last last) ++ rest → left ≡ codes "last -\n" ++ behind → None ≡ last
no_dash None rest left behind small e dash = refl
no_dash (Some time) rest left behind small e dash =
    let text : decimal time ++ (10 ∷ rest) ≡ 45 ∷ 10 ∷ behind = cancel (codes "last ") (decimal time ++ (10 ∷ rest)) (45 ∷ 10 ∷ behind)
    (ap (λ l. codes "last " ++ l) (sym (append_assoc (decimal time) (codes "\n") rest)) ∙ sym e ∙ dash) in
    absurd (decimal_is_no_minus time (10 ∷ rest) (decimal time ++ (10 ∷ rest)) small refl (ap (λ l. slice_index l 0) text))

-- a word, a number and the end of the line
pub single_split : (word : List ℕ) (number : ℕ) (rest : List ℕ) → (word ++ (spaced number ++ codes "\n")) ++ rest ≡ word ++ (spaced number ++ (codes "\n" ++ rest))
single_split word number rest =
    append_assoc word (spaced number ++ codes "\n") rest ∙ ap (λ l. word ++ l) (append_assoc (spaced number) (codes "\n") rest)

pub row_split : (window time : ℕ) (values : List Value) (rest : List ℕ)
    → line_text (Row window time values) ++ rest ≡ codes "row" ++ (spaced window ++ (spaced time ++ (values_text values ++ (codes "\n" ++ rest))))
row_split window time values rest = simp append_assoc

pub due_split : (rule node origin low high : ℕ) (values : List Value) (rest : List ℕ)
    → line_text (Due rule node origin low high values) ++ rest
    ≡ codes "due" ++ (spaced rule ++ (spaced node ++ (spaced origin ++ (spaced low ++ (spaced high ++ (values_text values ++ (codes "\n" ++ rest)))))))
due_split rule node origin low high values rest =
    append_assoc (due_text rule node origin low high) (values_text values ++ codes "\n") rest
    ∙ ap (λ l. due_text rule node origin low high ++ l) (append_assoc (values_text values) (codes "\n") rest)
    ∙ numbers (values_text values ++ (codes "\n" ++ rest))
  where
    numbers : (behind : List ℕ) → due_text rule node origin low high ++ behind
        ≡ codes "due" ++ (spaced rule ++ (spaced node ++ (spaced origin ++ (spaced low ++ (spaced high ++ behind)))))
    numbers behind =
        append_assoc (codes "due" ++ spaced rule) (spaced node ++ (spaced origin ++ (spaced low ++ spaced high))) behind
        ∙ ap (λ l. codes "due" ++ (spaced rule ++ l)) (append_assoc (spaced node) (spaced origin ++ (spaced low ++ spaced high)) behind
        ∙ ap (λ l. spaced node ++ l) (append_assoc (spaced origin) (spaced low ++ spaced high) behind
        ∙ ap (λ l. spaced origin ++ l) (append_assoc (spaced low) (spaced high) behind)))
