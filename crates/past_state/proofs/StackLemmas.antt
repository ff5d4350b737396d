-- Stacks of tables, the first of which stands last.
use Rattle.past_state.proofs.Vocabulary.{◌≡◌, ◌∙◌, ℕ, ◌-◌, ◌≤◌, List, ◌++◌, length, take, drop, reverse, sym, ap, arith, drop-append_seam, length-reverse, length-drop, reverse-append}
use Rattle.past_state.proofs.Vocabulary.{take-append-drop, Relation}

-- what stands below the top of a stack
pub below_top : (xs : List Relation) (n : ℕ) → n ≤ length xs → reverse (take (length xs - n) xs) ≡ drop n (reverse xs)
below_top xs n within =
    let m : ℕ = length xs - n in
    let top : length (reverse (drop m xs)) ≡ n = length-reverse (drop m xs) ∙ length-drop m xs ∙ omega (arith, within) in
    let split : reverse xs ≡ reverse (drop m xs) ++ reverse (take m xs) = ap reverse (sym (take-append-drop m xs)) ∙ reverse-append (take m xs) (drop m xs) in
    sym (ap (λ l. drop n l) split ∙ ap (λ k. drop k (reverse (drop m xs) ++ reverse (take m xs))) (sym top) ∙ drop-append_seam (reverse (drop m xs)) (reverse (take m xs)))

pub stack_below : (xs : List Relation) (n : ℕ) → n ≤ length (reverse xs) → reverse (take (length xs - n) xs) ≡ drop n (reverse xs)
stack_below xs n within = below_top xs n (omega (arith, within, length-reverse xs))
