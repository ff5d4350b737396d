-- Lists without repeats among finitely many items, and the finitely many rows over some values.
use Rattle.choice_step.proofs.Vocabulary.{◌≡◌, ℕ, zero, suc, ◌+◌, ◌<◌, ◌≤◌, List, [], ◌∷◌, length, map, Contains, sym, subst, ⊎_elim, arith, get_or, flat_map, Contains-map, first_or_later, here}
use Rattle.choice_step.proofs.Vocabulary.{later, none_in_nil, HasNoRepeats, Contains-flat_map}

-- ---- no more different items than there are

-- the list without the item at a place
abbrev without : {X : Type 0} → List X → ℕ → List X
without [] place = []
without (x ∷ xs) zero = xs
without (x ∷ xs) (suc place) = x ∷ without xs place

without_is_shorter : {X : Type 0} (xs : List X) (place : ℕ) → place < length xs
    → length (without xs place) + 1 ≡ length xs
without_is_shorter [] place within = absurd (omega (arith, within))
without_is_shorter (x ∷ xs) zero within = omega arith
without_is_shorter (x ∷ xs) (suc place) within = omega (arith, without_is_shorter xs place (omega (arith, within)))

-- what is in the list and is not that item is left
is_left : {X : Type 0} (xs : List X) (place : ℕ) (x y : X) → place < length xs → get_or xs place x ≡ x → Contains xs y
    → (x ≡ y → ⊥) → Contains (without xs place) y
is_left [] place x y within is there other = absurd (none_in_nil y there)
is_left (z ∷ xs) zero x y within is there other =
    ⊎_elim (λ same. absurd (other (subst (λ w. w ≡ y) is same))) (λ behind. behind) (first_or_later y z xs there)
is_left (z ∷ xs) (suc place) x y within is there other =
    ⊎_elim
    (λ same. subst (Contains (z ∷ without xs place)) same (here z (without xs place)))
    (λ behind. later y z (without xs place) (is_left xs place x y (omega (arith, within)) is behind other))
    (first_or_later y z xs there)

pub few_among : {X : Type 0} (xs ys : List X) → HasNoRepeats xs → ((x : X) → Contains xs x → Contains ys x)
    → length xs ≤ length ys
few_among [] ys distinct each = omega arith
few_among {X = X} (x ∷ xs) ys distinct each =
    let at : Contains ys x = each x (here x xs) in
    let rest =
    few_among xs (without ys at.0) distinct.1
    (λ y there. is_left ys at.0 x y at.1 at.2 (each y (later y x xs there)) (λ same. distinct.0 (subst (Contains xs) (sym same) there)))
    in
    omega (arith, rest, without_is_shorter ys at.0 at.1)

-- ---- the rows over some values

-- each row that begins with one of the values and goes on with one of the rows
abbrev onto_each : {X : Type 0} → List X → List (List X) → List (List X)
onto_each values rows = flat_map (λ value. map (λ row. value ∷ row) rows) values

abbrev pub rows_over : {X : Type 0} → List X → ℕ → List (List X)
rows_over values zero = [] ∷ []
rows_over values (suc count) = onto_each values (rows_over values count)

pub in_rows_over : {X : Type 0} (values : List X) (row : List X) → ((x : X) → Contains row x → Contains values x)
    → Contains (rows_over values (length row)) row
in_rows_over values [] each = here [] []
in_rows_over values (x ∷ row) each =
    Contains-flat_map (λ value. map (λ r. value ∷ r) (rows_over values (length row))) values x (x ∷ row) (each x (here x row))
    (Contains-map (λ r. x ∷ r) (rows_over values (length row)) row (in_rows_over values row (λ y there. each y (later y x row there))))
