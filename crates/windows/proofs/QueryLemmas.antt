-- Cells, one after another.
use Rattle.windows.proofs.Vocabulary.{◌≡◌, ◌∙◌, ℕ, suc, ◌+◌, ◌<◌, Bool, true, false, List, ◌∷◌, length, map, get_or, drop, refl, ap, sym, arith, drop-cons, get_or-map, flat_map, fold, fed_then}
use Rattle.windows.proofs.Vocabulary.{Valuation, value_at, VarId, Value, cell_eq, cell_fed, cells, cells_eq, length-map, none-some, Num}
use Rattle.std.specs.Prelude.{Option, None, Some, pos, ◌&&◌}

-- the item at a place, and what is after it
next_is : {X : Type 0} (xs : List X) (i : ℕ) (x : X) → i < length xs → get_or xs i x ≡ x → drop i xs ≡ x ∷ drop (i + 1) xs
next_is xs i x below is = let more : suc i ≡ i + 1 = omega arith in drop-cons xs i x below ∙ (λ j. is j ∷ drop (more j) xs)

pub cell_at : (columns : List VarId) (v : Valuation) (i : ℕ) (d : VarId) (x : Option Value) → i < length columns → x ≡ value_at v (get_or columns i d) → get_or (cells columns v) i x ≡ x
cell_at columns v i d x below is = get_or-map (value_at v) columns i d x below ∙ sym is

-- at a place of two lists that are the same so far
module _ (whole : Bool) (xs ys : List (Option Value)) (i : ℕ) (x y : Option Value) (same : Bool) (so_far : whole ≡ cells_eq (drop i xs) (drop i ys)) (below : i < length xs) (within : i < length ys)
    (is : get_or xs i x ≡ x) (at : get_or ys i y ≡ y) (tells : same ≡ cell_eq x y) where
  next : whole ≡ (same && cells_eq (drop (i + 1) xs) (drop (i + 1) ys))
  next = so_far ∙ (λ j. cells_eq (next_is xs i x below is j) (next_is ys i y within at j)) ∙ ap (λ b. b && cells_eq (drop (i + 1) xs) (drop (i + 1) ys)) (sym tells)

  pub apart : same ≡ false → false ≡ whole
  apart not_same = sym (next ∙ ap (λ b. b && cells_eq (drop (i + 1) xs) (drop (i + 1) ys)) not_same)

  pub alike : same ≡ true → whole ≡ cells_eq (drop (i + 1) xs) (drop (i + 1) ys)
  alike is_same = next ∙ ap (λ b. b && cells_eq (drop (i + 1) xs) (drop (i + 1) ys)) is_same

pub fed_next : {S : Type 0} (write : S → List ℕ → S) (xs : List (Option Value)) (i : ℕ) (x : Option Value) (before after : S) → i < length xs → get_or xs i x ≡ x
    → after ≡ fold write before (cell_fed x) → fold write after (flat_map cell_fed (drop (i + 1) xs)) ≡ fold write before (flat_map cell_fed (drop i xs))
fed_next write xs i x before after below is fed =
    fed_then write before after (fold write after (flat_map cell_fed (drop (i + 1) xs))) (cell_fed x) (flat_map cell_fed (drop (i + 1) xs)) fed refl
    ∙ ap (λ l. fold write before (flat_map cell_fed l)) (sym (next_is xs i x below is))

pub some_at : (row : List Value) (i : ℕ) (x : Value) → i < length row → x ≡ get_or row i x → get_or (map Some row) i (Some x) ≡ Some x
some_at row i x below is = get_or-map Some row i x (Some x) below ∙ ap Some (sym is)

-- a column that is not bound has no value in a row
pub no_whole : (columns : List VarId) (v : Valuation) (i : ℕ) (d : VarId) → i < length columns → None ≡ value_at v (get_or columns i d) → (row : List Value) → cells columns v ≡ map Some row → ⊥
no_whole columns v i d below none row whole =
    let long : length columns ≡ length row = sym (length-map columns (value_at v)) ∙ ap length whole ∙ length-map {B = Option Value} row Some in
    none-some (get_or row i (Num (pos 0)))
    (sym (cell_at columns v i d None below none) ∙ ap (λ l. get_or l i None) whole ∙ get_or-map Some row i (Num (pos 0)) None (omega (arith, below, long)))

pub cells_long : (columns : List VarId) (v : Valuation) (row : List Value) → cells columns v ≡ map Some row → length row ≡ length columns
cells_long columns v row whole = sym (length-map {B = Option Value} row Some) ∙ sym (ap length whole) ∙ length-map columns (value_at v)
