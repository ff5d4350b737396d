-- A list cut at a place, one further on.
use Rattle.cursor_list.proofs.Vocabulary.{◌≡◌, refl, ap, List, [], ◌∷◌, ◌++◌, append_assoc, ℕ, zero, suc, ◌+◌, ◌≤◌, arith, length, take, length-append, length-take, cut_at}
use lib.ListN.{drop}

module _ {X : Type 0} where
  pub take-next : (n : ℕ) (xs : List X) → take (suc n) xs ≡ take n xs ++ take 1 (drop n xs)
  take-next zero xs = refl
  take-next (suc n) [] = refl
  take-next (suc n) (x ∷ xs) = ap (λ l. x ∷ l) (take-next n xs)

  pub drop-next : (n : ℕ) (xs : List X) → drop (suc n) xs ≡ drop 1 (drop n xs)
  drop-next zero xs = refl
  drop-next (suc n) [] = refl
  drop-next (suc n) (x ∷ xs) = drop-next n xs

  -- where one was put in at n
  pub put_cut : (xs : List X) (x : X) (n : ℕ) → n ≤ length xs
      → (take n xs ++ x ∷ [] ≡ take (n + 1) (take n xs ++ x ∷ drop n xs)) × (drop n xs ≡ drop (n + 1) (take n xs ++ x ∷ drop n xs))
  put_cut xs x n p =
      cut_at (take n xs ++ x ∷ []) (drop n xs) (take n xs ++ x ∷ drop n xs) (n + 1) (append_assoc (take n xs) (x ∷ []) (drop n xs))
      (omega (arith, length-append (take n xs) (x ∷ []), length-take n xs))
