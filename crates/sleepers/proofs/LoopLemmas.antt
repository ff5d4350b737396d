-- The next item of a list that is gone over.
use Rattle.sleepers.proofs.Vocabulary.{◌≡◌, ℕ, ◌+◌, ◌<◌, List, [], ◌∷◌, ◌++◌, Contains, ◌⊎◌, sym, subst, ap, ◌∙◌, length, take, get_or, AllByRecursion, take_more, Contains-push_cases}
use Rattle.sleepers.proofs.Vocabulary.{AllByRecursion-append}

module _ {X : Type 0} where
  pub one_more : (xs : List X) (i : ℕ) (x : X) → i < length xs → x ≡ get_or xs i x → take (i + 1) xs ≡ take i xs ++ x ∷ []
  one_more xs i x within is = take_more xs i x within ∙ ap (λ (y : X). take i xs ++ y ∷ []) (sym is)

  -- what is among the items up to the next
  pub in_next : (xs : List X) (i : ℕ) (x y : X) → i < length xs → x ≡ get_or xs i x → Contains (take (i + 1) xs) y → Contains (take i xs) y ⊎ (x ≡ y)
  in_next xs i x y within is there =
      Contains-push_cases (take i xs) x y (subst (λ (l : List X). Contains l y) (one_more xs i x within is) there)

  pub each_next : (P : X → Type 0) (xs : List X) (i : ℕ) (x : X) → i < length xs → x ≡ get_or xs i x → AllByRecursion P (take i xs) → P x
      → AllByRecursion P (take (i + 1) xs)
  each_next P xs i x within is each one =
      subst (AllByRecursion P) (sym (one_more xs i x within is)) (AllByRecursion-append P (take i xs) (x ∷ []) each (one, tt))
