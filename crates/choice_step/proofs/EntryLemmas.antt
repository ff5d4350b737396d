-- Lists of so many numbers, which cannot fall without end.
use Rattle.choice_step.proofs.Vocabulary.{◌≡◌, ℕ, zero, suc, ◌<◌, List, [], ◌∷◌, length, subst, ⊎_elim, arith, EntriesFall}

-- it holds of each list of so many numbers of which all lower ones have it
abbrev Follows : (width : ℕ) (P : List ℕ → Type 0) → Type 0
Follows width P = (before : List ℕ) → length before ≡ width
    → ((after : List ℕ) → length after ≡ width → EntriesFall before after → P after) → P before

-- where that is enough for lists of one number less, it is so for those with a number in front
module _ (width : ℕ) (enough : (Q : List ℕ → Type 0) → Follows width Q → (entries : List ℕ) → length entries ≡ width → Q entries)
    (P : List ℕ → Type 0) (step : Follows (suc width) P) where
  -- the rest is lower, or the number in front is
  by_rest : (n : ℕ) (rest : List ℕ) → ((m : ℕ) (more : List ℕ) → m < n → length more ≡ width → P (m ∷ more))
      → ((after : List ℕ) → length after ≡ width → EntriesFall rest after → P (n ∷ after))
      → (after : List ℕ) → length after ≡ suc width → EntriesFall (n ∷ rest) after → P after
  by_rest n rest lower others [] wide falls = absurd falls
  by_rest n rest lower others (m ∷ after) wide falls = ⊎_elim
      (λ less. lower m after less (omega (arith, wide)))
      (λ same. subst (λ (k : ℕ). P (k ∷ after)) {x = n} {y = m} (omega (arith, same.0)) (others after (omega (arith, wide)) same.1))
      falls

  by_first : (n : ℕ) → ((m : ℕ) (more : List ℕ) → m < n → length more ≡ width → P (m ∷ more))
      → (rest : List ℕ) → length rest ≡ width → P (n ∷ rest)
  by_first n lower = enough (λ rest. P (n ∷ rest)) (λ rest long others.
      step (n ∷ rest) (omega (arith, long)) (by_rest n rest lower others))

  below : (n m : ℕ) (rest : List ℕ) → m < n → length rest ≡ width → P (m ∷ rest)
  below zero m rest less long = absurd (omega (arith, less))
  below (suc n) m rest less long = by_first m (λ k more lower. below n k more (omega (arith, less, lower))) rest long

  with_first : (entries : List ℕ) → length entries ≡ suc width → P entries
  with_first [] wide = absurd (omega (arith, wide))
  with_first (n ∷ rest) wide = below (suc n) n rest (omega arith) (omega (arith, wide))

no_entry_falls : (before after : List ℕ) → length before ≡ 0 → EntriesFall before after → ⊥
no_entry_falls [] after wide falls = falls
no_entry_falls (n ∷ before) after wide falls = omega (arith, wide)

-- it holds of each list of so many numbers, where it does of each of which all lower ones have it
pub by_entries : (width : ℕ) (P : List ℕ → Type 0) → Follows width P → (entries : List ℕ) → length entries ≡ width → P entries
by_entries zero P step entries wide = step entries wide (λ after long falls. absurd (no_entry_falls entries after wide falls))
by_entries (suc width) P step entries wide = with_first width (by_entries width) P step entries wide
