-- What is so or not so.
use Rattle.monitorable_guard.proofs.Vocabulary.{◌≡◌, ℕ, zero, suc, ◌<◌, ◌≤◌, ◌⊎◌, inl, inr, ⊎_elim, Bool, true, false, List, Contains, refl, subst, arith, cases_lt, not_from_Decides, Decides}
use Rattle.monitorable_guard.proofs.Vocabulary.{Classically, Value, same_value_or_not, some_or_not}

abbrev pub Decided : Type 0 → Type 0
Decided P = P ⊎ (P → ⊥)

pub decided_by : (P : Type 0) (b : Bool) → Decides b P → Decided P
decided_by P true d = inl (d.0 refl)
decided_by P false d = inr (not_from_Decides false d refl)

pub decided_as : (P Q : Type 0) → (P → Q) → (Q → P) → Decided P → Decided Q
decided_as P Q to from p = ⊎_elim (λ yes. inl (to yes)) (λ n. inr (λ q. n (from q))) p

pub decided_not : (P : Type 0) → Decided P → Decided (P → ⊥)
decided_not P p = ⊎_elim (λ yes. inr (λ n. n yes)) (λ n. inl n) p

pub decided_both : (P Q : Type 0) → Decided P → Decided Q → Decided (P × Q)
decided_both P Q p q = ⊎_elim (λ yes. ⊎_elim (λ too. inl (yes, too)) (λ n. inr (λ both. n both.1)) q) (λ n. inr (λ both. n both.0)) p

pub decided_either : (P Q : Type 0) → Decided P → Decided Q → Decided (P ⊎ Q)
decided_either P Q p q = ⊎_elim (λ yes. inl (inl yes)) (λ n. ⊎_elim (λ yes. inl (inr yes)) (λ m. inr (λ either. ⊎_elim n m either)) q) p

-- one of two, as satisfaction says it
pub decided_or : (P Q : Type 0) → Decided P → Decided Q → Decided ((P → ⊥) → (Q → ⊥) → ⊥)
decided_or P Q p q = ⊎_elim (λ yes. inl (λ n m. n yes)) (λ n. ⊎_elim (λ yes. inl (λ _ m. m yes)) (λ m. inr (λ either. either n m)) q) p

pub decided_implies : (P Q : Type 0) → Decided P → Decided Q → Decided (P → Q)
decided_implies P Q p q = ⊎_elim (λ yes. ⊎_elim (λ too. inl (λ _. too)) (λ n. inr (λ implies. n (implies yes))) q) (λ n. inl (λ yes. absurd (n yes))) p

pub decided_classically : (P : Type 0) → Decided P → Decided (Classically P)
decided_classically P p = ⊎_elim (λ yes. inl (λ n. n yes)) (λ n. inr (λ c. c n)) p

pub stable_from : (P : Type 0) → Decided P → Classically P → P
stable_from P p c = ⊎_elim (λ yes. yes) (λ n. absurd (c n)) p

pub contains_decided : (xs : List Value) (value : Value) → Decided (Contains xs value)
contains_decided xs value = decided_as _ (Contains xs value) (λ some. subst (Contains xs) some.2 some.1) (λ there. (value, there, refl))
    (some_or_not (λ x. x ≡ value) xs (λ x. same_value_or_not x value))

pub decided_at_most : (a b : ℕ) → Decided (a ≤ b)
decided_at_most a b = ⊎_elim (λ (above : b < a). inr (λ (le : a ≤ b). omega (arith, above, le))) (λ le. inl le) (cases_lt b a)

-- ---- of the numbers up to one

module _ (P : ℕ → Type 0) (each : (k : ℕ) → Decided (P k)) where
  pub some_upto : (i : ℕ) → Decided ((j : ℕ) × (j ≤ i) × P j)
  some_upto zero = decided_as (P 0) ((j : ℕ) × (j ≤ 0) × P j) (λ p. (0, omega arith, p)) (λ some. subst P (nothing some.0 some.1) some.2) (each 0)
    where
      nothing : (j : ℕ) → j ≤ 0 → j ≡ 0
      nothing j le = omega (arith, le)
  some_upto (suc i) = ⊎_elim
      (λ last. inl (suc i, omega arith, last))
      (λ n. decided_as ((j : ℕ) × (j ≤ i) × P j) ((j : ℕ) × (j ≤ suc i) × P j)
      (λ some. (some.0, omega (arith, some.1), some.2))
      (λ some. ⊎_elim (λ (lt : some.0 < suc i). (some.0, omega (arith, lt), some.2)) (λ (le : suc i ≤ some.0). absurd (n (subst P (same some.0 some.1 le) some.2))) (cases_lt some.0 (suc i)))
      (some_upto i))
      (each (suc i))
    where
      same : (j : ℕ) → j ≤ suc i → suc i ≤ j → j ≡ suc i
      same j le ge = omega (arith, le, ge)

  pub all_between : (j i : ℕ) → Decided ((k : ℕ) → j < k → k ≤ i → P k)
  all_between j zero = inl (λ k above upto. absurd (omega (arith, above, upto)))
  all_between j (suc i) = ⊎_elim
      (λ (there : j < suc i). ⊎_elim
      (λ last. decided_as ((k : ℕ) → j < k → k ≤ i → P k) ((k : ℕ) → j < k → k ≤ suc i → P k)
      (λ all k above upto. ⊎_elim (λ (lt : k < suc i). all k above (omega (arith, lt))) (λ (le : suc i ≤ k). subst P (same k upto le) last) (cases_lt k (suc i)))
      (λ all k above upto. all k above (omega (arith, upto)))
      (all_between j i))
      (λ n. inr (λ all. n (all (suc i) there (omega arith))))
      (each (suc i)))
      (λ (beyond : suc i ≤ j). inl (λ k above upto. absurd (omega (arith, beyond, above, upto))))
      (cases_lt j (suc i))
    where
      same : (k : ℕ) → k ≤ suc i → suc i ≤ k → suc i ≡ k
      same k le ge = omega (arith, le, ge)
