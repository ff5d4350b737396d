-- Where a test tells the edges and no name is on a cycle, the rank of a name is found by looking.
use Rattle.rank_check.proofs.Vocabulary.{◌≡◌, ◌⊎◌, ℕ, zero, suc, ◌+◌, ◌<◌, ◌≤◌, Bool, true, false, IsTrue, refl, sym, subst, inl, inr, ⊎_elim, arith, cases_lt, NameId, EndsIn, IsRank, IsOnCycle}
use Rattle.rank_check.proofs.ClosureLemmas.{below_or_there}
use Rattle.rank_check.proofs.RankLemmas.{short}

is_or_not : (b : Bool) → IsTrue b ⊎ (IsTrue b → ⊥)
is_or_not true = inl refl
is_or_not false = inr (λ is. absurd (cc))

module _ (width : ℕ) (test : NameId → NameId → Bool) (inside : (a b : NameId) → IsTrue (test a b) → (a.0 < width) × (b.0 < width)) where
  abbrev E : NameId → NameId → Type 0
  E a b = IsTrue (test a b)

  -- a name below n in which a chain of k edges ends, and from which an edge leads to the name
  abbrev Found : ℕ → NameId → ℕ → Type 0
  Found k name n = (before : NameId) × (before.0 < n) × EndsIn E k before × E before name

  not_here : (k : ℕ) (name here : NameId) → (Found k name here.0 → ⊥) → ((EndsIn E k here × E here name) → ⊥) → Found k name (here.0 + 1) → ⊥
  not_here k name here none apart found = ⊎_elim
      (λ (less : found.0.0 < here.0). none (found.0, less, found.2, found.3))
      (λ (there : here ≡ found.0). apart (subst (λ (a : NameId). EndsIn E k a × E a name) (sym there) (found.2, found.3)))
      (below_or_there found.0 here found.1)

  look : (k : ℕ) (name : NameId) → ((before : NameId) → EndsIn E k before ⊎ (EndsIn E k before → ⊥)) → (n : ℕ) → Found k name n ⊎ (Found k name n → ⊥)
  look k name each zero = inr (λ found. let below = found.1 in omega arith)
  look k name each (suc n) =
      let here : NameId = record { 0 = n } in
      let one : n + 1 ≡ suc n = omega arith in
      let neither : (Found k name n → ⊥) → ((EndsIn E k here × E here name) → ⊥) → Found k name (suc n) → ⊥ = λ none not. subst (λ (m : ℕ). Found k name m → ⊥) one (not_here k name here none not) in
      ⊎_elim
      (λ (found : Found k name n). let below = found.1 in inl (found.0, omega arith, found.2, found.3))
      (λ (none : Found k name n → ⊥). ⊎_elim
      (λ (ends : EndsIn E k here). ⊎_elim
      (λ (edge : E here name). inl (here, omega arith, ends, edge))
      (λ (not : E here name → ⊥). inr (neither none (λ both. not both.1)))
      (is_or_not (test here name)))
      (λ (not : EndsIn E k here → ⊥). inr (neither none (λ both. not both.0)))
      (each here))
      (look k name each n)

  ends_or_not : (k : ℕ) (name : NameId) → EndsIn E k name ⊎ (EndsIn E k name → ⊥)
  ends_or_not zero name = inl (name, refl)
  ends_or_not (suc k) name = ⊎_elim
      (λ (found : Found k name width). inl (found.2.0, (found.0, found.2.1, found.3)))
      (λ (none : Found k name width → ⊥). inr (λ ends. none (ends.1.0, (inside ends.1.0 name ends.1.2).0, (ends.0, ends.1.1), ends.1.2)))
      (look k name (ends_or_not k) width)

  -- from a length that no chain exceeds down to the first that a chain has
  down : (k : ℕ) (name : NameId) → ((j : ℕ) → EndsIn E j name → j ≤ k) → (rank : ℕ) × IsRank E name rank
  down zero name all = (0, record { reached = (name, refl); longest = all })
  down (suc k) name all = ⊎_elim
      (λ (ends : EndsIn E (suc k) name). (suc k, record { reached = ends; longest = all }))
      (λ (none : EndsIn E (suc k) name → ⊥). down k name (λ j ends. ⊎_elim
      (λ (less : j < suc k). omega arith)
      (λ (more : suc k ≤ j). let most = all j ends in let same : j ≡ suc k = omega arith in absurd (none (subst (λ (i : ℕ). EndsIn E i name) same ends)))
      (cases_lt j (suc k))))
      (ends_or_not (suc k) name)

  pub has_rank : ((name : NameId) → IsOnCycle E name → ⊥) → (name : NameId) → (rank : ℕ) × IsRank E name rank
  has_rank acyclic name = down width name (λ j ends. short E width inside acyclic j name ends)
