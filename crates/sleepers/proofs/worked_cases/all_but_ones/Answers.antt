use Rattle.sleepers.proofs.Vocabulary.{[], ◌∷◌, ◌≡◌, ℕ, Contains, ◌⊎◌, ⊎_elim, arith, refl, inl, inr, ap, length, here, later, first_or_later, none_in_nil}
use Rattle.sleepers.proofs.worked_cases.all_but_ones.Goals as goal

-- the items of a list of two
one_of_two : (x a b : ℕ) → Contains (a ∷ b ∷ []) x → (a ≡ x) ⊎ (b ≡ x)
one_of_two x a b there =
    ⊎_elim (λ e. inl e) (λ on. ⊎_elim (λ e. inr e) (λ no. absurd (none_in_nil x no)) (first_or_later x b [] on)) (first_or_later x a (b ∷ []) there)

pub returns-clause-others : goal.returns-clause-others
returns-clause-others c = inl (3 ∷ [], (λ e. omega (arith, e)), inr (refl, inl ([], (λ e. omega (arith, e)), refl, refl)), refl)

pub returns-clause-left_out : goal.returns-clause-left_out
returns-clause-left_out c = λ rest. ⊎_elim (λ p. let e = ap length p.3 in omega (arith, e)) (λ p. let e = p.0 in omega (arith, e)) rest

pub returns-clause-too_many : goal.returns-clause-too_many
returns-clause-too_many c = λ rest.
    ⊎_elim (λ p. ⊎_elim (λ q. q.1 refl) (λ q. let a = ap length p.3 in let b = ap length q.1 in omega (arith, a, b)) p.2) (λ p. let e = p.0 in omega (arith, e)) rest

pub returns-clause-any_order : goal.returns-clause-any_order
returns-clause-any_order c = record {
  once = ((λ there. ⊎_elim (λ e. omega (arith, e)) (λ on. none_in_nil 2 on) (first_or_later 2 3 [] there)), ((λ there. none_in_nil 3 there), tt));
  without = λ x there.
      ⊎_elim
      (λ e. (later x 3 (1 ∷ 2 ∷ []) (later x 1 (2 ∷ []) (0, omega arith, e)), λ one. omega (arith, e, one)))
      (λ e. ((0, omega arith, e), λ one. omega (arith, e, one))) (one_of_two x 2 3 there);
  others = λ x there.
      ⊎_elim (λ e. inl (later x 2 (3 ∷ []) (0, omega arith, e)))
      (λ on. ⊎_elim (λ e. inr (omega (arith, e))) (λ e. inl (0, omega arith, e)) (one_of_two x 1 2 on)) (first_or_later x 3 (1 ∷ 2 ∷ []) there);
}

pub returns-clause-twice : goal.returns-clause-twice
returns-clause-twice c = λ rest. rest.once.0 (here 3 [])

pub returns-clause-none : goal.returns-clause-none
returns-clause-none c = λ rest. ⊎_elim (λ there. none_in_nil 3 there) (λ one. omega (arith, one)) (rest.others 3 (later 3 1 (3 ∷ []) (here 3 [])))
