-- Rules that are to be asked again, of which one goes.
use Rattle.choice_step.proofs.Vocabulary.{◌≡◌, ◌⊎◌, ℕ, ◌+◌, ◌<◌, ◌≤◌, Bool, true, false, List, [], ◌∷◌, Contains, arith, cond, inl, inr, ⊎_elim, length, refl, sym, subst, eqb-true, first_or_later, later}
use Rattle.choice_step.proofs.Vocabulary.{none_in_nil}
use Rattle.std.specs.List.{filter}
use Rattle.std.specs.Prelude.{nat_eq, not}
use Rattle.choice_step.proofs.Vocabulary.{◌∙◌, eqb-false}
use Rattle.sleepers.proofs.NotedGroupLemmas.{below_next}
use Rattle.choice_step.specs.machine.RootOrder.{PassesRoot}

abbrev without : List ℕ → ℕ → List ℕ
without rules rule = filter (λ other. not (nat_eq other rule)) rules

still_there : (rules : List ℕ) (rule other : ℕ) → Contains rules other → Contains (without rules rule) other ⊎ (other ≡ rule)
still_there [] rule other there = absurd (none_in_nil other there)
still_there (r ∷ rules) rule other there = by (nat_eq r rule) refl (λ on. still_there rules rule other on)
  where
    by : (b : Bool) → nat_eq r rule ≡ b → (Contains rules other → Contains (without rules rule) other ⊎ (other ≡ rule))
        → Contains (cond (not b) (r ∷ without rules rule) (without rules rule)) other ⊎ (other ≡ rule)
    by true is behind =
        ⊎_elim (λ (same : r ≡ other). inr (sym same ∙ eqb-true r rule is)) (λ on. behind on) (first_or_later other r rules there)
    by false is behind =
        ⊎_elim (λ (same : r ≡ other). inl (0, omega arith, same))
        (λ on. ⊎_elim (λ stays. inl (later other r (without rules rule) stays)) (λ same. inr same) (behind on))
        (first_or_later other r rules there)

at_most : (rules : List ℕ) (rule : ℕ) → length (without rules rule) ≤ length rules
at_most [] rule = omega arith
at_most (r ∷ rules) rule = by (nat_eq r rule) (at_most rules rule)
  where
    by : (b : Bool) → length (without rules rule) ≤ length rules → length (cond (not b) (r ∷ without rules rule) (without rules rule)) ≤ length (r ∷ rules)
    by true rest = omega (arith, rest)
    by false rest = omega (arith, rest)

one_fewer : (rules : List ℕ) (rule : ℕ) → Contains rules rule → length (without rules rule) < length rules
one_fewer [] rule there = absurd (none_in_nil rule there)
one_fewer (r ∷ rules) rule there = by (nat_eq r rule) refl (λ on. one_fewer rules rule on)
  where
    by : (b : Bool) → nat_eq r rule ≡ b → (Contains rules rule → length (without rules rule) < length rules)
        → length (cond (not b) (r ∷ without rules rule) (without rules rule)) < length (r ∷ rules)
    by true is fewer = omega (arith, at_most rules rule)
    by false is fewer =
        ⊎_elim (λ (same : r ≡ rule). absurd (eqb-false r rule is same))
        (λ on. let less = fewer on in omega (arith, less)) (first_or_later rule r rules there)

pub passes_again : (rule from : ℕ) (again left : List ℕ) → rule < from → left ≡ filter (λ other. not (nat_eq other rule)) again → PassesRoot rule from again from left
passes_again rule from again left below are = record {
  behind = λ other within. inl within;
  kept = λ other there. ⊎_elim (λ stays. inl (subst (λ l. Contains l other) (sym are) stays)) (λ same. inr same) (still_there again rule other there);
  fewer = λ all within either. ⊎_elim (λ same. absurd (omega (arith, same, below)))
      (λ there. let less = subst (λ l. length l < length again) (sym are) (one_fewer again rule there) in omega (arith, less)) either;
}

pub passes_next : (rule from : ℕ) (again : List ℕ) → rule ≡ from → PassesRoot rule from again (rule + 1) again
passes_next rule from again same = record {
  behind = λ other within. ⊎_elim (λ less. inl (omega (arith, less, same))) (λ at. inr at) (below_next other rule within);
  kept = λ other there. inl there;
  fewer = λ all within either. omega (arith, within, same);
}
