use Rattle.enf_formula.proofs.Vocabulary.{ℕ, suc, zero, ◌≤◌, ◌<◌, [], ◌∷◌, Contains, arith, refl, lit<, lit≤, step_at, IsIn, interval_between, two_steps, broken_before, event_p, event_q, elapsed}
use Rattle.enf_formula.proofs.Stability.{absent}
use Rattle.enf_formula.proofs.worked_cases.future.Goals as goal

-- no position is 4 or more after the first step
none_from_4 : (j : ℕ) → j < 2 → IsIn (interval_between 4 6) (elapsed two_steps 0 j) → ⊥
none_from_4 zero below far = omega arith
none_from_4 (suc zero) below far = omega arith
none_from_4 (suc (suc j)) below far = omega arith

-- no position that is at most 2 after the first step has p
no_p_within_2 : (j : ℕ) → j < 2 → IsIn (interval_between 0 2) (elapsed two_steps 0 j) → Contains (step_at two_steps j).events event_p → ⊥
no_p_within_2 zero below near has = absent (event_q ∷ []) event_p refl has
no_p_within_2 (suc zero) below near has = omega arith
no_p_within_2 (suc (suc j)) below near has = omega arith

-- q is at each position that is at most 2 after the first step
q_within_2 : (j : ℕ) → j < 2 → IsIn (interval_between 0 2) (elapsed two_steps 0 j) → (Contains (step_at two_steps j).events event_q → ⊥) → ⊥
q_within_2 zero below near lacks = lacks (0, lit< tt, refl)
q_within_2 (suc zero) below near lacks = omega arith
q_within_2 (suc (suc j)) below near lacks = omega arith

-- q is at the last position alone, and p is not at each one before it from position 1 on
q_after_a_gap : (i : ℕ) → i ≤ 1 → (j : ℕ) → j < 4 → Contains (step_at broken_before j).events event_q → ((k : ℕ) → i ≤ k → k < j → Contains (step_at broken_before k).events event_p) → ⊥
q_after_a_gap i early zero below has each = absent (event_p ∷ []) event_q refl has
q_after_a_gap i early (suc zero) below has each = absent [] event_q refl has
q_after_a_gap i early (suc (suc zero)) below has each = absent (event_p ∷ []) event_q refl has
q_after_a_gap i early (suc (suc (suc zero))) below has each = absent [] event_p refl (each 1 early (lit< tt))
q_after_a_gap i early (suc (suc (suc (suc j)))) below has each = omega arith

pub returns-clause-eventually_ends : goal.returns-clause-eventually_ends
returns-clause-eventually_ends c = record {
  first = λ none. none (1, lit≤ tt, lit< tt, (lit≤ tt, lit≤ tt), (0, lit< tt, refl), λ k from before. tt);
  last = λ none. none (1, lit≤ tt, lit< tt, (lit≤ tt, lit≤ tt), (0, lit< tt, refl), λ k from before. tt);
  before = λ holds. holds (λ some. none_from_4 some.0 some.2 some.3);
  past = λ holds. holds (λ some. no_p_within_2 some.0 some.2 some.3 some.4);
}

pub returns-clause-always_ends : goal.returns-clause-always_ends
returns-clause-always_ends c = record {
  first = λ holds. holds (λ none. none (1, lit≤ tt, lit< tt, (lit≤ tt, lit≤ tt), absent (event_p ∷ []) event_q refl, λ k from before. tt));
  last = λ holds. holds (λ none. none (1, lit≤ tt, lit< tt, (lit≤ tt, lit≤ tt), absent (event_p ∷ []) event_q refl, λ k from before. tt));
  before = λ holds. holds (λ some. none_from_4 some.0 some.2 some.3);
  past = λ holds. holds (λ some. q_within_2 some.0 some.2 some.3 some.4);
}

pub returns-clause-until_broken_once : goal.returns-clause-until_broken_once
returns-clause-until_broken_once c = λ holds. holds (λ some. q_after_a_gap 0 (lit≤ tt) some.0 some.2 some.4 some.5)

pub returns-clause-until_broken_now : goal.returns-clause-until_broken_now
returns-clause-until_broken_now c = λ holds. holds (λ some. q_after_a_gap 1 (lit≤ tt) some.0 some.2 some.4 some.5)

pub returns-clause-always_one_lacks : goal.returns-clause-always_one_lacks
returns-clause-always_one_lacks c =
    λ holds. holds (λ none. none (1, lit≤ tt, lit< tt, (lit≤ tt, lit≤ tt), absent [] event_p refl, λ k from before. tt))
