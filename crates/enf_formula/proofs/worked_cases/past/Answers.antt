use Rattle.enf_formula.proofs.Vocabulary.{ℕ, suc, zero, ◌≤◌, [], ◌∷◌, Contains, arith, refl, lit<, lit≤, step_at, IsIn, interval_between, two_steps, event_p, event_q, elapsed}
use Rattle.enf_formula.proofs.Stability.{absent}
use Rattle.enf_formula.proofs.worked_cases.past.Goals as goal

-- no position up to 1 is at most 2 before the second step and has q
no_q_within_2 : (j : ℕ) → j ≤ 1 → IsIn (interval_between 0 2) (elapsed two_steps j 1) → Contains (step_at two_steps j).events event_q → ⊥
no_q_within_2 zero at_most near has = omega arith
no_q_within_2 (suc zero) at_most near has = absent (event_p ∷ []) event_q refl has
no_q_within_2 (suc (suc j)) at_most near has = omega arith

-- p is at each position up to 1 that is at most 2 before the second step
p_within_2 : (j : ℕ) → j ≤ 1 → IsIn (interval_between 0 2) (elapsed two_steps j 1) → (Contains (step_at two_steps j).events event_p → ⊥) → ⊥
p_within_2 zero at_most near lacks = omega arith
p_within_2 (suc zero) at_most near lacks = lacks (0, lit< tt, refl)
p_within_2 (suc (suc j)) at_most near lacks = omega arith

pub returns-clause-once_ends : goal.returns-clause-once_ends
returns-clause-once_ends c = record {
  first = λ none. none (0, lit≤ tt, (lit≤ tt, lit≤ tt), (0, lit< tt, refl), λ k after upto. tt);
  last = λ none. none (0, lit≤ tt, (lit≤ tt, lit≤ tt), (0, lit< tt, refl), λ k after upto. tt);
  before = λ holds. holds (λ some. omega (arith, some.2.0));
  past = λ holds. holds (λ some. no_q_within_2 some.0 some.1 some.2 some.3);
}

pub returns-clause-historically_ends : goal.returns-clause-historically_ends
returns-clause-historically_ends c = record {
  first = λ holds. holds (λ none. none (0, lit≤ tt, (lit≤ tt, lit≤ tt), absent (event_q ∷ []) event_p refl, λ k after upto. tt));
  last = λ holds. holds (λ none. none (0, lit≤ tt, (lit≤ tt, lit≤ tt), absent (event_q ∷ []) event_p refl, λ k after upto. tt));
  before = λ holds. holds (λ some. omega (arith, some.2.0));
  past = λ holds. holds (λ some. p_within_2 some.0 some.1 some.2 some.3);
}

pub returns-clause-historically_one_lacks : goal.returns-clause-historically_one_lacks
returns-clause-historically_one_lacks c =
    λ holds. holds (λ none. none (2, lit≤ tt, (lit≤ tt, lit≤ tt), absent [] event_p refl, λ k after upto. tt))
