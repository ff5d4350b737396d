use Rattle.choice_step.proofs.Vocabulary.{refl, inl, inr, lit<, arith, ⊎_elim}
use Rattle.choice_step.proofs.worked_cases.lower_numbers.Goals as goal

pub returns-clause-first : goal.returns-clause-first
returns-clause-first c = inl (lit< tt)

pub returns-clause-behind : goal.returns-clause-behind
returns-clause-behind c = inr (refl, inl (lit< tt))

pub returns-clause-not_above : goal.returns-clause-not_above
returns-clause-not_above c falls = ⊎_elim (λ less. omega (arith, less)) (λ same. let first = same.0 in omega (arith, first)) falls

pub returns-clause-not_the_same : goal.returns-clause-not_the_same
returns-clause-not_the_same c falls = ⊎_elim
    (λ less. omega (arith, less))
    (λ same. ⊎_elim (λ less. omega (arith, less)) (λ others. others.1) same.1)
    falls
