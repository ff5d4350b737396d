use Rattle.enf_run.proofs.Vocabulary.{List, ℕ, [], ap, arith, codes, get_or, inl, inr, refl, AreNumberedLines}
use Rattle.std.specs.Fmt.{digits}
use Rattle.enf_run.proofs.worked_cases.numbered.Goals as goal

pub returns-clause-whole : goal.returns-clause-whole
unfolding digits
returns-clause-whole c = inl (codes "too long\n", refl, refl)

pub returns-clause-within_the_words : goal.returns-clause-within_the_words
unfolding digits
returns-clause-within_the_words c = inl (codes "too", refl, refl)

pub returns-clause-in_front_of_them : goal.returns-clause-in_front_of_them
unfolding digits
returns-clause-in_front_of_them c = inr (omega arith, refl)

by_number : AreNumberedLines 2 1 (codes "record 1: too long\n") (codes "record 1: too long\n") → ⊥
unfolding digits
by_number (inl (words, is, also)) = omega (arith, ap (λ (l : List ℕ). get_or l 7 0) also)
by_number (inr (short, none)) = omega (arith, short)

by_length : AreNumberedLines 2 1 (codes "record 1: too long\n") [] → ⊥
unfolding digits
by_length (inl (words, is, also)) = omega (arith, ap (λ (l : List ℕ). get_or l 7 0) also)
by_length (inr (short, none)) = omega (arith, short)

pub returns-clause-not_as_it_was : goal.returns-clause-not_as_it_was
returns-clause-not_as_it_was c = by_number

pub returns-clause-not_left_out : goal.returns-clause-not_left_out
returns-clause-not_left_out c = by_length
