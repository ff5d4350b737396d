use Rattle.std.proofs.Common.{◌≡◌, map, take}
use Rattle.count_guard.proofs.Vocabulary.{substitution_of, term_given}
use Rattle.count_guard.proofs.substitution.Given.terms.Given as goal

abbrev pub invariant-loop-term : goal.invariant-loop-term
invariant-loop-term l = l.copies.items ≡ map (term_given (substitution_of l.self)) (take l.term-index l.terms)
