use Rattle.enf_run.proofs.Vocabulary.{◌≡◌, List, ℕ, ap, arith, get_or, refl}
use Rattle.std.specs.Fmt.{digits}
use Rattle.enf_run.proofs.worked_cases.checked.Goals as goal

pub returns-clause-erase : goal.returns-clause-erase
unfolding digits
returns-clause-erase c = refl

pub returns-clause-other : goal.returns-clause-other
unfolding digits
returns-clause-other c = refl

pub returns-clause-order : goal.returns-clause-order
unfolding digits
returns-clause-order c e = let at : 115 ≡ 99 = ap (λ (text : List ℕ). get_or text 25 0) e in omega (arith, at)
