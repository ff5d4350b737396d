use Rattle.enf_formula.proofs.Vocabulary.{with_values}
use Rattle.enf_formula.proofs.Stability.{Sat_stable}
use Rattle.enf_formula.proofs.laws.connectives.Goals as goal

pub returns-clause-implies : goal.returns-clause-implies
returns-clause-implies c p f g trace i v = (
  λ implies holds fails. holds (λ left. fails (implies left)),
  λ either left. Sat_stable trace i v g (λ fails. either (λ denied. denied left) fails),
)

pub returns-clause-forall : goal.returns-clause-forall
returns-clause-forall c p xs f trace i v = (
  λ each some. some (λ found. found.2 (each found.0 found.1)),
  λ none values same_length. Sat_stable trace i (with_values xs values v) f (λ fails. none (λ denied. denied (values, same_length, fails))),
)

pub returns-clause-not_not : goal.returns-clause-not_not
returns-clause-not_not c p f trace i v = (Sat_stable trace i v f, λ holds denied. denied holds)
