use Rattle.plan_terms.proofs.Vocabulary.{arith}
use Rattle.plan_terms.proofs.worked_cases.names_of_guards.Goals as goal

pub returns-clause-below : goal.returns-clause-below
returns-clause-below c = (omega arith, tt)

pub returns-clause-not_below : goal.returns-clause-not_below
returns-clause-not_below c = λ below. omega (arith, below.0)
