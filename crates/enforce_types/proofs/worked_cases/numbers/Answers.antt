use Rattle.enforce_types.proofs.Vocabulary.{refl}
use Rattle.enforce_types.proofs.worked_cases.numbers.Goals as goal

pub returns-clause-listed : goal.returns-clause-listed
returns-clause-listed c = (refl, (refl, tt))
