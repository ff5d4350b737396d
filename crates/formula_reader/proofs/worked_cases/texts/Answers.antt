use Rattle.formula_reader.proofs.Vocabulary.{refl}
use Rattle.std.specs.Fmt.{digits}
use Rattle.formula_reader.proofs.worked_cases.texts.Goals as goal

pub returns-clause-comparison : goal.returns-clause-comparison
unfolding digits
returns-clause-comparison c = refl

pub returns-clause-timed : goal.returns-clause-timed
unfolding digits
returns-clause-timed c = refl

pub returns-clause-timed_for_ever : goal.returns-clause-timed_for_ever
unfolding digits
returns-clause-timed_for_ever c = refl
