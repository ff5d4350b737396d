use Rattle.enf_run.proofs.Vocabulary.{refl}
use Rattle.std.specs.Fmt.{digits}
use Rattle.enf_run.proofs.worked_cases.drilled.Goals as goal

pub returns : goal.returns
unfolding digits
returns c = refl
