use Rattle.enforce_types.proofs.OneAnswer.{one}
use Rattle.enforce_types.proofs.laws.has_one_answer.Goals as goal

pub returns : goal.returns
returns c = one
