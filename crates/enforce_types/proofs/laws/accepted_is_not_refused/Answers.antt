use Rattle.enforce_types.proofs.AcceptedLemmas.{not_refused_too}
use Rattle.enforce_types.proofs.laws.accepted_is_not_refused.Goals as goal

pub returns : goal.returns
returns c = not_refused_too c.plans_have_one_answer.ensures.accepted
