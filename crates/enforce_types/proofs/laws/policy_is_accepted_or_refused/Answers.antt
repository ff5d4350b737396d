use Rattle.enforce_types.proofs.AcceptedLemmas.{accepted_or_refused, refused_once}
use Rattle.enforce_types.proofs.laws.policy_is_accepted_or_refused.Goals as goal

pub returns : goal.returns
returns c = record {
  answered = accepted_or_refused c.plans_have_one_answer.ensures.answered;
  once = refused_once c.plans_have_one_answer.ensures.one;
}
