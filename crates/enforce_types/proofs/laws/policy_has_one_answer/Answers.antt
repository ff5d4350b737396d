use Rattle.enforce_types.proofs.PolicyLemmas.{answered, not_both, one_plans, one_refusal}
use Rattle.enforce_types.proofs.laws.policy_has_one_answer.Goals as goal

pub returns : goal.returns
returns c = record { answered = answered; not_both = not_both; plans = one_plans; refusal = one_refusal }
