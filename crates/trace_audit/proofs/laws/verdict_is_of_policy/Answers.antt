use Rattle.trace_audit.proofs.LawLemmas.{verdict_is_of_policy}
use Rattle.trace_audit.proofs.laws.verdict_is_of_policy.Goals as goal

pub returns : goal.returns
returns c = verdict_is_of_policy c.policy_plans_keep_meaning.ensures.meaning
