use Rattle.enforcer_core.proofs.ExistenceLemmas.{just_one_follows, just_one_follows_policy, just_one_follows_to_end}
use Rattle.enforcer_core.proofs.existing.just_one_follows.Goals as goal

pub returns-clause-plans : goal.returns-clause-plans
returns-clause-plans c = just_one_follows c.something_is_decided.ensures.records c.follows_is_one.ensures.records

pub returns-clause-policy : goal.returns-clause-policy
returns-clause-policy c =
    just_one_follows_policy c.policy_has_one_answer.ensures.plans (just_one_follows c.something_is_decided.ensures.records c.follows_is_one.ensures.records)

pub returns-clause-to_end : goal.returns-clause-to_end
returns-clause-to_end c =
    just_one_follows_to_end c.policy_has_one_answer.ensures.plans c.something_is_decided.ensures.records
    c.something_is_decided.ensures.drain c.follows_is_one.ensures.records c.follows_is_one.ensures.drain
