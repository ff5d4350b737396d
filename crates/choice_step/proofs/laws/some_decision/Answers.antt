use Rattle.choice_step.proofs.UniquenessLemmas.{decided_is_distinct}
use Rattle.choice_step.proofs.ExistenceLemmas.{some_decision}
use Rattle.choice_step.proofs.laws.some_decision.Goals as goal

pub returns-clause-some : goal.returns-clause-some
returns-clause-some c =
    some_decision c.missing_exists.ensures.missing c.pending_exists.ensures.missing c.missed_are_own.ensures.plans c.missed_are_own.ensures.instances

pub returns-clause-distinct : goal.returns-clause-distinct
returns-clause-distinct c = decided_is_distinct
