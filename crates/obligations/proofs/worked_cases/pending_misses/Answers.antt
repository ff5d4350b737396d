use Rattle.obligations.proofs.Vocabulary.{rules, [], inr, event_p, cause_literal}
use Rattle.obligations.proofs.worked_cases.pending_misses.Goals as goal

pub returns-clause-until_left : goal.returns-clause-until_left
returns-clause-until_left c = inr ((λ inside. (cause_literal event_p 2, [], search rules)), search rules)

pub returns-clause-until_forced : goal.returns-clause-until_forced
returns-clause-until_forced c = inr ((λ inside. (cause_literal event_p 2, [], search rules)), search rules)

pub returns-clause-until_not_forced : goal.returns-clause-until_not_forced
returns-clause-until_not_forced c = inr ((λ inside. (cause_literal event_p 2, [], search rules)), search rules)

pub returns-clause-until_forced_right_alone : goal.returns-clause-until_forced_right_alone
returns-clause-until_forced_right_alone c = inr ((λ inside. (cause_literal event_p 2, [], search rules)), search rules)
