use Rattle.obligations.proofs.Vocabulary.{rules, [], inr, event_p, cause_literal}
use Rattle.obligations.proofs.worked_cases.missing_ahead.Goals as goal

pub returns-clause-until_left : goal.returns-clause-until_left
returns-clause-until_left c = inr ((cause_literal event_p 2, [], search rules), search rules)
