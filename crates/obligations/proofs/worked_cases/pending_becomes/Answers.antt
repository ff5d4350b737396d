use Rattle.obligations.proofs.Vocabulary.{rules, [], refl, inr, event_p, cause_literal}
use Rattle.obligations.proofs.worked_cases.pending_becomes.Goals as goal

pub returns-clause-eventually_waits : goal.returns-clause-eventually_waits
returns-clause-eventually_waits c = inr ((λ inside. (cause_literal event_p 1, [], search rules)), refl)

pub returns-clause-until_waits : goal.returns-clause-until_waits
returns-clause-until_waits c = inr ((λ inside. (cause_literal event_p 2, [], search rules)), ([], refl, refl))
