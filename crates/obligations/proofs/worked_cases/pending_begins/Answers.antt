use Rattle.obligations.proofs.Vocabulary.{rules, [], ◌∷◌, refl, inr, event_p, begun_then, cause_literal}
use Rattle.obligations.proofs.worked_cases.pending_begins.Goals as goal

pub returns-clause-until_waits : goal.returns-clause-until_waits
returns-clause-until_waits c = inr ((λ inside. (cause_literal event_p 3, [], search rules)), (begun_then 1 4 14 ∷ [], refl, refl))
