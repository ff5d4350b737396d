use Rattle.obligations.proofs.Vocabulary.{rules, [], refl, inr, event_p, cause_literal}
use Rattle.obligations.proofs.worked_cases.begun.Goals as goal

pub returns-clause-eventually : goal.returns-clause-eventually
returns-clause-eventually c = inr ((cause_literal event_p 1, [], search rules), refl)

pub returns-clause-until : goal.returns-clause-until
returns-clause-until c = inr ((cause_literal event_p 2, [], search rules), ([], refl, refl))

pub returns-clause-test_fails : goal.returns-clause-test_fails
returns-clause-test_fails c = inr ((λ none. none), inr ((cause_literal event_p 2, [], search rules), refl))
