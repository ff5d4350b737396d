use Rattle.obligations.proofs.Vocabulary.{rules, [], ◌∷◌, refl, inr, event_p, event_q, cause_literal, suppress_literal}
use Rattle.obligations.proofs.worked_cases.missing_now.Goals as goal

pub returns-clause-both : goal.returns-clause-both
returns-clause-both c = (cause_literal event_p 1 ∷ [], suppress_literal event_q 2 ∷ [], search rules, search rules, refl)

pub returns-clause-no_side_holds : goal.returns-clause-no_side_holds
returns-clause-no_side_holds c =
    inr (inr ((cause_literal event_p 1, [], search rules), (suppress_literal event_q 2, [], search rules), search rules))
