use Rattle.wake_patterns.proofs.Vocabulary.{[], ◌∷◌, ap, get-empty, narrower, variable_cmp, name_p, name_q, variable_x}
use Rattle.wake_patterns.proofs.CaseLemmas.{of_names}
use Rattle.wake_patterns.proofs.worked_cases.guards.Goals as goal

pub returns-clause-first_that_has_some : goal.returns-clause-first_that_has_some
returns-clause-first_that_has_some c = ap (of_names (name_p ∷ [])) (get-empty variable_cmp variable_x)

pub returns-clause-first_of_two_alike : goal.returns-clause-first_of_two_alike
returns-clause-first_of_two_alike c = ap (λ o. narrower (of_names (name_q ∷ []) o) (of_names (name_p ∷ []) o)) (get-empty variable_cmp variable_x)

pub returns-clause-both : goal.returns-clause-both
returns-clause-both c = ap (of_names (name_p ∷ name_q ∷ [])) (get-empty variable_cmp variable_x)

pub returns-clause-within_exists : goal.returns-clause-within_exists
returns-clause-within_exists c = ap (of_names (name_q ∷ [])) (get-empty variable_cmp variable_x)
