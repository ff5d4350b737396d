use Rattle.wake_patterns.proofs.Vocabulary.{[], ◌∷◌, ap, get-empty, no_values, variable_cmp, value_at-insert, name_p, name_q, variable_x, value_one}
use Rattle.wake_patterns.proofs.CaseLemmas.{of_names}
use Rattle.wake_patterns.proofs.worked_cases.wakings.Goals as goal

pub returns-clause-bound : goal.returns-clause-bound
returns-clause-bound c = ap (of_names (name_q ∷ [])) (value_at-insert no_values variable_x value_one variable_x)

pub returns-clause-not_bound : goal.returns-clause-not_bound
returns-clause-not_bound c = ap (of_names (name_q ∷ [])) (get-empty variable_cmp variable_x)

pub returns-clause-guard : goal.returns-clause-guard
returns-clause-guard c = ap (of_names (name_p ∷ [])) (get-empty variable_cmp variable_x)
