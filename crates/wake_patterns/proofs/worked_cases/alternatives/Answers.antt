use Rattle.wake_patterns.proofs.Vocabulary.{[], ◌∷◌, Some, ap, map, no_values, narrower, value_at-insert, variable_x, value_one, name_p, name_q, patterns_of_one, p_alone}
use Rattle.wake_patterns.proofs.CaseLemmas.{of_names}
use Rattle.wake_patterns.proofs.worked_cases.alternatives.Goals as goal

pub returns-clause-beside_a_narrower_one : goal.returns-clause-beside_a_narrower_one
returns-clause-beside_a_narrower_one c = ap (λ o. narrower (Some (p_alone ∷ [])) (of_names (name_q ∷ []) o)) (value_at-insert no_values variable_x value_one variable_x)
