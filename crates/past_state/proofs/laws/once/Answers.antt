use Rattle.past_state.proofs.Vocabulary.{◌∷◌, [], ◌++◌, satisfied, everywhere}
use Rattle.past_state.proofs.WindowTraceLemmas.{same_sat, same_everywhere, answered, still_stands, denied}
use Rattle.past_state.proofs.laws.once.Goals as goal

pub returns-clause-answers : goal.returns-clause-answers
returns-clause-answers c = λ trace step place interval g window survivors right past later stands tables.
    answered c.windows_stand.ensures.kept c.rows_are_chosen.ensures c.trace_grows.ensures.last trace step interval everywhere (satisfied trace g) everywhere
    (satisfied (trace ++ step ∷ []) g) g window survivors right
    (λ v. same_everywhere trace) (same_sat c.dependence.ensures.steps trace step g past) later stands tables

pub returns-clause-goes_on : goal.returns-clause-goes_on
returns-clause-goes_on c = λ trace step interval g window survivors right past later stands tables.
    still_stands c.windows_stand.ensures.kept c.rows_are_chosen.ensures c.trace_grows.ensures.last trace step interval everywhere (satisfied trace g) everywhere
    (satisfied (trace ++ step ∷ []) g) g window survivors right
    (λ v. same_everywhere trace) (same_sat c.dependence.ensures.steps trace step g past) later stands tables

pub returns-clause-denied : goal.returns-clause-denied
returns-clause-denied c = denied c.is_classical.ensures
