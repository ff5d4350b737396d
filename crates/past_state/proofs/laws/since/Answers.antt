use Rattle.past_state.proofs.Vocabulary.{◌∷◌, [], ◌++◌, satisfied}
use Rattle.past_state.proofs.WindowTraceLemmas.{same_sat, answered, still_stands}
use Rattle.past_state.proofs.laws.since.Goals as goal

pub returns-clause-answers : goal.returns-clause-answers
returns-clause-answers c = λ trace step place interval f g window survivors right past_f past_g later stands tables.
    answered c.windows_stand.ensures.kept c.rows_are_chosen.ensures c.trace_grows.ensures.last trace step interval (satisfied trace f) (satisfied trace g)
    (satisfied (trace ++ step ∷ []) f) (satisfied (trace ++ step ∷ []) g) g window survivors right
    (same_sat c.dependence.ensures.steps trace step f past_f) (same_sat c.dependence.ensures.steps trace step g past_g) later stands tables

pub returns-clause-goes_on : goal.returns-clause-goes_on
returns-clause-goes_on c = λ trace step interval f g window survivors right past_f past_g later stands tables.
    still_stands c.windows_stand.ensures.kept c.rows_are_chosen.ensures c.trace_grows.ensures.last trace step interval (satisfied trace f) (satisfied trace g)
    (satisfied (trace ++ step ∷ []) f) (satisfied (trace ++ step ∷ []) g) g window survivors right
    (same_sat c.dependence.ensures.steps trace step f past_f) (same_sat c.dependence.ensures.steps trace step g past_g) later stands tables
