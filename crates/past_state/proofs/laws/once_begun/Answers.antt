use Rattle.past_state.proofs.BegunLemmas.{begun_answers, begun_stands}
use Rattle.past_state.proofs.laws.once_begun.Goals as goal

pub returns-clause-answers : goal.returns-clause-answers
returns-clause-answers c = λ trace step place interval g begun window survivors right past later endless begins stands tables.
    begun_answers c.windows_stand.ensures.kept c.rows_are_chosen.ensures c.trace_grows.ensures.last c.dependence.ensures.steps trace step interval g begun window survivors right past later
    endless begins stands tables

pub returns-clause-goes_on : goal.returns-clause-goes_on
returns-clause-goes_on c = λ trace step interval g begun window survivors right past later endless begins stands tables.
    begun_stands c.windows_stand.ensures.kept c.rows_are_chosen.ensures c.trace_grows.ensures.last c.dependence.ensures.steps trace step interval g begun window survivors right past later
    endless begins stands tables
