use Rattle.wake_patterns.proofs.Vocabulary.{[], refl, here, event_q_of, value_one}
use Rattle.wake_patterns.proofs.worked_cases.patterns.Goals as goal

pub returns-clause-one_there : goal.returns-clause-one_there
returns-clause-one_there c none = none.1.0 (event_q_of value_one) (here (event_q_of value_one) []) (record { name = refl; args = (refl, tt) })
