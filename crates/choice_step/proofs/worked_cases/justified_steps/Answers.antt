use Rattle.choice_step.proofs.Vocabulary.{[], ◌∷◌, refl, event_p}
use Rattle.choice_step.proofs.worked_cases.justified_steps.Goals as goal

pub returns-clause-for_its_rule : goal.returns-clause-for_its_rule
returns-clause-for_its_rule c = ((c.justified_at_once.ensures.absent, (event_p ∷ [], refl, tt)), refl)

pub returns-clause-for_another_rule : goal.returns-clause-for_another_rule
returns-clause-for_another_rule c all = c.justified_at_once.ensures.another_rule all.0.0

pub returns-clause-unchanged : goal.returns-clause-unchanged
returns-clause-unchanged c = (tt, refl)

pub returns-clause-no_record : goal.returns-clause-no_record
returns-clause-no_record c all = all

pub returns-clause-no_step : goal.returns-clause-no_step
returns-clause-no_step c left = cc

pub returns-clause-at_the_deadline : goal.returns-clause-at_the_deadline
returns-clause-at_the_deadline c = (c.needed.ensures.at_the_deadline, (c.justified_later.ensures.at_the_deadline, (event_p ∷ [], refl, tt)), refl)

pub returns-clause-needless : goal.returns-clause-needless
returns-clause-needless c all = c.needed.ensures.before_it all.0
