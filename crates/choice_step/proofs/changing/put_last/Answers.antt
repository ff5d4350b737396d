use Rattle.choice_step.proofs.changing.put_last.Goals as goal

pub returns-clause-put : goal.returns-clause-put
returns-clause-put c = (c.in-Ok._is_new, c.in-Ok.ensures.inserted)
