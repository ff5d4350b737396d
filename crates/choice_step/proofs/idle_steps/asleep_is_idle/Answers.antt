use Rattle.choice_step.proofs.IdleStepLemmas.{changes_nothing, come_of_themselves, decides_nothing}
use Rattle.choice_step.proofs.idle_steps.asleep_is_idle.Goals as goal

pub returns-clause-decides : goal.returns-clause-decides
returns-clause-decides c guards plans trace inserted time events pending all =
    decides_nothing guards plans inserted time events pending all c.pending_exists.ensures.missing c.sleepers_stay.ensures.misses_nothing c.sleepers_stay.ensures.early_misses_nothing
    c.unwoken_is_idle.ensures.missed trace

pub returns-clause-goes : goal.returns-clause-goes
returns-clause-goes c guards plans trace inserted time events pending all =
    changes_nothing guards plans inserted time events pending all c.pending_exists.ensures.after c.sleepers_stay.ensures.stays c.sleepers_stay.ensures.early_stays c.unwoken_is_idle.ensures.begun trace

pub returns-clause-leads : goal.returns-clause-leads
returns-clause-leads c guards plans inserted time position events pending all = come_of_themselves guards plans inserted time events pending all position
