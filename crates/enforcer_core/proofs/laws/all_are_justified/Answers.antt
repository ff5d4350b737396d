use Rattle.enforcer_core.proofs.JustificationLemmas.{drain_is_justified, follows_is_justified}
use Rattle.enforcer_core.proofs.laws.all_are_justified.Goals as goal

pub returns-clause-records : goal.returns-clause-records
returns-clause-records c =
    follows_is_justified c.step_laws.ensures c.pending_was_begun.ensures.came c.some_decision.ensures.distinct
    c.actions_are_justified.ensures.actions c.actions_are_justified.ensures.steps

pub returns-clause-drain : goal.returns-clause-drain
returns-clause-drain c =
    drain_is_justified c.step_laws.ensures c.pending_was_begun.ensures.came c.some_decision.ensures.distinct
    c.actions_are_justified.ensures.actions c.actions_are_justified.ensures.steps
