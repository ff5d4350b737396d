use Rattle.obligations.proofs.TriggeredNodeLemmas.{begun_is_named, begun_is_reached, missed_is_reached, reached_is_inside}
use Rattle.obligations.proofs.laws.steps_reach.Goals as goal

pub returns-clause-missed : goal.returns-clause-missed
returns-clause-missed c = missed_is_reached c.triggers_are_met.ensures

pub returns-clause-begun : goal.returns-clause-begun
returns-clause-begun c = begun_is_reached c.triggers_are_met.ensures

pub returns-clause-inside : goal.returns-clause-inside
returns-clause-inside c = reached_is_inside

pub returns-clause-named : goal.returns-clause-named
returns-clause-named c = begun_is_named
