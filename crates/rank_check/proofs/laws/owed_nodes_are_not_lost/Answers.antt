use Rattle.rank_check.proofs.NotLostLemmas.{deadlines_are_not_lost, owed_nodes_are_not_lost, roots_are_not_lost}
use Rattle.rank_check.proofs.laws.owed_nodes_are_not_lost.Goals as goal

pub returns-clause-roots : goal.returns-clause-roots
returns-clause-roots c = roots_are_not_lost c.number_is_place.ensures c.owed_nodes_hold.ensures.roots

pub returns-clause-owed : goal.returns-clause-owed
returns-clause-owed c = owed_nodes_are_not_lost c.nodes_stand_in_plans.ensures.plans c.owed_nodes_hold.ensures.owed

pub returns-clause-deadlines : goal.returns-clause-deadlines
returns-clause-deadlines c = deadlines_are_not_lost c.nodes_stand_in_plans.ensures.plans c.owed_nodes_hold.ensures.owed
