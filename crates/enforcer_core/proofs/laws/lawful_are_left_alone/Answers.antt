use Rattle.enforcer_core.proofs.TransparencyLemmas.{follows_alone, nothing_drains}
use Rattle.enforcer_core.proofs.laws.lawful_are_left_alone.Goals as goal

pub returns-clause-records : goal.returns-clause-records
returns-clause-records c =
    follows_alone c.all_are_justified.ensures.records c.good.ensures.earlier c.good.ensures.longer c.owed_nodes_are_not_lost.ensures.roots
    c.owed_nodes_are_not_lost.ensures.owed c.owed_nodes_are_not_lost.ensures.deadlines

pub returns-clause-drain : goal.returns-clause-drain
returns-clause-drain c =
    nothing_drains c.all_are_justified.ensures.drain c.good.ensures.satisfying c.good.ensures.earlier c.good.ensures.longer c.owed_nodes_are_not_lost.ensures.roots
    c.owed_nodes_are_not_lost.ensures.owed c.owed_nodes_are_not_lost.ensures.deadlines
