use Rattle.rank_check.proofs.OwedLemmas.{owed_nodes_hold, roots_hold}
use Rattle.rank_check.proofs.laws.owed_nodes_hold.Goals as goal

pub returns-clause-roots : goal.returns-clause-roots
returns-clause-roots c = roots_hold

pub returns-clause-owed : goal.returns-clause-owed
returns-clause-owed c = owed_nodes_hold c.is_classical.ensures c.owed_stays_owed.ensures.owed
