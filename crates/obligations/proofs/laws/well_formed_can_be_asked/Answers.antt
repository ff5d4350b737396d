use Rattle.obligations.proofs.WellFormedLemmas.{can_be_asked, well_formed_can_be_asked, well_formed_stand}
use Rattle.obligations.proofs.laws.well_formed_can_be_asked.Goals as goal

pub returns-clause-founded : goal.returns-clause-founded
returns-clause-founded c = well_formed_can_be_asked

pub returns-clause-asked : goal.returns-clause-asked
returns-clause-asked c = can_be_asked

pub returns-clause-stand : goal.returns-clause-stand
returns-clause-stand c = well_formed_stand c.nodes_stand_in_plans.ensures.plans
