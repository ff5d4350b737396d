use Rattle.choice_step.proofs.InsertionLemmas.{some_follows, some_inserts}
use Rattle.choice_step.proofs.laws.something_goes_out.Goals as goal

pub returns-clause-inserts : goal.returns-clause-inserts
returns-clause-inserts c =
    some_inserts c.pending_exists.ensures.pending c.pending_can_be_asked.ensures.pending c.some_decision.ensures.some

pub returns-clause-records : goal.returns-clause-records
returns-clause-records c =
    some_follows c.pending_exists.ensures.pending c.pending_can_be_asked.ensures.pending c.some_decision.ensures.some
