use Rattle.enforcer_core.proofs.ExistenceLemmas.{something_drains, something_follows}
use Rattle.enforcer_core.proofs.existing.something_is_decided.Goals as goal

pub returns-clause-records : goal.returns-clause-records
returns-clause-records c =
    something_follows c.serving_ends.ensures.counts c.well_formed_can_be_asked.ensures.founded c.well_formed_can_be_asked.ensures.stand c.something_goes_out.ensures.records

pub returns-clause-drain : goal.returns-clause-drain
returns-clause-drain c =
    something_drains c.serving_ends.ensures.counts c.well_formed_can_be_asked.ensures.founded c.well_formed_can_be_asked.ensures.stand c.something_goes_out.ensures.inserts
