use Rattle.monitorable_guard.proofs.Vocabulary.{sym, subst}
use Rattle.enf_data.specs.machine.EventSets.{AreRisingEvents}
use Rattle.monitorable_guard.proofs.events.StepEvents.of.Goals as goal

pub in_order-requires : goal.in_order-requires
in_order-requires c = λ told. subst AreRisingEvents (sym c.as_slice.ensures.events) (c.rises.ensures told)
