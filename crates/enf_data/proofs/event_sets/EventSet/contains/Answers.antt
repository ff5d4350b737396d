use Rattle.enf_data.proofs.Vocabulary.{AreRisingEvents, subst, sym}
use Rattle.enf_data.specs.machine.StoredEvents.{RiseAsSaid}
use Rattle.enf_data.proofs.event_sets.EventSet.contains.Goals as goal

pub is_among_rising-requires : goal.is_among_rising-requires
is_among_rising-requires c = subst AreRisingEvents (sym c.as_slice-in-Rising.ensures.value) (subst RiseAsSaid c.in-Rising.is c.self.invariant.1)
