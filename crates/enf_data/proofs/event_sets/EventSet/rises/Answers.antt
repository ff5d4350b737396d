use Rattle.enf_data.proofs.Vocabulary.{AreRisingEvents, ap, subst, sym, ◌∙◌}
use Rattle.enf_data.specs.machine.StoredEvents.{RiseAsSaid, stored_events}
use Rattle.enf_data.proofs.event_sets.EventSet.rises.Goals as goal

pub returns-in-Rising : goal.returns-in-Rising
returns-in-Rising c = λ told. subst AreRisingEvents (sym (ap stored_events c.in-Rising.is) ∙ c.self.view_is) (subst RiseAsSaid c.in-Rising.is c.self.invariant.1)
