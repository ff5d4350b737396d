use Rattle.obligations.proofs.Vocabulary.{Contains, sym, subst}
use Rattle.enf_data.proofs.RemovalLemmas.{left_is}
use Rattle.obligations.proofs.present_events.PresentEvents.all.Goals as goal

pub returns : goal.returns
returns c event there =
    subst (λ l. Contains l event) (sym c.as_slice.ensures.events)
    ((left_is c.self.inside.events.now c.self.inside.gone.now event).0 (subst (λ l. Contains l event) (sym c.self.view_is) there)).0
