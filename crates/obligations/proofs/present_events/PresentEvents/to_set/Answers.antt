use Rattle.obligations.proofs.Vocabulary.{◌∙◌, ap}
use Rattle.enf_data.specs.machine.EventSets.{without_events}
use Rattle.obligations.proofs.present_events.PresentEvents.to_set.Goals as goal

pub returns : goal.returns
returns c =
    c.remove_all.ensures.removed ∙ (ap (λ l. without_events l c.self.inside.gone.now) c.in_ok-set.ensures ∙ c.self.view_is)
