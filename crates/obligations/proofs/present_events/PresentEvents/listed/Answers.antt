use Rattle.obligations.proofs.Vocabulary.{◌∙◌, ap, sym}
use Rattle.enf_data.proofs.RemovalLemmas.{none_gone}
use Rattle.enf_data.specs.machine.EventSets.{without_events}
use Rattle.obligations.proofs.present_events.PresentEvents.listed.Goals as goal

pub returns-then-is_empty : goal.returns-then-is_empty
returns-then-is_empty c =
    let events = c.self.inside.events.now in
    c.as_slice.ensures.events
    ∙ (sym (ap (without_events events) (c.is_empty.ensures.0 c.if-is_empty.true) ∙ none_gone events) ∙ c.self.view_is)
