use Rattle.obligations.proofs.Vocabulary.{◌∙◌, ap}
use Rattle.enf_data.proofs.RemovalLemmas.{none_gone}
use Rattle.enf_data.specs.machine.EventSets.{without_events}
use Rattle.obligations.proofs.present_events.PresentEvents.of.Goals as goal

pub returns-clause-all : goal.returns-clause-all
returns-clause-all c none = ap (without_events c.args.events.now) none ∙ none_gone c.args.events.now
