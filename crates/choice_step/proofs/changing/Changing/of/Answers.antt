use Rattle.choice_step.proofs.Vocabulary.{◌∙◌, ap, without_events}
use Rattle.enf_data.proofs.RemovalLemmas.{none_gone}
use Rattle.choice_step.proofs.changing.Changing.of.Goals as goal

pub returns : goal.returns
returns c = ap (without_events c.args.events) c.new.ensures ∙ none_gone c.args.events
