use Rattle.choice_step.proofs.Vocabulary.{ap, sym, without_events, ◌∙◌}
use Rattle.enf_data.proofs.RemovalLemmas.{none_gone}
use Rattle.choice_step.proofs.changing.without.Goals as goal

pub returns-then-is_empty : goal.returns-then-is_empty
returns-then-is_empty c = sym (ap (without_events c.args.events) (c.is_empty.ensures.0 c.if-is_empty.true) ∙ none_gone c.args.events)

pub returns : goal.returns
returns c = c.remove_all.ensures.removed
