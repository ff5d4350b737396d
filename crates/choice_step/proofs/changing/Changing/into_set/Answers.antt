use Rattle.choice_step.proofs.Vocabulary.{◌∙◌}
use Rattle.choice_step.proofs.changing.Changing.into_set.Goals as goal

pub returns : goal.returns
returns c = c.without.ensures ∙ c.self.view_is
