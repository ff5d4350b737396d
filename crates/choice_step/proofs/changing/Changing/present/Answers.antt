use Rattle.choice_step.proofs.Vocabulary.{◌∙◌}
use Rattle.choice_step.proofs.changing.Changing.present.Goals as goal

pub returns : goal.returns
returns c = c.of.ensures.are ∙ c.self.view_is
