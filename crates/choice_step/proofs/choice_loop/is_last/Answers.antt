use Rattle.choice_step.proofs.Vocabulary.{◌∙◌}
use Rattle.choice_step.proofs.choice_loop.is_last.Goals as goal

pub next_awake-requires : goal.next_awake-requires
next_awake-requires c = record { same = c.as_slice-all.ensures.events ∙ c.set.ensures }
