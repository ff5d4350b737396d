use Rattle.enforce_types.proofs.Vocabulary.{Up, Down}
use Rattle.enforce_types.proofs.PlanMeaning.{kept}
use Rattle.enforce_types.proofs.laws.plans_keep_meaning.Goals as goal

pub returns-clause-up : goal.returns-clause-up
returns-clause-up c cause suppress f scope plan made = kept c.is_classical.ensures cause suppress Up f scope plan made

pub returns-clause-down : goal.returns-clause-down
returns-clause-down c cause suppress f scope plan made = kept c.is_classical.ensures cause suppress Down f scope plan made
