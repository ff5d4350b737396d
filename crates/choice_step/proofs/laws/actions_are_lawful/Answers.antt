use Rattle.choice_step.proofs.ActionChainLemmas.{actions_are_lawful, causes_are_alone, events_are_acted_on_once}
use Rattle.choice_step.proofs.laws.actions_are_lawful.Goals as goal

pub returns-clause-changes : goal.returns-clause-changes
returns-clause-changes c = actions_are_lawful

pub returns-clause-once : goal.returns-clause-once
returns-clause-once c = events_are_acted_on_once

pub returns-clause-causes_alone : goal.returns-clause-causes_alone
returns-clause-causes_alone c = causes_are_alone
