use Rattle.definitions.proofs.DefinitionTruth.{rules_hold_alike}
use Rattle.definitions.proofs.laws.rules.Goals as goal

pub returns : goal.returns
returns c = rules_hold_alike
