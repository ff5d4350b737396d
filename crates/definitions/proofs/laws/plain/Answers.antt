use Rattle.definitions.proofs.PlainTruth.{plain_formulas}
use Rattle.definitions.proofs.laws.plain.Goals as goal

pub returns : goal.returns
returns c = plain_formulas
