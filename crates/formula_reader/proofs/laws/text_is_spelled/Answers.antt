use Rattle.formula_reader.proofs.PrintedPieces.{printed-rule}
use Rattle.formula_reader.proofs.laws.text_is_spelled.Goals as goal

pub returns : goal.returns
returns c = λ entries rule. printed-rule entries rule
