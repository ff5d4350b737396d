use Rattle.formula_reader.proofs.WrittenBack.{rule_written}
use Rattle.formula_reader.proofs.laws.rule_is_written_back.Goals as goal

pub returns : goal.returns
returns c = λ entries rule resolved e. rule_written entries rule resolved e
