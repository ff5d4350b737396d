use Rattle.formula_reader.proofs.RulesExist.{one_answer_of}
use Rattle.formula_reader.proofs.laws.one_answer.Goals as goal

pub returns : goal.returns
returns c = λ entries rules. one_answer_of entries rules
