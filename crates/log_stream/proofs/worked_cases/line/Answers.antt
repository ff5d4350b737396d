use Rattle.log_stream.proofs.Vocabulary.{arith, refl, decimal_digit}
use Rattle.log_stream.proofs.worked_cases.line.Goals as goal

pub returns : goal.returns
returns c = rw (decimal_digit 7 (omega arith), decimal_digit 5 (omega arith)) refl
