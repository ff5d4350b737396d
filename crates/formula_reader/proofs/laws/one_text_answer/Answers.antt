use Rattle.formula_reader.proofs.TextAnswers.{text_answer_of}
use Rattle.formula_reader.proofs.laws.one_text_answer.Goals as goal

pub returns : goal.returns
returns c = λ entries bytes. text_answer_of entries bytes (c.one_answer.ensures bytes)
