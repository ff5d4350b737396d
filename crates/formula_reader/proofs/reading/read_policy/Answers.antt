use Rattle.formula_reader.proofs.Vocabulary.{policy_answer_of}
use Rattle.formula_reader.proofs.TextAnswers.{refusal_passed, text_good_of, text_gives}
use Rattle.formula_reader.proofs.reading.read_policy.Goals as goal

pub returns-in_err-syntax-clause-answer : goal.returns-in_err-syntax-clause-answer
returns-in_err-syntax-clause-answer c =
    refusal_passed _ _ c.in_err-syntax.field-0.0 c.from_residual.result c.from_residual.ensures.1 c.in_err-syntax.ensures.answer

pub returns-clause-answer : goal.returns-clause-answer
returns-clause-answer c = text_gives _ _ _ (policy_answer_of c.resolve.result) c.in_ok-syntax.ensures.answer c.resolve.ensures.answer

pub returns-clause-policy : goal.returns-clause-policy
returns-clause-policy c = text_good_of c.read_is_well_formed.ensures _ _ _ c.resolve.result c.in_ok-syntax.ensures.answer c.resolve.ensures.answer
