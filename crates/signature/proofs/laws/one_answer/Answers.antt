use Rattle.signature.proofs.Vocabulary.{[], length, signature_tokens}
use Rattle.signature.proofs.Answering.{answer_from, answer_of, answer_to, only_answer, reader_answers, start_on}
use Rattle.signature.specs.declared.reading.Part.TheVariants as parts
use Rattle.signature.proofs.laws.one_answer.Goals as goal

pub returns : goal.returns
returns c bytes =
    let answer = answer_from (length bytes) [] parts.Nothing (signature_tokens bytes) in (
      answer,
      answer_to bytes answer (reader_answers (length bytes) [] [] parts.Nothing (signature_tokens bytes) start_on),
      λ other is. only_answer (length bytes) [] [] parts.Nothing (signature_tokens bytes) other start_on (answer_of bytes other is),
    )
