use Rattle.enf_data.proofs.Vocabulary.{IsUtf8-from_ascii}
use Rattle.enf_data.proofs.texts.is_utf8.Goals as goal

pub returns-then-is_ascii : goal.returns-then-is_ascii
returns-then-is_ascii c =
    (λ ascii. IsUtf8-from_ascii c.args.bytes.now c.if-is_ascii.ensures.cases, λ utf8. c.if-is_ascii.true)
