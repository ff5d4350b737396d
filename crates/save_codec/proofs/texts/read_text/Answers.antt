-- The lines are counted after the head.
use Rattle.save_codec.proofs.Vocabulary.{err_from_is_err_and}
use Rattle.save_codec.proofs.FormLemmas.{refused_behind}
use Rattle.save_codec.proofs.texts.read_text.Goals as goal

pub returns-in_err-parts-clause-err : goal.returns-in_err-parts-clause-err
returns-in_err-parts-clause-err c =
    let p = err_from_is_err_and c.from_residual.result c.from_residual.ensures.1 in
    refused_behind c.args.bytes.now c.in-Some.head.signature.now c.in-Some.head.policy.now c.in-Some.head.text.now c.from_residual.result p.0 c.in_err-parts.field-0.0 p.1 p.2
    c.in-Some.ensures.some c.in_err-parts.ensures.err
