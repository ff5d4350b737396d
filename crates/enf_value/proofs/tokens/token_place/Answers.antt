use Rattle.enf_value.proofs.Vocabulary.{◌+◌, ◌∙◌, ap, sym, take_while, is_comment_byte}
use Rattle.enf_value.proofs.Gaps.{behind_comment}
use Rattle.enf_value.proofs.TextTokens.{slice_from}
use Rattle.enf_value.proofs.tokens.token_place.Goals as goal

pub loop-place-preserved : goal.loop-place-preserved
loop-place-preserved c =
    let comment = c.front.ensures ∙ ap (take_while is_comment_byte) (slice_from c.args.bytes.now (c.loop-place.place + 1)) in
    behind_comment c.args.bytes.now c.args.at c.loop-place.place c.front.result.now c.loop-place.invariant c.loop-place-test.true (sym c.is_blank.ensures ∙ c.if-is_blank.false)
    c.if-byte-eq35.true comment
