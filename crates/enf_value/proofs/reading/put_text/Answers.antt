use Rattle.enf_value.proofs.Vocabulary.{◌+◌, ◌-◌, drop, length, subst, sym, take, ValueTokenAt, WrittenTextAt, Text}
use Rattle.enf_value.proofs.TextTokens.{slice_from, text_from_ascii, token_from_written}
use Rattle.enf_value.proofs.reading.put_text.Goals as goal

pub copied-requires : goal.copied-requires
copied-requires c =
    let bytes = c.args.bytes.now in
    let found = c.in-Some-default-true in
    text_from_ascii (take (length bytes - 1) (drop 1 bytes)) found.quote c.if-quote-le-MOST_TEXT_BYTES.true (found.ensures.ascii found.field-0-1-test)

pub returns-then-quote-le-MOST_TEXT_BYTES-clause-some : goal.returns-then-quote-le-MOST_TEXT_BYTES-clause-some
returns-then-quote-le-MOST_TEXT_BYTES-clause-some c =
    let bytes = c.args.bytes.now in
    let found = c.in-Some-default-true in
    let behind = take (length bytes - 1) (drop 1 bytes) in
    let text = take found.quote behind in
    let written = subst (λ l. WrittenTextAt l found.quote text) (slice_from bytes 1) found.ensures.written in
    let fits = text_from_ascii behind found.quote c.if-quote-le-MOST_TEXT_BYTES.true (found.ensures.ascii found.field-0-1-test) in
    record {
      value = Text c.in_ok-text.text;
      token = subst (λ t. ValueTokenAt bytes 0 (found.quote + 2) (Text t)) (sym c.in_ok-text.ensures) (token_from_written bytes text found.quote c.requires written fits);
      last = c.in_ok-put.ensures.ok;
    }
