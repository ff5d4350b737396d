use Rattle.enf_value.proofs.Vocabulary.{Err, ap, arith, subst, sym, ◌+◌, ValueTokenAt, Text}
use Rattle.enf_value.proofs.TextTokens.{none_from_refused, token_from_written}
use Rattle.enf_value.proofs.reading.text_token.Goals as goal

pub returns-in-Ok-clause-some : goal.returns-in-Ok-clause-some
returns-in-Ok-clause-some c = λ bytes first w.
    subst (λ t. ValueTokenAt bytes 0 (c.args.quote + 2) (Text t)) (sym c.in-Ok.ensures.value) (token_from_written bytes c.args.text.now c.args.quote first w c.in-Ok.ensures.text)

pub returns-in-Err-TooLong-clause-none : goal.returns-in-Err-TooLong-clause-none
returns-in-Err-TooLong-clause-none c = λ bytes w.
    none_from_refused bytes c.args.text.now c.args.quote w
    (λ text. let long = c.in-Err-TooLong.ensures.too_long.0 (ap Err c.in-Err-TooLong.field-0-is) in omega (arith, text.short, long))

pub returns-in-Err-NotUtf8-clause-none : goal.returns-in-Err-NotUtf8-clause-none
returns-in-Err-NotUtf8-clause-none c = λ bytes w.
    none_from_refused bytes c.args.text.now c.args.quote w
    (λ text. (c.in-Err-NotUtf8.ensures.not_utf8.0 (ap Err c.in-Err-NotUtf8.field-0-is)).1 text.utf8)
