use Rattle.enf_value.proofs.Vocabulary.{ap, subst, ◌∙◌, w64, unsigned_abs, to_z-of_z, ValueTokenAt}
use Rattle.enf_value.proofs.Numerals.{fits_from_number}
use Rattle.enf_value.proofs.TokenReads.{digits_read, negative_read, nothing_read, text_read}
use Rattle.enf_value.proofs.tokens.value_at.Goals as goal

pub returns-in_default : goal.returns-in_default
returns-in_default c =
    nothing_read c.args.bytes.now c.args.place c.requires.within c.requires.begins (rw c.in_default.is at c.in_ok-value.ensures.none)

pub returns-in-Text : goal.returns-in-Text
returns-in-Text c =
    let read = rw c.in-Some.is at c.in_ok-value.ensures.some in
    text_read c.args.bytes.now c.args.place c.in-Text.text c.in-Some.end (subst (ValueTokenAt c.args.bytes.now c.args.place c.in-Some.end) c.in-Text.is read)

pub returns-in-Num : goal.returns-in-Num
returns-in-Num c =
    let read = rw c.in-Some.is at c.in_ok-value.ensures.some in
    let token = subst (ValueTokenAt c.args.bytes.now c.args.place c.in-Some.end) c.in-Num.is read in
    negative_read c.args.bytes.now c.args.place c.requires.within _ c.in-Some.end c.unsigned_abs.result
    token c.if-bytes-place-eq45.true (c.unsigned_abs.ensures.value ∙ ap unsigned_abs (to_z-of_z {w = w64} (fits_from_number _ token.fits)))

pub returns-in-Num-2 : goal.returns-in-Num-2
returns-in-Num-2 c =
    let read = rw c.in-Some.is at c.in_ok-value.ensures.some in
    let token = subst (ValueTokenAt c.args.bytes.now c.args.place c.in-Some.end) c.in-Num-2.is read in
    digits_read c.args.bytes.now c.args.place c.requires.within _ c.in-Some.end c.unsigned_abs-in-Num-2.result
    token c.if-bytes-place-eq45.false (c.unsigned_abs-in-Num-2.ensures.value ∙ ap unsigned_abs (to_z-of_z {w = w64} (fits_from_number _ token.fits)))
