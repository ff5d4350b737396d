use Rattle.enf_value.proofs.Vocabulary.{sym, ap, ◌∙◌, drop, text_front}
use Rattle.enf_value.proofs.Escapes.{scan_at_quote, scan_at_letter, scan_at_end, written_at_quote, not_written}
use Rattle.enf_value.proofs.reading.read_written.Goals as goal

pub returns-in_default-clause-none : goal.returns-in_default-clause-none
returns-in_default-clause-none c =
    let bytes = c.args.bytes.now in
    let place = c.loop-place.place in
    not_written bytes c.loop-place.text.items place _ c.loop-place.invariant (ap (λ e. text_front e (drop place bytes)) c.in-true-default.is-0 ∙ scan_at_letter bytes place
    c.loop-place-test.true (sym c.in_default.ensures))

pub returns-in-false-eq34-clause-some : goal.returns-in-false-eq34-clause-some
returns-in-false-eq34-clause-some c =
    let bytes = c.args.bytes.now in
    let place = c.loop-place.place in
    written_at_quote bytes c.loop-place.text.items place _ c.loop-place.invariant (ap (λ e. text_front e (drop place bytes)) c.in-false-eq34.is-0 ∙ scan_at_quote bytes place
    c.loop-place-test.true c.in-false-eq34.is-1)

pub returns-clause-none : goal.returns-clause-none
returns-clause-none c =
    not_written c.args.bytes.now c.loop-place.text.items c.loop-place.place _ c.loop-place.invariant (scan_at_end c.loop-place.escape c.args.bytes.now c.loop-place.place c.loop-place-test.false)
