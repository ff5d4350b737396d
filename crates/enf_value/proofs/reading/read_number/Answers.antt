use Rattle.enf_value.proofs.Vocabulary.{sym, ap, subst, ◌∙◌, take, w64, IsUtf8, to_z-of_z, to_z_pos, MatchResult-at_ok, ValueTokenAt, Num, ok_some}
use Rattle.enf_value.proofs.Numerals.{err_utf8, none_ok, front_utf8, front_parses, parsed_front, fits_from_number}
use Rattle.enf_value.proofs.reading.read_number.Goals as goal

pub returns-in_err-ok-clause-none : goal.returns-in_err-ok-clause-none
returns-in_err-ok-clause-none c =
    rw c.from_residual.ensures
    (λ number end t. err_utf8 _ _ _ c.from_utf8.result (sym c.ok.ensures.value ∙ c.in_err-ok.was) c.from_utf8.ensures.cases
    (subst (λ n. IsUtf8 (take n c.args.bytes.now)) (sym c.number_end-end.ensures.end) (front_utf8 c.args.bytes.now end number t)))

pub returns-in_err-number-clause-none : goal.returns-in_err-number-clause-none
returns-in_err-number-clause-none c =
    let text = MatchResult-at_ok _ _ c.in_ok-ok.field-0 (ok_some c.from_utf8.result c.in_ok-ok.field-0 (sym c.ok.ensures.value ∙ c.in_ok-ok.was)) c.from_utf8.ensures.cases in
    rw c.from_residual-in_err-number.ensures
    (λ number end t. none_ok c.parse.result number (sym c.ok-2.ensures.value ∙ c.in_err-number.was)
    (front_parses c.args.bytes.now c.in_ok-ok.field-0.now end number c.parse.result (text.0 ∙ ap (λ n. take n c.args.bytes.now) c.number_end-end.ensures.end) c.parse.ensures.value.0
    t))

pub returns-clause-some : goal.returns-clause-some
returns-clause-some c =
    let text = MatchResult-at_ok _ _ c.in_ok-ok.field-0 (ok_some c.from_utf8.result c.in_ok-ok.field-0 (sym c.ok.ensures.value ∙ c.in_ok-ok.was)) c.from_utf8.ensures.cases in
    let number = c.in_ok-number.number in
    let read = parsed_front c.args.bytes.now c.in_ok-ok.field-0.now c.number_end-end.result number c.parse.result c.number_end-end.ensures.end c.number_end-end.ensures.within text.0
    c.parse.ensures.value.0 (ok_some c.parse.result number (sym c.ok-2.ensures.value ∙ c.in_ok-number.was)) in
    subst (λ n. ValueTokenAt c.args.bytes.now 0 c.number_end-end.result (Num n)) (sym (to_z-of_z {w = w64} (fits_from_number number read.fits))) read

pub returns-in-Some-clause-some : goal.returns-in-Some-clause-some
returns-in-Some-clause-some c =
    subst (λ n. ValueTokenAt c.args.bytes.now 0 c.in-Some.end (Num n)) (sym (to_z_pos w64 c.in-Some.ensures.within.2)) c.in-Some.ensures.some
