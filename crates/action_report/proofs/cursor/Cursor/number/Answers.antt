-- The digits in front are those of the number, and `parse` gives it.
use Rattle.action_report.proofs.Vocabulary.{ap, sym, subst, ◌∙◌, length, is_ascii_digit, take_while, result_ok, IsUtf8, parse-decimal, MatchResult-at_ok, behind_front, ok_some}
use Rattle.action_report.proofs.ByteFronts.{err_utf8, number_front, number_utf8}
use Rattle.action_report.proofs.cursor.Cursor.number.Goals as goal

pub returns-in_err-ok : goal.returns-in_err-ok
returns-in_err-ok c = λ number rest small ends e.
    let digits = c.front-digits.ensures ∙ ap (take_while is_ascii_digit) e ∙ number_front number rest small ends in
    err_utf8 _ _ _ c.from_utf8.result (sym c.ok.ensures.value ∙ c.in_err-ok.was) c.from_utf8.ensures.cases (subst IsUtf8 (sym digits) (number_utf8 number small))

pub returns : goal.returns
returns c = λ number rest small ends e.
    let digits = c.front-digits.ensures ∙ ap (take_while is_ascii_digit) e ∙ number_front number rest small ends in
    let text = MatchResult-at_ok _ _ c.in_ok-ok.field-0 (ok_some c.from_utf8.result c.in_ok-ok.field-0 (sym c.ok.ensures.value ∙ c.in_ok-ok.was)) c.from_utf8.ensures.cases in
    let parsed = parse-decimal 64 number c.in_ok-ok.field-0.now c.parse.result small small (text.0 ∙ digits) c.parse.ensures.value.0 in
    (c.ok-2.ensures.value ∙ ap result_ok parsed, behind_front _ rest _ _ e (ap length digits))
