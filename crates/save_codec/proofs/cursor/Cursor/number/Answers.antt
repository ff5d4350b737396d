-- The digits in front are those of the number, as it is printed.
use Rattle.save_codec.proofs.Vocabulary.{◌≡◌, ◌∙◌, ◌+◌, Some, ap, decimal, length, pos, zero-add, Num, behind_front}
use Rattle.save_codec.proofs.ByteFronts.{number_there, printed_there, printed_zero_alone}
use Rattle.save_codec.proofs.cursor.Cursor.number.Goals as goal

pub returns-in_err-number-clause-again : goal.returns-in_err-number-clause-again
returns-in_err-number-clause-again c = λ number rest small ends e.
    let there = number_there c.printed_is_token.ensures c.args.self.now.rest.now number rest small ends e in
    absurd (c.in_err-number.ensures.none number (0 + length (decimal number)) there.1 there.0)

pub returns-then-not-is_canonical-clause-again : goal.returns-then-not-is_canonical-clause-again
returns-then-not-is_canonical-clause-again c = λ number rest small ends e.
    let there = number_there c.printed_is_token.ensures c.args.self.now.rest.now number rest small ends e in
    let one = c.one_token_at_place.ensures c.args.self.now.rest.now 0 c.in_ok-number.end (0 + length (decimal number)) (Num (pos c.in_ok-number.number)) (Num (pos number))
    c.in_ok-number.ensures.some there.0 in
    absurd (cc (c.is_canonical.ensures.1 (printed_zero_alone number rest c.args.self.now.rest.now c.in_ok-number.end small e (one.1 ∙ zero-add (length (decimal number)))), c.if-not-is_canonical.true))

pub returns-clause-told : goal.returns-clause-told
returns-clause-told c = (
  c.in_ok-number.ensures.within.2,
  printed_there c.args.self.now.rest.now c.in_ok-number.number c.in_ok-number.end c.in_ok-number.ensures.within.2 c.in_ok-number.ensures.some c.in_ok-number.ensures.digits
      (c.is_canonical.ensures.0 c.if-not-is_canonical.false),
)

pub returns-clause-again : goal.returns-clause-again
returns-clause-again c = λ number rest small ends e.
    let there = number_there c.printed_is_token.ensures c.args.self.now.rest.now number rest small ends e in
    let one = c.one_token_at_place.ensures c.args.self.now.rest.now 0 c.in_ok-number.end (0 + length (decimal number)) (Num (pos c.in_ok-number.number)) (Num (pos number))
    c.in_ok-number.ensures.some there.0 in
    let same : c.in_ok-number.number ≡ number = cc one.0 in
    (ap Some same, behind_front (decimal number) rest c.args.self.now.rest.now c.in_ok-number.end e (one.1 ∙ zero-add (length (decimal number))))
