-- The number ends before the line feed.
use Rattle.save_codec.proofs.Vocabulary.{◌≡◌, ◌++◌, Some, ap, sym, codes, arith, ◌∙◌, spaced}
use Rattle.save_codec.proofs.LineTexts.{single_split}
use Rattle.save_codec.proofs.cursor.Cursor.single.Goals as goal

pub returns-in_err-number-clause-again : goal.returns-in_err-number-clause-again
returns-in_err-number-clause-again c = λ number rest small e.
    let first = c.numbered.ensures.again number (codes "\n" ++ rest) small (λ low high. omega arith) (e ∙ single_split c.args.word.now number rest) in
    absurd (cc (first.0, c.in_err-number.was))

pub returns-then-not-take-clause-again : goal.returns-then-not-take-clause-again
returns-then-not-take-clause-again c = λ number rest small e.
    let first = c.numbered.ensures.again number (codes "\n" ++ rest) small (λ low high. omega arith) (e ∙ single_split c.args.word.now number rest) in
    absurd (cc ((c.take.ensures.again rest first.1).0, c.if-not-take.true))

pub returns-clause-told : goal.returns-clause-told
returns-clause-told c =
    let first = rw c.in_ok-number.was at c.numbered.ensures.told in (
      first.0,
      first.1 ∙ ap (λ l. c.args.word.now ++ (spaced c.in_ok-number.number ++ l)) (c.take.ensures.taken c.if-not-take.false) ∙ sym
          (single_split c.args.word.now c.in_ok-number.number c.take.new.self.rest.now),
    )

pub returns-clause-again : goal.returns-clause-again
returns-clause-again c = λ number rest small e.
    let first = c.numbered.ensures.again number (codes "\n" ++ rest) small (λ low high. omega arith) (e ∙ single_split c.args.word.now number rest) in
    let same : c.in_ok-number.number ≡ number = cc (first.0, c.in_ok-number.was) in
    ap Some same
