-- The window, the time and then the values.
use Rattle.save_codec.proofs.Vocabulary.{◌≡◌, ◌++◌, Some, ap, sym, codes, arith, ◌∙◌, spaced, values_text, Row}
use Rattle.save_codec.proofs.LineTexts.{row_split}
use Rattle.save_codec.proofs.ValueLists.{newline_ends, values_no_digit}
use Rattle.save_codec.proofs.cursor.Cursor.row.Goals as goal

pub returns-in_default-spaced-clause-again : goal.returns-in_default-spaced-clause-again
returns-in_default-spaced-clause-again c = λ window time values rest line e.
    let behind = values_text values ++ (codes "\n" ++ rest) in
    let first = c.numbered.ensures.again window (spaced time ++ behind) line.0 (λ low high. omega arith) (e ∙ row_split window time values rest) in
    let second = c.spaced.ensures.again time behind line.1 (values_no_digit values (codes "\n" ++ rest) (newline_ends rest)) first.1 in
    absurd (c.in_default-spaced.not-Some time second.0)

pub returns-in_default-2-clause-again : goal.returns-in_default-2-clause-again
returns-in_default-2-clause-again c = λ window time values rest line e.
    let behind = values_text values ++ (codes "\n" ++ rest) in
    let first = c.numbered.ensures.again window (spaced time ++ behind) line.0 (λ low high. omega arith) (e ∙ row_split window time values rest) in
    let second = c.spaced.ensures.again time behind line.1 (values_no_digit values (codes "\n" ++ rest) (newline_ends rest)) first.1 in
    let third = c.in_ok-values.ensures.again values rest line.2 second.1 in
    absurd (c.in_default-2.not-Some values third)

pub returns-clause-told : goal.returns-clause-told
returns-clause-told c =
    let first = rw c.in-Some.is at c.numbered.ensures.told in
    let second = rw c.in-Some-spaced.is at c.spaced.ensures.told in
    let third = rw c.in-Some-2.is at c.in_ok-values.ensures.told in (
      (first.0, second.0, third.0),
      first.1 ∙ ap (λ l. codes "row" ++ (spaced c.in-Some.window ++ l)) (second.1 ∙ ap (λ l. spaced c.in-Some-spaced.time ++ l) third.1)
          ∙ sym (row_split c.in-Some.window c.in-Some-spaced.time c.in-Some-2.values c.values_line.new.self.rest.now),
    )

pub returns-clause-again : goal.returns-clause-again
returns-clause-again c = λ window time values rest line e.
    let behind = values_text values ++ (codes "\n" ++ rest) in
    let first = c.numbered.ensures.again window (spaced time ++ behind) line.0 (λ low high. omega arith) (e ∙ row_split window time values rest) in
    let second = c.spaced.ensures.again time behind line.1 (values_no_digit values (codes "\n" ++ rest) (newline_ends rest)) first.1 in
    let third = c.in_ok-values.ensures.again values rest line.2 second.1 in
    let w : c.in-Some.window ≡ window = cc (first.0, c.in-Some.is) in
    let t : c.in-Some-spaced.time ≡ time = cc (second.0, c.in-Some-spaced.is) in
    let v : c.in-Some-2.values ≡ values = cc (third, c.in-Some-2.is) in
    λ i. Some (Row (w i) (t i) (v i))
