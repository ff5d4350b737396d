-- The numbers and then the values.
use Rattle.save_codec.proofs.Vocabulary.{◌≡◌, ◌++◌, ℕ, Some, ap, sym, codes, ◌∙◌, spaced, values_text, Due}
use Rattle.save_codec.proofs.LineTexts.{due_split}
use Rattle.save_codec.proofs.ValueLists.{newline_ends, values_no_digit}
use Rattle.save_codec.proofs.cursor.Cursor.due.Goals as goal

pub returns-in_default-clause-again : goal.returns-in_default-clause-again
returns-in_default-clause-again c = λ rule node origin low high values rest line e.
    let behind = values_text values ++ (codes "\n" ++ rest) in
    let first = c.due_numbers.ensures.again rule node origin low high behind (line.0, line.1, line.2, line.3, line.4)
    (values_no_digit values (codes "\n" ++ rest) (newline_ends rest)) (e ∙ due_split rule node origin low high values rest) in
    absurd (c.in_default.not-Some _ first.0)

pub returns-in_default-2-clause-again : goal.returns-in_default-2-clause-again
returns-in_default-2-clause-again c = λ rule node origin low high values rest line e.
    let behind = values_text values ++ (codes "\n" ++ rest) in
    let first = c.due_numbers.ensures.again rule node origin low high behind (line.0, line.1, line.2, line.3, line.4)
    (values_no_digit values (codes "\n" ++ rest) (newline_ends rest)) (e ∙ due_split rule node origin low high values rest) in
    let second = c.in_ok-values.ensures.again values rest line.5 first.1 in
    absurd (c.in_default-2.not-Some values second)

pub returns-clause-told : goal.returns-clause-told
returns-clause-told c =
    let first = rw c.in-Some.is at c.due_numbers.ensures.told in
    let second = rw c.in-Some-2.is at c.in_ok-values.ensures.told in
    let n = c.in-Some in (
      (first.0.0, first.0.1, first.0.2, first.0.3, first.0.4, second.0),
      first.1
          ∙ ap (λ l. codes "due" ++ (spaced n.rule ++ (spaced n.node ++ (spaced n.origin ++ (spaced n.low ++ (spaced n.high ++ l)))))) second.1
          ∙ sym (due_split n.rule n.node n.origin n.low n.high c.in-Some-2.values c.values_line.new.self.rest.now),
    )

pub returns-clause-again : goal.returns-clause-again
returns-clause-again c = λ rule node origin low high values rest line e.
    let behind = values_text values ++ (codes "\n" ++ rest) in
    let first = c.due_numbers.ensures.again rule node origin low high behind (line.0, line.1, line.2, line.3, line.4)
    (values_no_digit values (codes "\n" ++ rest) (newline_ends rest)) (e ∙ due_split rule node origin low high values rest) in
    let second = c.in_ok-values.ensures.again values rest line.5 first.1 in
    let numbers : ◌≡◌ {A = ℕ × ℕ × ℕ × ℕ × ℕ} (c.in-Some.rule, c.in-Some.node, c.in-Some.origin, c.in-Some.low, c.in-Some.high) (rule, node, origin, low, high) = cc (first.0, c.in-Some.is) in
    let v : c.in-Some-2.values ≡ values = cc (second, c.in-Some-2.is) in
    λ i. Some (Due (numbers i).0 (numbers i).1 (numbers i).2 (numbers i).3 (numbers i).4 (v i))
