use Rattle.log_stream.proofs.Vocabulary.{◌≡◌, refl, sym, subst, ap, ◌∙◌, take_while, slice_index, drop, length, false, true, is_ascii_digit, eqb-false, take_rest, is_word, is_word_byte}
use Rattle.log_stream.proofs.TokensByFirstByte.{word_front}
use Rattle.log_stream.proofs.cursor.name_at.Goals as goal

pub returns-clause-some : goal.returns-clause-some
returns-clause-some c =
    let is : c.word_front-name.result.now ≡ take_while is_word_byte (drop c.args.at c.args.bytes.now) = c.word_front-name.ensures ∙ ap (take_while is_word_byte)
    (take_rest c.args.bytes.now c.args.at) in
    let word = word_front (drop c.args.at c.args.bytes.now) (subst (λ l. length l ≡ 0 → ⊥) is (eqb-false (length c.word_front-name.result.now) 0 (sym c.if-is_empty.ensures)))
    (subst (λ l. is_ascii_digit (slice_index l 0) ≡ false) is (sym c.if-is_ascii_digit.ensures.value)) in
    (_, _, (refl, subst (λ l. is_word l ≡ true) (sym is) word, is, refl), c.skip_blanks.ensures.gap, refl)
