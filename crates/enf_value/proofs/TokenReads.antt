-- What the reader reads at a place is the token there.
use Rattle.enf_value.proofs.Vocabulary.{◌≡◌, ℕ, ◌+◌, ◌-◌, ◌<◌, ◌==◌, ℤ, true, false, cond, List, [], ◌∷◌, length, slice_index, take, drop, None, Some, sym, ap, subst, ◌∙◌, arith, length-drop}
use Rattle.enf_value.proofs.Vocabulary.{unsigned_abs, nat_tests, is_word_start, NumberToken, NegativeToken, WrongToken, mark_lexeme, token_piece, ValueTokenAt, IsFrontToken, IsMarkAt, IsTokenAt}
use Rattle.enf_value.proofs.Vocabulary.{begins_value, Value}
use Rattle.enf_value.proofs.Fronts.{front_from_number, front_from_text, mark_front, number_token, wrong_from_none}
use Rattle.enf_value.proofs.Gaps.{text_at}
use Rattle.enf_value.proofs.TextTokens.{slice_from, token_at_front, token_at_place}
use Rattle.enf_data.specs.declared.values.Value.TheVariants as values
use Rattle.enf_value.specs.declared.tokens.Token.TheVariants as variants

module _ (bytes : List ℕ) (place : ℕ) where
  pub text_read : (text : List ℕ) (end : ℕ) → ValueTokenAt bytes place end (values.Text text) → IsTokenAt bytes place (variants.Text text) end
  text_read text end t = record {
    size = length t.token;
    ends = t.ends;
    front = front_from_text (drop place bytes) text (length t.token) (token_at_front bytes place end (values.Text text) t);
  }

  module _ (within : place < length bytes) where
    first_is : slice_index (drop place bytes) 0 ≡ slice_index bytes place
    first_is = ap (λ l. slice_index l 0) (text_at bytes place within)

    number_read : (number : ℤ) (end : ℕ) → (t : ValueTokenAt bytes place end (values.Num number))
        → IsFrontToken (drop place bytes) (number_token (slice_index bytes place) number) (length t.token)
    number_read number end t =
        subst (λ b. IsFrontToken (drop place bytes) (number_token b number) (length t.token)) first_is
        (front_from_number (drop place bytes) number (length t.token) (token_at_front bytes place end (values.Num number) t))

    pub negative_read : (number : ℤ) (end n : ℕ) → ValueTokenAt bytes place end (values.Num number) → slice_index bytes place ≡ 45 → n ≡ unsigned_abs number
        → IsTokenAt bytes place (variants.Negative n) end
    negative_read number end n t minus is = record {
      size = length t.token;
      ends = t.ends;
      front = subst (λ token. IsFrontToken (drop place bytes) token (length t.token)) (ap (λ b. number_token b number) minus ∙ ap NegativeToken (sym is)) (number_read number end t);
    }

    pub digits_read : (number : ℤ) (end n : ℕ) → ValueTokenAt bytes place end (values.Num number) → (slice_index bytes place ≡ 45 → ⊥) → n ≡ unsigned_abs number
        → IsTokenAt bytes place (variants.Digits n) end
    digits_read number end n t plain is =
        let no_minus : (slice_index bytes place == 45) ≡ false = grind (arith, nat_tests, plain) in
        record {
          size = length t.token;
          ends = t.ends;
          front = subst (λ token. IsFrontToken (drop place bytes) token (length t.token))
              (ap (λ b. cond b (NegativeToken (unsigned_abs number)) (NumberToken (unsigned_abs number))) no_minus ∙ ap NumberToken (sym is)) (number_read number end t);
        }

    pub nothing_read : begins_value (drop place bytes) ≡ true → ((value : Value) (end : ℕ) → ValueTokenAt bytes place end value → ⊥) → IsTokenAt bytes place variants.Wrong (length bytes)
    nothing_read begins none = record {
      size = length (drop place bytes);
      ends = omega (arith, length-drop place bytes, within);
      front = wrong_from_none (drop place bytes) begins (λ value end t. none value (place + end) (token_at_place bytes place end value t));
    }

no_mark : (bytes : List ℕ) → 0 < length bytes → is_word_start (slice_index bytes 0) ≡ false → begins_value bytes ≡ false → IsMarkAt bytes None → IsFrontToken bytes WrongToken (length bytes)
no_mark [] some word value none = absurd (omega (arith, some))
no_mark (byte ∷ rest) some word value none =
    ap (token_piece (1 + length rest)) (mark_front byte rest word value ∙ ap mark_lexeme (sym none)) ∙ ap (λ n. (Some WrongToken, n)) (omega arith)

pub no_token : (bytes : List ℕ) (place : ℕ) (rest : List ℕ) → place < length bytes → rest ≡ take (length bytes - place) (drop place bytes)
    → is_word_start (slice_index bytes place) ≡ false → begins_value rest ≡ false → IsMarkAt rest None → IsTokenAt bytes place variants.Wrong (length bytes)
no_token bytes place rest within is word value none =
    let same = is ∙ slice_from bytes place in
    record {
      size = length (drop place bytes);
      ends = omega (arith, length-drop place bytes, within);
      front = no_mark (drop place bytes) (omega (arith, length-drop place bytes, within)) (ap is_word_start (first_is bytes place within) ∙ word)
          (subst (λ l. begins_value l ≡ false) same value) (subst (λ l. IsMarkAt l None) same none);
    }
