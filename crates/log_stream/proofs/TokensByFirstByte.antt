-- The words and values at a place, by their first byte.
use Rattle.log_stream.proofs.Vocabulary.{◌≡◌, ◌⊎◌, inl, inr, ℕ, ◌≤◌, Bool, true, false, ◌&&◌, List, [], ◌∷◌, ◌++◌, length, take_while, slice_index, if◌then◌else◌, refl, sym, ap, subst, ◌∙◌, IsTrue}
use Rattle.log_stream.proofs.Vocabulary.{arith, add-zero, is_ascii_digit, list_all, nat_tests, get_or-drop, take_while-cons, is_word, is_word_byte, is_word_start, IsValueToken, ValueTokenAt, Value}
use Rattle.log_stream.proofs.Vocabulary.{Num, Text, front_passes, range_from_digit}

starts_word : (x : ℕ) → is_word_byte x ≡ true → is_ascii_digit x ≡ false → is_word_start x ≡ true
starts_word x e d = grind (arith, nat_tests)

-- a word's bytes at the front, where the first is no digit, are a word
pub word_front : (xs : List ℕ) → (length (take_while is_word_byte xs) ≡ 0 → ⊥) → is_ascii_digit (slice_index (take_while is_word_byte xs) 0) ≡ false → IsTrue (is_word (take_while is_word_byte xs))
word_front [] some digit = absurd (some refl)
word_front (x ∷ xs) some digit =
    let e = take_while-cons is_word_byte x xs in
    subst (λ l. IsTrue (is_word l)) (sym e) (by (is_word_byte x) refl (subst (λ l. length l ≡ 0 → ⊥) e some) (subst (λ l. is_ascii_digit (slice_index l 0) ≡ false) e digit)
    (front_passes is_word_byte xs))
  where
    by : (b : Bool) → is_word_byte x ≡ b → (length (if b then x ∷ take_while is_word_byte xs else []) ≡ 0 → ⊥)
        → is_ascii_digit (slice_index (if b then x ∷ take_while is_word_byte xs else []) 0) ≡ false → list_all is_word_byte (take_while is_word_byte xs) ≡ true
        → IsTrue (is_word (if b then x ∷ take_while is_word_byte xs else []))
    by true e some digit all = ap (λ b. b && list_all is_word_byte (take_while is_word_byte xs)) (starts_word x e digit) ∙ all
    by false e some digit all = absurd (some refl)

-- the first byte of a number is a digit or a minus, that of a text a quote
abbrev pub BeginsValue : ℕ → Value → Type 0
BeginsValue byte (Num number) = ((48 ≤ byte) × (byte ≤ 57)) ⊎ (byte ≡ 45)
BeginsValue byte (Text text) = byte ≡ 34

token_first : (token rest : List ℕ) (value : Value) → IsValueToken token value → BeginsValue (slice_index (token ++ rest) 0) value
token_first [] rest (Num number) (inl (numeral, is)) = absurd (omega (arith, numeral.0))
token_first (x ∷ token) rest (Num number) (inl (numeral, is)) = inl (range_from_digit x numeral.1.0)
token_first token rest (Num number) (inr (digits, split, numeral, is)) = inr (ap (λ l. slice_index (l ++ rest) 0) split)
token_first token rest (Text text) (written, split, pieces) = ap (λ l. slice_index (l ++ rest) 0) split

pub value_first : (bytes : List ℕ) (at end : ℕ) (value : Value) → ValueTokenAt bytes at end value → BeginsValue (slice_index bytes at) value
value_first bytes at end value t =
    subst (λ b. BeginsValue b value) (sym (ap (λ l. slice_index l 0) t.splits) ∙ get_or-drop at bytes 0 0 ∙ ap (λ n. slice_index bytes n) (add-zero at)) (token_first t.token t.rest value t.stands)
