-- The tokens of numbers and texts at the front of bytes: where a value's token begins there, it is the token there, and
-- where none does, the token is wrong.
use Rattle.enf_value.proofs.Vocabulary.{◌≡◌, ℕ, zero, suc, ◌+◌, ◌^◌, ◌<◌, ◌≤◌, ◌==◌, nat_lt, nat_le, ℤ, pos, neg_ℤ, Bool, true, false, ◌||◌, ◌&&◌, cond, inl, inr, List, [], ◌∷◌, ◌++◌, length}
use Rattle.enf_value.proofs.Vocabulary.{slice_index, take, drop, Option, None, Some, refl, sym, ap, subst, ◌∙◌, arith, if◌then◌else◌, length-append, length-take, is_ascii_digit, prefix_len}
use Rattle.enf_value.proofs.Vocabulary.{take_while, take_while-cons, unsigned_abs, AllDigits, IsNumeral, digits_value, eqb-true, and_parts, nat_tests, take-append-drop, IsUtf8-from_is_utf8}
use Rattle.enf_value.proofs.Vocabulary.{is_utf8-from_IsUtf8, take-append_seam, is_word, is_word_byte, is_word_start, Token, Lexeme, CutPiece, WordToken, NumberToken, NegativeToken, TextToken}
use Rattle.enf_value.proofs.Vocabulary.{SymbolToken, WrongToken, begins_with, digits_lexeme, lexeme_at, mark_at, mark_lexeme, mark_text, negative_lexeme, text_front, text_lexeme, token_piece}
use Rattle.enf_value.proofs.Vocabulary.{word_lexeme, wrong_lexeme, IsNumberToken, IsNoDigit, ValueTokenAt, IsTextValue, is_text_value, IsProper, IsFrontToken, begins_value, Mark as AnyMark}
use Rattle.enf_value.proofs.Vocabulary.{IsNumberValue, Value, true_from_lt, true_from_le, lt_from_true, le_from_true, front_passes}
use Rattle.enf_value.proofs.Escapes.{scan_from_written, written_from_scan}
use Rattle.enf_value.proofs.Numerals.{all_digits, behind_digits, front_digits, range_from_digit, test_from_range}
use Rattle.enf_value.proofs.TextTokens.{text_begins, token_from_written, written_from_token}
use Rattle.enf_value.specs.declared.tokens.Mark.TheVariants as marks
use Rattle.enf_data.specs.declared.values.Value.TheVariants as values

-- ---- tests

pub text_test : (text : List ℕ) → IsTextValue text → is_text_value text ≡ true
text_test text fits = λ j. true_from_le _ _ fits.short j && is_utf8-from_IsUtf8 text fits.utf8 j

pub text_from_test : (text : List ℕ) → is_text_value text ≡ true → IsTextValue text
text_from_test text e =
    let h = and_parts _ _ e in
    record { utf8 = IsUtf8-from_is_utf8 text h.1; short = le_from_true _ _ h.0 }

-- ---- which lexeme stands at a byte

abbrev pub lexeme_by : (word digit minus quote : Bool) → ℕ → List ℕ → Lexeme
lexeme_by word digit minus quote byte rest =
    if word then word_lexeme (take_while is_word_byte (byte ∷ rest))
    else (if digit then digits_lexeme (take_while is_ascii_digit (byte ∷ rest))
    else (if minus then negative_lexeme (take_while is_ascii_digit rest)
    else (if quote then text_lexeme (text_front false rest)
    else mark_lexeme (mark_at byte rest))))

pub digit_no_word : (byte : ℕ) → is_ascii_digit byte ≡ true → is_word_start byte ≡ false
digit_no_word byte e = grind (arith, nat_tests)

pub digit_lexeme : (byte : ℕ) (rest : List ℕ) → is_ascii_digit byte ≡ true
    → lexeme_at byte rest ≡ digits_lexeme (take_while is_ascii_digit (byte ∷ rest))
digit_lexeme byte rest e =
    λ j. lexeme_by (digit_no_word byte e j) (e j) (byte == 45 && begins_with is_ascii_digit rest) (byte == 34) byte rest

pub minus_lexeme : (rest : List ℕ) → begins_with is_ascii_digit rest ≡ true
    → lexeme_at 45 rest ≡ negative_lexeme (take_while is_ascii_digit rest)
minus_lexeme rest e = λ j. lexeme_by false false (e j) false 45 rest

pub word_front : (byte : ℕ) (rest : List ℕ) → is_word_start byte ≡ true
    → lexeme_at byte rest ≡ word_lexeme (take_while is_word_byte (byte ∷ rest))
word_front byte rest e =
    λ j. lexeme_by (e j) (is_ascii_digit byte) (byte == 45 && begins_with is_ascii_digit rest) (byte == 34) byte rest

no_value : (digit quote minus : Bool) → (digit || quote || minus) ≡ false → (digit ≡ false) × (quote ≡ false) × (minus ≡ false)
no_value true quote minus e = absurd cc
no_value false true minus e = absurd cc
no_value false false minus e = (refl, refl, e)

pub mark_front : (byte : ℕ) (rest : List ℕ) → is_word_start byte ≡ false → begins_value (byte ∷ rest) ≡ false
    → lexeme_at byte rest ≡ mark_lexeme (mark_at byte rest)
mark_front byte rest word value =
    let h = no_value _ _ _ value in λ j. lexeme_by (word j) (h.0 j) (h.2 j) (h.1 j) byte rest

-- ---- a value's token at the front is the token there

text_is_front : (byte : ℕ) (rest text : List ℕ) (end : ℕ) → ValueTokenAt (byte ∷ rest) 0 end (values.Text text) → IsFrontToken (byte ∷ rest) (TextToken text) end
text_is_front byte rest text end t =
    let w = written_from_token (byte ∷ rest) text end t in
    subst (λ b. token_piece (1 + length rest) (lexeme_at b rest) ≡ (Some (TextToken text), end)) (sym (text_begins (byte ∷ rest) text end t))
    (ap (λ r. token_piece (1 + length rest) (text_lexeme r)) (scan_from_written rest text w.0 w.1)
    ∙ ap (λ b. token_piece (1 + length rest) (if b then (TextToken text, w.0 + 2) else wrong_lexeme)) (text_test text t.fits)
    ∙ ap (λ n. (Some (TextToken text), n)) (sym w.2))

front_of_digits : (digits rest : List ℕ) → AllDigits 10 digits → IsNoDigit rest → take_while is_ascii_digit (digits ++ rest) ≡ digits
front_of_digits digits rest each end =
    ap (λ n. take n (digits ++ rest)) (all_digits digits rest each end) ∙ take-append_seam digits rest

digits_piece : (all : ℕ) (digits : List ℕ) → digits_value 10 digits < 2 ^ 63 → token_piece all (digits_lexeme digits) ≡ (Some (NumberToken (digits_value 10 digits)), length digits)
digits_piece all digits small =
    ap (λ b. token_piece all (if b then (NumberToken (digits_value 10 digits), length digits) else wrong_lexeme)) (true_from_lt _ _ small)

negative_piece : (all : ℕ) (digits : List ℕ) → digits_value 10 digits ≤ 2 ^ 63 → token_piece all (negative_lexeme digits) ≡ (Some (NegativeToken (digits_value 10 digits)), 1 + length digits)
negative_piece all digits small =
    ap (λ b. token_piece all (if b then (NegativeToken (digits_value 10 digits), 1 + length digits) else wrong_lexeme)) (true_from_le _ _ small)

pub digits_are_front : (byte : ℕ) (digits rest : List ℕ) → IsNumeral 10 (byte ∷ digits) → IsNoDigit rest → digits_value 10 (byte ∷ digits) < 2 ^ 63
    → IsFrontToken (byte ∷ (digits ++ rest)) (NumberToken (digits_value 10 (byte ∷ digits))) (length (byte ∷ digits))
digits_are_front byte digits rest numeral end small =
    let r = range_from_digit byte numeral.1.0 in
    ap (token_piece (1 + length (digits ++ rest))) (digit_lexeme byte (digits ++ rest) (test_from_range byte r.0 r.1) ∙ ap digits_lexeme (front_of_digits (byte ∷ digits) rest numeral.1 end))
    ∙ digits_piece (1 + length (digits ++ rest)) (byte ∷ digits) small

begins_digits : (digits rest : List ℕ) → IsNumeral 10 digits → begins_with is_ascii_digit (digits ++ rest) ≡ true
begins_digits [] rest numeral = absurd (omega (arith, numeral.0))
begins_digits (byte ∷ digits) rest numeral = let r = range_from_digit byte numeral.1.0 in test_from_range byte r.0 r.1

pub negative_is_front : (digits rest : List ℕ) → IsNumeral 10 digits → IsNoDigit rest → digits_value 10 digits ≤ 2 ^ 63
    → IsFrontToken (45 ∷ (digits ++ rest)) (NegativeToken (digits_value 10 digits)) (1 + length digits)
negative_is_front digits rest numeral end small =
    ap (token_piece (1 + length (digits ++ rest))) (minus_lexeme (digits ++ rest) (begins_digits digits rest numeral) ∙ ap negative_lexeme (front_of_digits digits rest numeral.1 end))
    ∙ negative_piece (1 + length (digits ++ rest)) digits small

abs_negative : (n : ℕ) → unsigned_abs (neg_ℤ (pos n)) ≡ n
abs_negative zero = refl
abs_negative (suc n) = refl

small_positive : (number : ℤ) (n : ℕ) → number ≡ pos n → IsNumberValue number → n < 2 ^ 63
small_positive number n is fits = subst IsNumberValue is fits

small_negative : (number : ℤ) (n : ℕ) → number ≡ neg_ℤ (pos n) → IsNumberValue number → n ≤ 2 ^ 63
small_negative number zero is fits = omega arith
small_negative number (suc n) is fits = let h : n < 2 ^ 63 = subst IsNumberValue is fits in omega arith

-- the token of a number, by its first byte
abbrev pub number_token : ℕ → ℤ → Token
number_token byte number = if byte == 45 then NegativeToken (unsigned_abs number) else NumberToken (unsigned_abs number)

number_front : (byte : ℕ) (token rest : List ℕ) (number : ℤ) → slice_index token 0 ≡ byte → IsNumberToken token number → IsNoDigit rest → IsNumberValue number
    → IsFrontToken (token ++ rest) (number_token byte number) (length token)
number_front byte [] rest number first (inl (numeral, is)) end fits = absurd (omega (arith, numeral.0))
number_front byte (x ∷ digits) rest number first (inl (numeral, is)) end fits =
    let r = range_from_digit x numeral.1.0 in
    let plain : (byte == 45) ≡ false = grind (arith, nat_tests) in
    subst (λ t. IsFrontToken (x ∷ (digits ++ rest)) t (length (x ∷ digits)))
    (sym (ap (λ b. if b then NegativeToken (unsigned_abs number) else NumberToken (unsigned_abs number)) plain ∙ ap (λ z. NumberToken (unsigned_abs z)) is))
    (digits_are_front x digits rest numeral end (small_positive number _ is fits))
number_front byte token rest number first (inr (digits, split, numeral, is)) end fits =
    let minus : byte ≡ 45 = sym first ∙ ap (λ l. slice_index l 0) split in
    subst (λ l. IsFrontToken (l ++ rest) (number_token byte number) (length l)) (sym split)
    (subst (λ t. IsFrontToken (45 ∷ (digits ++ rest)) t (length (45 ∷ digits)))
    (sym (ap (λ b. number_token b number) minus ∙ ap (λ z. NegativeToken (unsigned_abs z)) is ∙ ap NegativeToken (abs_negative (digits_value 10 digits))))
    (subst (λ n. IsFrontToken (45 ∷ (digits ++ rest)) (NegativeToken (digits_value 10 digits)) n) (omega arith) (negative_is_front digits rest numeral end (small_negative number _ is fits))))

-- ---- where no value's token begins, the token there is wrong

abbrev NoValueAt : List ℕ → Type 0
NoValueAt bytes = (value : Value) (end : ℕ) → ValueTokenAt bytes 0 end value → ⊥

-- the digits at the front are a numeral
pub front_numeral : (byte : ℕ) (rest : List ℕ) → is_ascii_digit byte ≡ true → IsNumeral 10 (take_while is_ascii_digit (byte ∷ rest))
front_numeral byte rest e =
    (ap_some (prefix_len is_ascii_digit (byte ∷ rest)) (omega (arith, ap (λ b. cond b (1 + prefix_len is_ascii_digit rest) 0) e)), front_digits (byte ∷ rest))
  where
    ap_some : (n : ℕ) → 0 < n → 0 < length (take n (byte ∷ rest))
    ap_some zero some = absurd (omega arith)
    ap_some (suc n) some = omega arith

digits_token_at : (byte : ℕ) (rest : List ℕ) → is_ascii_digit byte ≡ true → digits_value 10 (take_while is_ascii_digit (byte ∷ rest)) < 2 ^ 63
    → ValueTokenAt (byte ∷ rest) 0 (0 + length (take_while is_ascii_digit (byte ∷ rest))) (values.Num (pos (digits_value 10 (take_while is_ascii_digit (byte ∷ rest)))))
digits_token_at byte rest e small = record {
  token = take_while is_ascii_digit (byte ∷ rest);
  rest = drop (prefix_len is_ascii_digit (byte ∷ rest)) (byte ∷ rest);
  splits = sym (take-append-drop (prefix_len is_ascii_digit (byte ∷ rest)) (byte ∷ rest));
  ends = refl;
  stands = inl (front_numeral byte rest e, refl);
  whole = behind_digits (byte ∷ rest);
  fits = small;
}

fits_negative : (n : ℕ) → n ≤ 2 ^ 63 → IsNumberValue (neg_ℤ (pos n))
fits_negative zero small = omega arith
fits_negative (suc n) small = omega arith

negative_token_at : (byte : ℕ) (rest : List ℕ) → is_ascii_digit byte ≡ true → digits_value 10 (take_while is_ascii_digit (byte ∷ rest)) ≤ 2 ^ 63
    → ValueTokenAt (45 ∷ byte ∷ rest) 0 (0 + length (45 ∷ take_while is_ascii_digit (byte ∷ rest))) (values.Num (neg_ℤ (pos (digits_value 10 (take_while is_ascii_digit (byte ∷ rest))))))
negative_token_at byte rest e small = record {
  token = 45 ∷ take_while is_ascii_digit (byte ∷ rest);
  rest = drop (prefix_len is_ascii_digit (byte ∷ rest)) (byte ∷ rest);
  splits = ap (λ l. 45 ∷ l) (sym (take-append-drop (prefix_len is_ascii_digit (byte ∷ rest)) (byte ∷ rest)));
  ends = refl;
  stands = inr (take_while is_ascii_digit (byte ∷ rest), refl, front_numeral byte rest e, refl);
  whole = behind_digits (byte ∷ rest);
  fits = fits_negative _ small;
}

no_digits : (byte : ℕ) (rest : List ℕ) → is_ascii_digit byte ≡ true → NoValueAt (byte ∷ rest) → IsFrontToken (byte ∷ rest) WrongToken (1 + length rest)
no_digits byte rest e none =
    ap (token_piece (1 + length rest)) (digit_lexeme byte rest e) ∙ by (nat_lt value (2 ^ 63)) refl
  where
    value : ℕ
    value = digits_value 10 (take_while is_ascii_digit (byte ∷ rest))

    by : (b : Bool) → nat_lt (digits_value 10 (take_while is_ascii_digit (byte ∷ rest))) (2 ^ 63) ≡ b
        → token_piece (1 + length rest) (digits_lexeme (take_while is_ascii_digit (byte ∷ rest))) ≡ (Some WrongToken, 1 + length rest)
    by true small = absurd (none _ _ (digits_token_at byte rest e (lt_from_true _ _ small)))
    by false small =
        ap (λ b. token_piece (1 + length rest) (if b then (NumberToken (digits_value 10 (take_while is_ascii_digit (byte ∷ rest))), length (take_while is_ascii_digit (byte ∷ rest)))
        else wrong_lexeme)) small

no_negative : (rest : List ℕ) → begins_with is_ascii_digit rest ≡ true → NoValueAt (45 ∷ rest) → IsFrontToken (45 ∷ rest) WrongToken (1 + length rest)
no_negative [] e none = absurd cc
no_negative (byte ∷ rest) e none =
    ap (token_piece (1 + length (byte ∷ rest))) (minus_lexeme (byte ∷ rest) e) ∙ by (nat_le (digits_value 10 (take_while is_ascii_digit (byte ∷ rest))) (2 ^ 63)) refl
  where
    by : (b : Bool) → nat_le (digits_value 10 (take_while is_ascii_digit (byte ∷ rest))) (2 ^ 63) ≡ b
        → token_piece (1 + length (byte ∷ rest)) (negative_lexeme (take_while is_ascii_digit (byte ∷ rest))) ≡ (Some WrongToken, 1 + length (byte ∷ rest))
    by true small = absurd (none _ _ (negative_token_at byte rest e (le_from_true _ _ small)))
    by false small =
        ap (λ b. token_piece (1 + length (byte ∷ rest)) (if b then (
          NegativeToken (digits_value 10 (take_while is_ascii_digit (byte ∷ rest))),
          1 + length
              (take_while is_ascii_digit (byte ∷ rest)),
        ) else wrong_lexeme)) small

no_text : (rest : List ℕ) → NoValueAt (34 ∷ rest) → IsFrontToken (34 ∷ rest) WrongToken (1 + length rest)
no_text rest none = by (text_front false rest) refl
  where
    tested : (found : List ℕ × ℕ) → text_front false rest ≡ Some found → (b : Bool) → is_text_value found.0 ≡ b
        → token_piece (1 + length rest) (if b then (TextToken found.0, found.1 + 2) else wrong_lexeme) ≡ (Some WrongToken, 1 + length rest)
    tested found is true fits =
        absurd (none (values.Text found.0) (found.1 + 2) (token_from_written (34 ∷ rest) found.0 found.1 refl (written_from_scan rest found.0 found.1 is) (text_from_test found.0 fits)))
    tested found is false fits = refl

    by : (r : Option (List ℕ × ℕ)) → text_front false rest ≡ r → IsFrontToken (34 ∷ rest) WrongToken (1 + length rest)
    by None is = ap (λ r. token_piece (1 + length rest) (text_lexeme r)) is
    by (Some found) is =
        ap (λ r. token_piece (1 + length rest) (text_lexeme r)) is ∙ tested found is (is_text_value found.0) refl

begins_by : (a b c : Bool) → (a || b || c) ≡ true → (a ≡ false) → (b ≡ false) → c ≡ true
begins_by a b c e not_a not_b = sym (λ j. not_a j || not_b j || c) ∙ e

no_value_front : (byte : ℕ) (rest : List ℕ) → begins_value (byte ∷ rest) ≡ true → NoValueAt (byte ∷ rest) → IsFrontToken (byte ∷ rest) WrongToken (1 + length rest)
no_value_front byte rest e none = by (is_ascii_digit byte) (byte == 34) refl refl
  where
    by : (digit quote : Bool) → is_ascii_digit byte ≡ digit → (byte == 34) ≡ quote → IsFrontToken (byte ∷ rest) WrongToken (1 + length rest)
    by true quote d q = no_digits byte rest d none
    by false true d q =
        let is = eqb-true byte 34 q in
        subst (λ b. IsFrontToken (b ∷ rest) WrongToken (1 + length rest)) (sym is) (no_text rest (subst (λ b. NoValueAt (b ∷ rest)) is none))
    by false false d q =
        let minus = and_parts (byte == 45) (begins_with is_ascii_digit rest) (begins_by _ _ _ e d q) in
        let is = eqb-true byte 45 minus.0 in
        subst (λ b. IsFrontToken (b ∷ rest) WrongToken (1 + length rest)) (sym is) (no_negative rest minus.1 (subst (λ b. NoValueAt (b ∷ rest)) is none))

-- ---- at the front of any bytes

pub wrong_from_none : (bytes : List ℕ) → begins_value bytes ≡ true → ((value : Value) (end : ℕ) → ValueTokenAt bytes 0 end value → ⊥) → IsFrontToken bytes WrongToken (length bytes)
wrong_from_none [] begins_with none = absurd cc
wrong_from_none (byte ∷ rest) begins_with none =
    subst (IsFrontToken (byte ∷ rest) WrongToken) (omega arith) (no_value_front byte rest begins_with none)

pub front_from_text : (bytes text : List ℕ) (end : ℕ) → ValueTokenAt bytes 0 end (values.Text text) → IsFrontToken bytes (TextToken text) end
front_from_text [] text end t = absurd (omega (arith, text_begins [] text end t))
front_from_text (byte ∷ rest) text end t = text_is_front byte rest text end t

pub front_from_number : (bytes : List ℕ) (number : ℤ) (end : ℕ) → ValueTokenAt bytes 0 end (values.Num number) → IsFrontToken bytes (number_token (slice_index bytes 0) number) end
front_from_number bytes number end t =
    let first : slice_index t.token 0 ≡ slice_index bytes 0 = first_of t.token t.rest number t.stands ∙ ap (λ l. slice_index l 0) (sym t.splits) in
    let size : length t.token ≡ end = omega (arith, t.ends) in
    subst (λ n. IsFrontToken bytes (number_token (slice_index bytes 0) number) n) size
    (subst (λ l. IsFrontToken l (number_token (slice_index bytes 0) number) (length t.token)) (sym t.splits)
    (number_front (slice_index bytes 0) t.token t.rest number first t.stands t.whole t.fits))
  where
    first_of : (token rest : List ℕ) (z : ℤ) → IsNumberToken token z → slice_index token 0 ≡ slice_index (token ++ rest) 0
    first_of [] rest z (inl (numeral, is)) = absurd (omega (arith, numeral.0))
    first_of [] rest z (inr (digits, split, numeral, is)) = absurd (omega (arith, ap length split))
    first_of (x ∷ digits) rest z stands = refl

-- ---- a token has a byte at least and ends within the text

record IsWithin (all : ℕ) (size : ℕ) : Type 0 where
  pub some : 0 < size
  pub within : size ≤ all

within_if : (all : ℕ) (b : Bool) (x y : Lexeme) → (b ≡ true → IsWithin all x.1) → (b ≡ false → IsWithin all y.1) → IsWithin all (cond b x y).1
within_if all true x y h k = h refl
within_if all false x y h k = k refl

one_within : (n : ℕ) → IsWithin (1 + n) 1
one_within n = record { some = omega arith; within = omega arith }

front_within : (kind : ℕ → Bool) (byte : ℕ) (rest : List ℕ) → kind byte ≡ true → IsWithin (1 + length rest) (length (take_while kind (byte ∷ rest)))
front_within kind byte rest e = by (prefix_len kind (byte ∷ rest)) (omega (arith, ap (λ b. cond b (1 + prefix_len kind rest) 0) e))
  where
    by : (n : ℕ) → 0 < n → IsWithin (1 + length rest) (length (take n (byte ∷ rest)))
    by zero some = absurd (omega arith)
    by (suc n) some = record { some = omega arith; within = omega (arith, length-take n rest) }

text_within : (rest : List ℕ) (r : Option (List ℕ × ℕ)) → text_front false rest ≡ r → IsWithin (1 + length rest) (text_lexeme r).1
text_within rest None is = one_within (length rest)
text_within rest (Some found) is =
    let w = written_from_scan rest found.0 found.1 is in
    let long : found.1 + 2 ≤ 1 + length rest = omega (arith, w.ends, ap length w.splits, length-append w.written (34 ∷ w.rest)) in
    within_if (1 + length rest) (is_text_value found.0) _ _ (λ e. record { some = omega arith; within = long }) (λ e. one_within (length rest))

mark_if : (all : ℕ) (b : Bool) (x y : Option AnyMark) → IsWithin all (mark_lexeme x).1 → IsWithin all (mark_lexeme y).1 → IsWithin all (mark_lexeme (cond b x y)).1
mark_if all true x y h k = h
mark_if all false x y h k = k

-- a mark of two bytes or of one
two_within : (kind : ℕ → Bool) (rest : List ℕ) (long short : AnyMark) → length (mark_text long) ≡ 2 → length (mark_text short) ≡ 1
    → IsWithin (1 + length rest) (mark_lexeme (Some (cond (begins_with kind rest) long short))).1
two_within kind [] long short l s = record { some = omega (arith, s); within = omega (arith, s) }
two_within kind (next ∷ rest) long short l s = by (kind next)
  where
    by : (b : Bool) → IsWithin (1 + length (next ∷ rest)) (mark_lexeme (Some (cond b long short))).1
    by true = record { some = omega (arith, l); within = omega (arith, l) }
    by false = record { some = omega (arith, s); within = omega (arith, s) }

mark_within : (byte : ℕ) (rest : List ℕ) → IsWithin (1 + length rest) (mark_lexeme (mark_at byte rest)).1
mark_within byte rest =
    let all = 1 + length rest in
    let one = one_within (length rest) in
    mark_if all (byte == 40) _ _ one (mark_if all (byte == 41) _ _ one (mark_if all (byte == 44) _ _ one
    (mark_if all (byte == 59) _ _ one (mark_if all (byte == 58) _ _ one (mark_if all (byte == 46) _ _ one
    (mark_if all (byte == 91) _ _ one (mark_if all (byte == 93) _ _ one (mark_if all (byte == 42) _ _ one
    (mark_if all (byte == 61) _ _ one
    (mark_if all (byte == 60) _ _ (two_within (λ next. next == 61) rest marks.AtMost marks.Less refl refl)
    (mark_if all (byte == 45) _ _ (two_within (λ next. next == 62) rest marks.Arrow marks.Minus refl refl)
    (mark_if all (byte == 43) _ _ (two_within (λ next. next == 45) rest marks.PlusMinus marks.Plus refl refl) one))))))))))))

pub start_is_byte : (byte : ℕ) → is_word_start byte ≡ true → is_word_byte byte ≡ true
start_is_byte byte e = grind (arith, nat_tests)

lexeme_within : (byte : ℕ) (rest : List ℕ) → IsWithin (1 + length rest) (lexeme_at byte rest).1
lexeme_within byte rest =
    let all = 1 + length rest in
    within_if all (is_word_start byte) _ _ (λ e. front_within is_word_byte byte rest (start_is_byte byte e))
    (λ a. within_if all (is_ascii_digit byte) _ _ (λ e. digits_within e)
    (λ b. within_if all (byte == 45 && begins_with is_ascii_digit rest) _ _ (λ e. negative_within rest (and_parts _ _ e).1)
    (λ c. within_if all (byte == 34) _ _ (λ e. text_within rest (text_front false rest) refl) (λ d. mark_within byte rest))))
  where
    digits_within : is_ascii_digit byte ≡ true → IsWithin (1 + length rest) (digits_lexeme (take_while is_ascii_digit (byte ∷ rest))).1
    digits_within e = within_if (1 + length rest) (nat_lt (digits_value 10 (take_while is_ascii_digit (byte ∷ rest))) (2 ^ 63)) _ _ (λ h. front_within is_ascii_digit byte rest e)
        (λ h. one_within (length rest))

    negative_within : (bytes : List ℕ) → begins_with is_ascii_digit bytes ≡ true → IsWithin (1 + length bytes) (negative_lexeme (take_while is_ascii_digit bytes)).1
    negative_within [] e = absurd cc
    negative_within (first ∷ bytes) e =
        let w = front_within is_ascii_digit first bytes e in
        within_if (1 + length (first ∷ bytes)) (nat_le (digits_value 10 (take_while is_ascii_digit (first ∷ bytes))) (2 ^ 63)) _ _
        (λ h. record { some = omega arith; within = omega (arith, w.within) }) (λ h. one_within (length (first ∷ bytes)))

piece_within : (all : ℕ) (token : Token) (size : ℕ) → 0 < all → IsWithin all size → IsWithin all (token_piece all (token, size)).1
piece_within all (WordToken word) size some w = w
piece_within all (NumberToken value) size some w = w
piece_within all (NegativeToken value) size some w = w
piece_within all (TextToken text) size some w = w
piece_within all (SymbolToken mark) size some w = w
piece_within all WrongToken size some w = record { some = some; within = omega arith }

pub front_is_within : (bytes : List ℕ) (token : Token) (size : ℕ) → IsFrontToken bytes token size → (0 < size) × (size ≤ length bytes)
front_is_within [] token size front = absurd front
front_is_within (byte ∷ rest) token size front =
    let lexeme = lexeme_at byte rest in
    let w = piece_within (1 + length rest) lexeme.0 lexeme.1 (omega arith) (lexeme_within byte rest) in
    let is : (token_piece (1 + length rest) (lexeme.0, lexeme.1)).1 ≡ size = ap (λ (p : CutPiece). p.1) front in
    (omega (arith, w.some, is), omega (arith, w.within, is))

-- ---- a word is a word, and a value is one of the program

proper_if : (b : Bool) (x y : Lexeme) → (b ≡ true → IsProper x.0) → (b ≡ false → IsProper y.0) → IsProper (cond b x y).0
proper_if true x y h k = h refl
proper_if false x y h k = k refl

pub front_is_word : (byte : ℕ) (rest : List ℕ) → is_word_start byte ≡ true → is_word (take_while is_word_byte (byte ∷ rest)) ≡ true
front_is_word byte rest e =
    ap is_word (take_while-cons is_word_byte byte rest ∙ ap (λ b. cond b (byte ∷ take_while is_word_byte rest) []) (start_is_byte byte e))
    ∙ (λ j. e j && front_passes is_word_byte rest j)

text_proper : (r : Option (List ℕ × ℕ)) → IsProper (text_lexeme r).0
text_proper None = tt
text_proper (Some found) = proper_if (is_text_value found.0) (TextToken found.0, found.1 + 2) wrong_lexeme (λ e. text_from_test found.0 e) (λ e. tt)

mark_proper : (m : Option AnyMark) → IsProper (mark_lexeme m).0
mark_proper None = tt
mark_proper (Some mark) = tt

lexeme_proper : (byte : ℕ) (rest : List ℕ) → IsProper (lexeme_at byte rest).0
lexeme_proper byte rest =
    proper_if (is_word_start byte) _ _ (λ e. front_is_word byte rest e)
    (λ a. proper_if (is_ascii_digit byte) _ _ (λ e. digits_proper (take_while is_ascii_digit (byte ∷ rest)))
    (λ b. proper_if (byte == 45 && begins_with is_ascii_digit rest) _ _ (λ e. negative_proper (take_while is_ascii_digit rest))
    (λ c. proper_if (byte == 34) _ _ (λ e. text_proper (text_front false rest)) (λ d. mark_proper (mark_at byte rest)))))
  where
    digits_proper : (digits : List ℕ) → IsProper (digits_lexeme digits).0
    digits_proper digits = proper_if (nat_lt (digits_value 10 digits) (2 ^ 63)) (NumberToken (digits_value 10 digits), length digits) wrong_lexeme (λ e. lt_from_true _ _ e) (λ e. tt)

    negative_proper : (digits : List ℕ) → IsProper (negative_lexeme digits).0
    negative_proper digits = proper_if (nat_le (digits_value 10 digits) (2 ^ 63)) (NegativeToken (digits_value 10 digits), 1 + length digits) wrong_lexeme (λ e. le_from_true _ _ e) (λ e. tt)

piece_proper : (all : ℕ) (token other : Token) (size n : ℕ) → IsProper token → token_piece all (token, size) ≡ (Some other, n) → IsProper other
piece_proper all token other size n proper is = subst IsProper (some_is _ _ (sym (kept token) ∙ ap (λ (p : CutPiece). p.0) is)) proper
  where
    some_is : (x y : Token) → Some x ≡ Some y → x ≡ y
    some_is x y e = cc

    kept : (t : Token) → (token_piece all (t, size)).0 ≡ Some t
    kept (WordToken word) = refl
    kept (NumberToken value) = refl
    kept (NegativeToken value) = refl
    kept (TextToken text) = refl
    kept (SymbolToken mark) = refl
    kept WrongToken = refl

pub front_is_proper : (bytes : List ℕ) (token : Token) (size : ℕ) → IsFrontToken bytes token size → IsProper token
front_is_proper [] token size front = absurd front
front_is_proper (byte ∷ rest) token size front =
    let lexeme = lexeme_at byte rest in
    piece_proper (1 + length rest) lexeme.0 token lexeme.1 size (lexeme_proper byte rest) front
