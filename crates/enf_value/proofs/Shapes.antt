-- What is spelled at the front of bytes: at most one token as long as it can be, which is the lexeme there where its value fits.
use Rattle.enf_value.proofs.Vocabulary.{◌≡◌, ℕ, zero, suc, ◌+◌, ◌^◌, ◌<◌, ◌≤◌, ◌==◌, nat_lt, nat_le, ◌&&◌, Bool, true, false, cond, List, [], ◌∷◌, ◌++◌, length, slice_index, take, drop, Option, None}
use Rattle.enf_value.proofs.Vocabulary.{Some, ◌⊎◌, inl, inr, refl, sym, ap, subst, ◌∙◌, arith, if◌then◌else◌, append_assoc, length-append, is_ascii_digit, list_all, prefix_len, take_while, AllDigits}
use Rattle.enf_value.proofs.Vocabulary.{IsNumeral, digits_value, eqb-true, and_parts, nat_tests, take-append-drop, length-prefix_len, is_word, is_word_byte, is_word_start, Token, WordToken}
use Rattle.enf_value.proofs.Vocabulary.{NumberToken, NegativeToken, TextToken, SymbolToken, WrongToken, begins_with, lexeme_at, mark_at, mark_lexeme, mark_text, text_front, text_lexeme, wrong_lexeme}
use Rattle.enf_value.proofs.Vocabulary.{IsTextToken, IsTextValue, is_text_value, SpellsToken, IsProper, WrittenTextAt, Mark as AnyMark, le_from_true, lt_from_true}
use Rattle.enf_value.proofs.Escapes.{scan_from_written, written_from_scan}
use Rattle.enf_value.proofs.Fronts.{digit_lexeme, front_is_word, front_numeral, lexeme_by, minus_lexeme, start_is_byte, text_from_test, text_test, word_front, digit_no_word}
use Rattle.enf_value.proofs.Numerals.{range_from_digit, test_from_range}
use Rattle.enf_value.proofs.TextTokens.{written_from_text}
use Rattle.enf_value.specs.declared.tokens.Mark.TheVariants as marks

-- ---- the kind of a token, by its first byte

data Kind : Type 0 where
  WordKind : Kind
  DigitKind : Kind
  QuoteKind : Kind
  MarkKind : Kind

abbrev class_by : (word digit quote : Bool) → Kind
class_by word digit quote = if word then WordKind else (if digit then DigitKind else (if quote then QuoteKind else MarkKind))

abbrev class : ℕ → Kind
class byte = class_by (is_word_start byte) (is_ascii_digit byte) (byte == 34)

-- a minus begins both marks and numbers
abbrev kind_of : Token → Kind
kind_of (WordToken word) = WordKind
kind_of (NumberToken value) = DigitKind
kind_of (NegativeToken value) = MarkKind
kind_of (TextToken text) = QuoteKind
kind_of (SymbolToken mark) = MarkKind
kind_of WrongToken = MarkKind

record HasKind (bytes : List ℕ) (kind : Kind) : Type 0 where
  pub some : 0 < length bytes
  pub class : class (slice_index bytes 0) ≡ kind

digit_class : (byte : ℕ) → is_ascii_digit byte ≡ true → class byte ≡ DigitKind
digit_class byte e = λ j. class_by (digit_no_word byte e j) (e j) (byte == 34)

mark_kind : (mark : AnyMark) → HasKind (mark_text mark) MarkKind
mark_kind marks.OpenParen = record { some = omega arith; class = refl }
mark_kind marks.CloseParen = record { some = omega arith; class = refl }
mark_kind marks.Comma = record { some = omega arith; class = refl }
mark_kind marks.Semicolon = record { some = omega arith; class = refl }
mark_kind marks.Colon = record { some = omega arith; class = refl }
mark_kind marks.Dot = record { some = omega arith; class = refl }
mark_kind marks.OpenBracket = record { some = omega arith; class = refl }
mark_kind marks.CloseBracket = record { some = omega arith; class = refl }
mark_kind marks.Star = record { some = omega arith; class = refl }
mark_kind marks.Equal = record { some = omega arith; class = refl }
mark_kind marks.Less = record { some = omega arith; class = refl }
mark_kind marks.AtMost = record { some = omega arith; class = refl }
mark_kind marks.Arrow = record { some = omega arith; class = refl }
mark_kind marks.Plus = record { some = omega arith; class = refl }
mark_kind marks.Minus = record { some = omega arith; class = refl }
mark_kind marks.PlusMinus = record { some = omega arith; class = refl }

numeral_kind : (digits : List ℕ) → IsNumeral 10 digits → HasKind digits DigitKind
numeral_kind [] numeral = absurd (omega (arith, numeral.0))
numeral_kind (byte ∷ digits) numeral =
    let r = range_from_digit byte numeral.1.0 in
    record { some = omega arith; class = digit_class byte (test_from_range byte r.0 r.1) }

word_kind : (word : List ℕ) → is_word word ≡ true → HasKind word WordKind
word_kind [] e = absurd cc
word_kind (byte ∷ word) e =
    let h = and_parts (is_word_start byte) (list_all is_word_byte word) e in
    record { some = omega arith; class = λ j. class_by (h.0 j) (is_ascii_digit byte) (byte == 34) }

spelled_kind : (piece : List ℕ) (token : Token) → SpellsToken piece token → HasKind piece (kind_of token)
spelled_kind piece (WordToken word) (is, proper) = subst (λ l. HasKind l WordKind) (sym is) (word_kind word proper)
spelled_kind piece (NumberToken value) (numeral, is) = numeral_kind piece numeral
spelled_kind piece (NegativeToken value) (digits, split, numeral, is) = subst (λ l. HasKind l MarkKind) (sym split) (record { some = omega arith; class = refl })
spelled_kind piece (TextToken text) (written, split, pieces) = subst (λ l. HasKind l QuoteKind) (sym split) (record { some = omega arith; class = refl })
spelled_kind piece (SymbolToken mark) is = subst (λ l. HasKind l MarkKind) (sym is) (mark_kind mark)
spelled_kind piece WrongToken none = absurd none

first_is : (byte : ℕ) (rest more behind : List ℕ) → byte ∷ rest ≡ more ++ behind → 0 < length more → slice_index more 0 ≡ byte
first_is byte rest [] behind e some = absurd (omega arith)
first_is byte rest (x ∷ more) behind e some = ap (λ l. slice_index l 0) (sym e)

-- a token at the front has the kind of the first byte
kind_at : (byte : ℕ) (rest more behind : List ℕ) (token : Token) (kind : Kind) → class byte ≡ kind → byte ∷ rest ≡ more ++ behind → SpellsToken more token → kind_of token ≡ kind
kind_at byte rest more behind token kind at split spells =
    let has = spelled_kind more token spells in
    sym has.class ∙ ap class (first_is byte rest more behind split has.some) ∙ at

-- ---- fronts of one kind of byte

front_bound : (kind : ℕ → Bool) (more rest : List ℕ) → list_all kind more ≡ true → length more ≤ prefix_len kind (more ++ rest)
front_bound kind [] rest each = omega arith
front_bound kind (byte ∷ more) rest each =
    let h = and_parts (kind byte) (list_all kind more) each in
    let is : prefix_len kind (byte ∷ (more ++ rest)) ≡ 1 + prefix_len kind (more ++ rest) = ap (λ b. cond b (1 + prefix_len kind (more ++ rest)) 0) h.0 in
    let below = front_bound kind more rest h.1 in
    omega arith

front_size : (kind : ℕ → Bool) (bytes more behind : List ℕ) → bytes ≡ more ++ behind → list_all kind more ≡ true → length more ≤ length (take_while kind bytes)
front_size kind bytes more behind split each =
    let bound = subst (λ l. length more ≤ prefix_len kind l) (sym split) (front_bound kind more behind each) in
    omega (arith, bound, length-prefix_len kind bytes)

front_splits : (kind : ℕ → Bool) (bytes : List ℕ) → bytes ≡ take_while kind bytes ++ drop (prefix_len kind bytes) bytes
front_splits kind bytes = sym (take-append-drop (prefix_len kind bytes) bytes)

pub digits_pass : (digits : List ℕ) → AllDigits 10 digits → list_all is_ascii_digit digits ≡ true
digits_pass [] each = refl
digits_pass (byte ∷ digits) each =
    let r = range_from_digit byte each.0 in λ j. test_from_range byte r.0 r.1 j && digits_pass digits each.1 j

word_passes : (word : List ℕ) → is_word word ≡ true → list_all is_word_byte word ≡ true
word_passes [] e = refl
word_passes (byte ∷ word) e = let h = and_parts (is_word_start byte) (list_all is_word_byte word) e in λ j. start_is_byte byte h.0 j && h.1 j

not_less : (m n : ℕ) → nat_lt m n ≡ false → m < n → ⊥
not_less m n e h = grind (arith, nat_tests)

not_at_most : (m n : ℕ) → nat_le m n ≡ false → m ≤ n → ⊥
not_at_most m n e h = grind (arith, nat_tests)

-- ---- what stands at the front

-- a token, the longest and the only one of its length, whose value fits or not
pub record Spelled (byte : ℕ) (rest : List ℕ) : Type 0 where
  pub piece : List ℕ
  pub behind : List ℕ
  pub token : Token
  pub splits : byte ∷ rest ≡ piece ++ behind
  pub spells : SpellsToken piece token
  pub bound : (more after : List ℕ) (other : Token) → byte ∷ rest ≡ more ++ after → SpellsToken more other → length more ≤ length piece
  pub same : (other : Token) → SpellsToken piece other → other ≡ token
  pub lexeme : ((lexeme_at byte rest ≡ (token, length piece)) × IsProper token) ⊎ ((lexeme_at byte rest ≡ wrong_lexeme) × (IsProper token → ⊥))

-- or none
pub record Unspelled (byte : ℕ) (rest : List ℕ) : Type 0 where
  pub none : (more after : List ℕ) (other : Token) → byte ∷ rest ≡ more ++ after → SpellsToken more other → ⊥
  pub lexeme : lexeme_at byte rest ≡ wrong_lexeme

abbrev pub Shape : ℕ → List ℕ → Type 0
Shape byte rest = Spelled byte rest ⊎ Unspelled byte rest

-- a word
word_shape : (byte : ℕ) (rest : List ℕ) → is_word_start byte ≡ true → Spelled byte rest
word_shape byte rest start = record {
  piece = take_while is_word_byte (byte ∷ rest);
  behind = drop (prefix_len is_word_byte (byte ∷ rest)) (byte ∷ rest);
  token = WordToken (take_while is_word_byte (byte ∷ rest));
  splits = front_splits is_word_byte (byte ∷ rest);
  spells = (refl, front_is_word byte rest start);
  bound = bound;
  same = λ other spells. same other spells (at _ _ other (front_splits is_word_byte (byte ∷ rest)) spells);
  lexeme = inl (word_front byte rest start, front_is_word byte rest start);
}
  where
    is_class : class byte ≡ WordKind
    is_class = λ j. class_by (start j) (is_ascii_digit byte) (byte == 34)

    at : (more after : List ℕ) (other : Token) → byte ∷ rest ≡ more ++ after → SpellsToken more other → kind_of other ≡ WordKind
    at more after other split spells = kind_at byte rest more after other WordKind is_class split spells

    by : (more after : List ℕ) (other : Token) → byte ∷ rest ≡ more ++ after → SpellsToken more other → kind_of other ≡ WordKind → length more ≤ length (take_while is_word_byte (byte ∷ rest))
    by more after (WordToken word) split (is, proper) kind =
        front_size is_word_byte (byte ∷ rest) more after split (ap (list_all is_word_byte) is ∙ word_passes word proper)
    by more after (NumberToken value) split spells kind = absurd cc
    by more after (NegativeToken value) split spells kind = absurd cc
    by more after (TextToken text) split spells kind = absurd cc
    by more after (SymbolToken mark) split spells kind = absurd cc
    by more after WrongToken split spells kind = absurd spells

    bound : (more after : List ℕ) (other : Token) → byte ∷ rest ≡ more ++ after → SpellsToken more other → length more ≤ length (take_while is_word_byte (byte ∷ rest))
    bound more after other split spells = by more after other split spells (at more after other split spells)

    same : (other : Token) → SpellsToken (take_while is_word_byte (byte ∷ rest)) other → kind_of other ≡ WordKind → other ≡ WordToken (take_while is_word_byte (byte ∷ rest))
    same (WordToken word) (is, proper) kind = ap WordToken (sym is)
    same (NumberToken value) spells kind = absurd cc
    same (NegativeToken value) spells kind = absurd cc
    same (TextToken text) spells kind = absurd cc
    same (SymbolToken mark) spells kind = absurd cc
    same WrongToken spells kind = absurd spells

-- digits
digits_shape : (byte : ℕ) (rest : List ℕ) → is_ascii_digit byte ≡ true → Spelled byte rest
digits_shape byte rest digit = record {
  piece = digits;
  behind = drop (prefix_len is_ascii_digit (byte ∷ rest)) (byte ∷ rest);
  token = NumberToken (digits_value 10 digits);
  splits = front_splits is_ascii_digit (byte ∷ rest);
  spells = (front_numeral byte rest digit, refl);
  bound = λ more after other split spells. bound more after other split spells (kind_at byte rest more after other DigitKind (digit_class byte digit) split spells);
  same = λ other spells. same other spells (kind_at byte rest digits _ other DigitKind (digit_class byte digit) (front_splits is_ascii_digit (byte ∷ rest)) spells);
  lexeme = lexeme (nat_lt (digits_value 10 digits) (2 ^ 63)) refl;
}
  where
    digits : List ℕ
    digits = take_while is_ascii_digit (byte ∷ rest)

    bound : (more after : List ℕ) (other : Token) → byte ∷ rest ≡ more ++ after → SpellsToken more other → kind_of other ≡ DigitKind → length more ≤ length (take_while is_ascii_digit (byte ∷ rest))
    bound more after (WordToken word) split spells kind = absurd cc
    bound more after (NumberToken value) split spells kind = front_size is_ascii_digit (byte ∷ rest) more after split (digits_pass more spells.0.1)
    bound more after (NegativeToken value) split spells kind = absurd cc
    bound more after (TextToken text) split spells kind = absurd cc
    bound more after (SymbolToken mark) split spells kind = absurd cc
    bound more after WrongToken split spells kind = absurd spells

    same : (other : Token) → SpellsToken (take_while is_ascii_digit (byte ∷ rest)) other → kind_of other ≡ DigitKind → other ≡ NumberToken (digits_value 10 (take_while is_ascii_digit (byte ∷ rest)))
    same (WordToken word) spells kind = absurd cc
    same (NumberToken value) spells kind = ap NumberToken spells.1
    same (NegativeToken value) spells kind = absurd cc
    same (TextToken text) spells kind = absurd cc
    same (SymbolToken mark) spells kind = absurd cc
    same WrongToken spells kind = absurd spells

    lexeme : (b : Bool) → nat_lt (digits_value 10 (take_while is_ascii_digit (byte ∷ rest))) (2 ^ 63) ≡ b
        → ((lexeme_at byte rest ≡ (NumberToken (digits_value 10 (take_while is_ascii_digit (byte ∷ rest))), length (take_while is_ascii_digit (byte ∷ rest))))
        × (digits_value 10 (take_while is_ascii_digit (byte ∷ rest)) < 2 ^ 63))
        ⊎ ((lexeme_at byte rest ≡ wrong_lexeme) × (digits_value 10 (take_while is_ascii_digit (byte ∷ rest)) < 2 ^ 63 → ⊥))
    lexeme true e = inl (
      digit_lexeme byte rest digit ∙ ap (λ b. if b then (NumberToken (digits_value 10 (take_while is_ascii_digit (byte ∷ rest))), length (take_while is_ascii_digit (byte ∷ rest)))
          else wrong_lexeme) e,
      lt_from_true _ _ e,
    )
    lexeme false e = inr (
      digit_lexeme byte rest digit ∙ ap (λ b. if b then (NumberToken (digits_value 10 (take_while is_ascii_digit (byte ∷ rest))), length (take_while is_ascii_digit (byte ∷ rest)))
          else wrong_lexeme) e,
      λ small. not_less _ _ e small,
    )

-- a minus and digits
two_at_most : (mark : AnyMark) → (length (mark_text mark) ≤ 2) × (is_ascii_digit (slice_index (mark_text mark) 1) ≡ false)
two_at_most marks.OpenParen = (omega arith, refl)
two_at_most marks.CloseParen = (omega arith, refl)
two_at_most marks.Comma = (omega arith, refl)
two_at_most marks.Semicolon = (omega arith, refl)
two_at_most marks.Colon = (omega arith, refl)
two_at_most marks.Dot = (omega arith, refl)
two_at_most marks.OpenBracket = (omega arith, refl)
two_at_most marks.CloseBracket = (omega arith, refl)
two_at_most marks.Star = (omega arith, refl)
two_at_most marks.Equal = (omega arith, refl)
two_at_most marks.Less = (omega arith, refl)
two_at_most marks.AtMost = (omega arith, refl)
two_at_most marks.Arrow = (omega arith, refl)
two_at_most marks.Plus = (omega arith, refl)
two_at_most marks.Minus = (omega arith, refl)
two_at_most marks.PlusMinus = (omega arith, refl)

first_digit : (byte : ℕ) (rest : List ℕ) → is_ascii_digit byte ≡ true → is_ascii_digit (slice_index (take_while is_ascii_digit (byte ∷ rest)) 0) ≡ true
first_digit byte rest digit = by (prefix_len is_ascii_digit (byte ∷ rest)) (omega (arith, ap (λ b. cond b (1 + prefix_len is_ascii_digit rest) 0) digit))
  where
    by : (n : ℕ) → 0 < n → is_ascii_digit (slice_index (take n (byte ∷ rest)) 0) ≡ true
    by zero some = absurd (omega arith)
    by (suc n) some = digit

negative_shape : (byte : ℕ) (rest : List ℕ) → is_ascii_digit byte ≡ true → Spelled 45 (byte ∷ rest)
negative_shape byte rest digit = record {
  piece = 45 ∷ digits;
  behind = drop (prefix_len is_ascii_digit (byte ∷ rest)) (byte ∷ rest);
  token = NegativeToken (digits_value 10 digits);
  splits = ap (λ l. 45 ∷ l) (front_splits is_ascii_digit (byte ∷ rest));
  spells = (digits, refl, front_numeral byte rest digit, refl);
  bound = λ more after other split spells. bound more after other split spells (kind_at 45 (byte ∷ rest) more after other MarkKind refl split spells);
  same = λ other spells. same other spells (kind_at 45 (byte ∷ rest) (45 ∷ digits) _ other MarkKind refl (ap (λ l. 45 ∷ l) (front_splits is_ascii_digit (byte ∷ rest))) spells);
  lexeme = lexeme (nat_le (digits_value 10 digits) (2 ^ 63)) refl;
}
  where
    digits : List ℕ
    digits = take_while is_ascii_digit (byte ∷ rest)

    some : 0 < length (take_while is_ascii_digit (byte ∷ rest))
    some = (front_numeral byte rest digit).0

    bound : (more after : List ℕ) (other : Token) → 45 ∷ byte ∷ rest ≡ more ++ after → SpellsToken more other → kind_of other ≡ MarkKind
        → length more ≤ length (45 ∷ take_while is_ascii_digit (byte ∷ rest))
    bound more after (WordToken word) split spells kind = absurd cc
    bound more after (NumberToken value) split spells kind = absurd cc
    bound more after (NegativeToken value) split (ds, is, numeral, value_is) kind =
        let split' : byte ∷ rest ≡ ds ++ after = ap (drop 1) (split ∙ ap (λ l. l ++ after) is) in
        let below = front_size is_ascii_digit (byte ∷ rest) ds after split' (digits_pass ds numeral.1) in
        omega (arith, ap length is)
    bound more after (TextToken text) split spells kind = absurd cc
    bound more after (SymbolToken mark) split is kind =
        let few = (two_at_most mark).0 in omega (arith, ap length is, some)
    bound more after WrongToken split spells kind = absurd spells

    same : (other : Token) → SpellsToken (45 ∷ take_while is_ascii_digit (byte ∷ rest)) other → kind_of other ≡ MarkKind → other
        ≡ NegativeToken (digits_value 10 (take_while is_ascii_digit (byte ∷ rest)))
    same (WordToken word) spells kind = absurd cc
    same (NumberToken value) spells kind = absurd cc
    same (NegativeToken value) (ds, is, numeral, value_is) kind = ap NegativeToken (value_is ∙ ap (digits_value 10) (sym (ap (drop 1) is)))
    same (TextToken text) spells kind = absurd cc
    same (SymbolToken mark) is kind = absurd (differ (sym (ap (λ l. is_ascii_digit (slice_index l 1)) is ∙ (two_at_most mark).1) ∙ first_digit byte rest digit))
      where
        differ : false ≡ true → ⊥
        differ e = cc
    same WrongToken spells kind = absurd spells

    lexeme : (b : Bool) → nat_le (digits_value 10 (take_while is_ascii_digit (byte ∷ rest))) (2 ^ 63) ≡ b
        → ((lexeme_at 45 (byte ∷ rest) ≡ (NegativeToken (digits_value 10 (take_while is_ascii_digit (byte ∷ rest))), length (45 ∷ take_while is_ascii_digit (byte ∷ rest))))
        × (digits_value 10 (take_while is_ascii_digit (byte ∷ rest)) ≤ 2 ^ 63))
        ⊎ ((lexeme_at 45 (byte ∷ rest) ≡ wrong_lexeme) × (digits_value 10 (take_while is_ascii_digit (byte ∷ rest)) ≤ 2 ^ 63 → ⊥))
    lexeme true e = inl (
      minus_lexeme (byte ∷ rest) digit ∙ ap (λ b. if b then (
        NegativeToken (digits_value 10 (take_while is_ascii_digit (byte ∷ rest))),
        1 + length
            (take_while is_ascii_digit (byte ∷ rest)),
      ) else wrong_lexeme) e
          ∙ ap (λ n. (NegativeToken (digits_value 10 (take_while is_ascii_digit (byte ∷ rest))), n)) (omega arith),
      le_from_true _ _ e,
    )
    lexeme false e = inr (
      minus_lexeme (byte ∷ rest) digit ∙ ap (λ b. if b then (
        NegativeToken (digits_value 10 (take_while is_ascii_digit (byte ∷ rest))),
        1 + length
            (take_while is_ascii_digit (byte ∷ rest)),
      ) else wrong_lexeme) e,
      λ small. not_at_most _ _ e small,
    )

-- a text
text_only : (rest more after : List ℕ) (other : Token) → 34 ∷ rest ≡ more ++ after → SpellsToken more other → (text : List ℕ) × (other ≡ TextToken text) × IsTextToken more text
text_only rest more after other split spells = by other spells (kind_at 34 rest more after other QuoteKind refl split spells)
  where
    by : (token : Token) → SpellsToken more token → kind_of token ≡ QuoteKind → (text : List ℕ) × (token ≡ TextToken text) × IsTextToken more text
    by (WordToken word) s kind = absurd cc
    by (NumberToken value) s kind = absurd cc
    by (NegativeToken value) s kind = absurd cc
    by (TextToken text) s kind = (text, refl, s)
    by (SymbolToken mark) s kind = absurd cc
    by WrongToken s kind = absurd s

-- what is found up to the last quote of a text
text_found : (rest more after text : List ℕ) → 34 ∷ rest ≡ more ++ after → IsTextToken more text → (quote : ℕ) × (text_front false rest ≡ Some (text, quote)) × (length more ≡ quote + 2)
text_found rest more after text split token =
    let w = written_from_text (34 ∷ rest) more after text split token in
    (w.0, scan_from_written rest text w.0 w.1, w.2)

none_some : (found : List ℕ × ℕ) → None ≡ Some found → ⊥
none_some found e = cc

some_is : (x y : List ℕ × ℕ) → Some x ≡ Some y → x ≡ y
some_is x y e = cc

text_spelled : (rest text : List ℕ) (quote : ℕ) → text_front false rest ≡ Some (text, quote) → WrittenTextAt rest quote text → Spelled 34 rest
text_spelled rest text quote is w = record {
  piece = 34 ∷ w.written ++ 34 ∷ [];
  behind = w.rest;
  token = TextToken text;
  splits = whole;
  spells = (w.written, refl, w.pieces);
  bound = λ more after other split spells.
      let t = text_only rest more after other split spells in
      let f = text_found rest more after t.0 split t.2 in
      let same : f.0 ≡ quote = ap (λ (p : List ℕ × ℕ). p.1) (some_is (t.0, f.0) (text, quote) (sym f.1 ∙ is)) in
      omega (arith, f.2, size);
  same = λ other spells.
      let t = text_only rest (34 ∷ w.written ++ 34 ∷ []) w.rest other whole spells in
      let f = text_found rest (34 ∷ w.written ++ 34 ∷ []) w.rest t.0 whole t.2 in
      t.1 ∙ ap (λ (p : List ℕ × ℕ). TextToken p.0) (some_is (t.0, f.0) (text, quote) (sym f.1 ∙ is));
  lexeme = lexeme (is_text_value text) refl;
}
  where
    whole : 34 ∷ rest ≡ (34 ∷ w.written ++ 34 ∷ []) ++ w.rest
    whole = ap (λ l. 34 ∷ l) (w.splits ∙ sym (append_assoc w.written (34 ∷ []) w.rest))

    size : length (34 ∷ w.written ++ 34 ∷ []) ≡ quote + 2
    size = omega (arith, w.ends, length-append w.written (34 ∷ []))

    lexeme : (b : Bool) → is_text_value text ≡ b
        → ((lexeme_at 34 rest ≡ (TextToken text, length (34 ∷ w.written ++ 34 ∷ []))) × IsTextValue text) ⊎ ((lexeme_at 34 rest ≡ wrong_lexeme) × (IsTextValue text → ⊥))
    lexeme true e = inl (
      ap text_lexeme is ∙ ap (λ b. if b then (TextToken text, quote + 2) else wrong_lexeme) e ∙ ap (λ n. (TextToken text, n)) (sym size),
      text_from_test text e,
    )
    lexeme false e = inr (
      ap text_lexeme is ∙ ap (λ b. if b then (TextToken text, quote + 2) else wrong_lexeme) e,
      λ fits. differ (sym e ∙ text_test text fits),
    )
      where
        differ : false ≡ true → ⊥
        differ h = cc

text_shape : (rest : List ℕ) → Shape 34 rest
text_shape rest = by (text_front false rest) refl
  where
    by : (r : Option (List ℕ × ℕ)) → text_front false rest ≡ r → Shape 34 rest
    by None none = inr (record {
      none = λ more after other split spells.
          let t = text_only rest more after other split spells in
          let f = text_found rest more after t.0 split t.2 in
          none_some (t.0, f.0) (sym none ∙ f.1);
      lexeme = ap text_lexeme none;
    })
    by (Some found) is = inl (text_spelled rest found.0 found.1 is (written_from_scan rest found.0 found.1 is))

-- ---- marks

-- what mark_at finds where a mark stands
record Finds (text : List ℕ) (mark : AnyMark) : Type 0 where
  pub found : AnyMark
  pub is : mark_at (slice_index text 0) (drop 1 text) ≡ Some found
  pub longer : length (mark_text mark) ≤ length (mark_text found)
  pub same : length (mark_text mark) ≡ length (mark_text found) → mark ≡ found

exactly : (text : List ℕ) (mark : AnyMark) → mark_at (slice_index text 0) (drop 1 text) ≡ Some mark → Finds text mark
exactly text mark is = record { found = mark; is = is; longer = omega arith; same = λ e. refl }

-- a mark of one byte that may go on
short : (text : List ℕ) (b : Bool) (long mark : AnyMark) → mark_at (slice_index text 0) (drop 1 text) ≡ Some (cond b long mark)
    → length (mark_text mark) < length (mark_text long) → Finds text mark
short text true long mark is less = record { found = long; is = is; longer = omega arith; same = λ e. absurd (omega arith) }
short text false long mark is less = exactly text mark is

finds : (mark : AnyMark) (after : List ℕ) → Finds (mark_text mark ++ after) mark
finds marks.OpenParen after = exactly (mark_text marks.OpenParen ++ after) marks.OpenParen refl
finds marks.CloseParen after = exactly (mark_text marks.CloseParen ++ after) marks.CloseParen refl
finds marks.Comma after = exactly (mark_text marks.Comma ++ after) marks.Comma refl
finds marks.Semicolon after = exactly (mark_text marks.Semicolon ++ after) marks.Semicolon refl
finds marks.Colon after = exactly (mark_text marks.Colon ++ after) marks.Colon refl
finds marks.Dot after = exactly (mark_text marks.Dot ++ after) marks.Dot refl
finds marks.OpenBracket after = exactly (mark_text marks.OpenBracket ++ after) marks.OpenBracket refl
finds marks.CloseBracket after = exactly (mark_text marks.CloseBracket ++ after) marks.CloseBracket refl
finds marks.Star after = exactly (mark_text marks.Star ++ after) marks.Star refl
finds marks.Equal after = exactly (mark_text marks.Equal ++ after) marks.Equal refl
finds marks.Less after = short (mark_text marks.Less ++ after) (begins_with (λ next. next == 61) after) marks.AtMost marks.Less refl (omega arith)
finds marks.AtMost after = exactly (mark_text marks.AtMost ++ after) marks.AtMost refl
finds marks.Arrow after = exactly (mark_text marks.Arrow ++ after) marks.Arrow refl
finds marks.Plus after = short (mark_text marks.Plus ++ after) (begins_with (λ next. next == 45) after) marks.PlusMinus marks.Plus refl (omega arith)
finds marks.Minus after = short (mark_text marks.Minus ++ after) (begins_with (λ next. next == 62) after) marks.Arrow marks.Minus refl (omega arith)
finds marks.PlusMinus after = exactly (mark_text marks.PlusMinus ++ after) marks.PlusMinus refl

-- the mark that is found stands there
abbrev MarkStands : ℕ → List ℕ → AnyMark → Type 0
MarkStands byte rest mark = (after : List ℕ) × (byte ∷ rest ≡ mark_text mark ++ after)

one_stands : (byte n : ℕ) (rest : List ℕ) (mark : AnyMark) → mark_text mark ≡ n ∷ [] → (byte == n) ≡ true → MarkStands byte rest mark
one_stands byte n rest mark text e = (rest, ap (λ b. b ∷ rest) (eqb-true byte n e) ∙ ap (λ l. l ++ rest) (sym text))

two_stand : (byte n m : ℕ) (rest : List ℕ) (long mark : AnyMark) → mark_text mark ≡ n ∷ [] → mark_text long ≡ n ∷ m ∷ [] → (byte == n) ≡ true
    → MarkStands byte rest (cond (begins_with (λ next. next == m) rest) long mark)
two_stand byte n m [] long mark text longer e = one_stands byte n [] mark text e
two_stand byte n m (next ∷ rest) long mark text longer e = by (next == m) refl
  where
    by : (b : Bool) → (next == m) ≡ b → (after : List ℕ) × (byte ∷ next ∷ rest ≡ mark_text (cond b long mark) ++ after)
    by true h = (rest, (λ j. eqb-true byte n e j ∷ eqb-true next m h j ∷ rest) ∙ ap (λ l. l ++ rest) (sym longer))
    by false h = one_stands byte n (next ∷ rest) mark text e

mark_if : (byte : ℕ) (rest : List ℕ) (b : Bool) (x : AnyMark) (y : Option AnyMark) (mark : AnyMark)
    → (b ≡ true → MarkStands byte rest x) → (y ≡ Some mark → MarkStands byte rest mark) → cond b (Some x) y ≡ Some mark → MarkStands byte rest mark
mark_if byte rest true x y mark h k e = subst (MarkStands byte rest) (mark_is x mark e) (h refl)
  where
    mark_is : (a b : AnyMark) → Some a ≡ Some b → a ≡ b
    mark_is a b same = cc
mark_if byte rest false x y mark h k e = k e

mark_stands : (byte : ℕ) (rest : List ℕ) (mark : AnyMark) → mark_at byte rest ≡ Some mark → MarkStands byte rest mark
mark_stands byte rest mark =
    mark_if byte rest (byte == 40) _ _ mark (one_stands byte 40 rest marks.OpenParen refl)
    (mark_if byte rest (byte == 41) _ _ mark (one_stands byte 41 rest marks.CloseParen refl)
    (mark_if byte rest (byte == 44) _ _ mark (one_stands byte 44 rest marks.Comma refl)
    (mark_if byte rest (byte == 59) _ _ mark (one_stands byte 59 rest marks.Semicolon refl)
    (mark_if byte rest (byte == 58) _ _ mark (one_stands byte 58 rest marks.Colon refl)
    (mark_if byte rest (byte == 46) _ _ mark (one_stands byte 46 rest marks.Dot refl)
    (mark_if byte rest (byte == 91) _ _ mark (one_stands byte 91 rest marks.OpenBracket refl)
    (mark_if byte rest (byte == 93) _ _ mark (one_stands byte 93 rest marks.CloseBracket refl)
    (mark_if byte rest (byte == 42) _ _ mark (one_stands byte 42 rest marks.Star refl)
    (mark_if byte rest (byte == 61) _ _ mark (one_stands byte 61 rest marks.Equal refl)
    (mark_if byte rest (byte == 60) _ _ mark (two_stand byte 60 61 rest marks.AtMost marks.Less refl refl)
    (mark_if byte rest (byte == 45) _ _ mark (two_stand byte 45 62 rest marks.Arrow marks.Minus refl refl)
    (mark_if byte rest (byte == 43) _ _ mark (two_stand byte 43 45 rest marks.PlusMinus marks.Plus refl refl)
    (λ e. absurd (no_mark e))))))))))))))
  where
    no_mark : None ≡ Some mark → ⊥
    no_mark e = cc

-- where no word, no number and no text begins, a mark alone can stand
module _ (byte : ℕ) (rest : List ℕ) (word : is_word_start byte ≡ false) (digit : is_ascii_digit byte ≡ false) (quote : (byte == 34) ≡ false)
    (minus : (byte == 45 && begins_with is_ascii_digit rest) ≡ false) where
  is_mark : class byte ≡ MarkKind
  is_mark = λ j. class_by (word j) (digit j) (quote j)

  lexeme_is : lexeme_at byte rest ≡ mark_lexeme (mark_at byte rest)
  lexeme_is = λ j. lexeme_by (word j) (digit j) (minus j) (quote j) byte rest

  -- no minus stands before a digit
  no_negative : (digits after : List ℕ) → byte ∷ rest ≡ 45 ∷ digits ++ after → IsNumeral 10 digits → ⊥
  no_negative [] after split numeral = omega (arith, numeral.0)
  no_negative (first ∷ digits) after split numeral =
      let r = range_from_digit first numeral.1.0 in
      let at : (byte == 45) ≡ true = ap (λ l. slice_index l 0 == 45) split in
      let next : begins_with is_ascii_digit rest ≡ true = ap (λ l. begins_with is_ascii_digit (drop 1 l)) split ∙ test_from_range first r.0 r.1 in
      differ (sym minus ∙ (λ j. at j && next j))
    where
      differ : false ≡ true → ⊥
      differ e = cc

  only_marks : (more after : List ℕ) (other : Token) → byte ∷ rest ≡ more ++ after → SpellsToken more other → (mark : AnyMark) × (other ≡ SymbolToken mark) × (more ≡ mark_text mark)
  only_marks more after other split spells = by other spells (kind_at byte rest more after other MarkKind is_mark split spells)
    where
      by : (token : Token) → SpellsToken more token → kind_of token ≡ MarkKind → (mark : AnyMark) × (token ≡ SymbolToken mark) × (more ≡ mark_text mark)
      by (WordToken w) s kind = absurd cc
      by (NumberToken value) s kind = absurd cc
      by (NegativeToken value) (digits, is, numeral, value_is) kind = absurd (no_negative digits after (split ∙ ap (λ l. l ++ after) is) numeral)
      by (TextToken text) s kind = absurd cc
      by (SymbolToken mark) s kind = (mark, refl, s)
      by WrongToken s kind = absurd s

  -- the mark that mark_at finds, where one is spelled
  found_at : (more after : List ℕ) (other : Token) (split : byte ∷ rest ≡ more ++ after) (spells : SpellsToken more other)
      → (mark : AnyMark) × (other ≡ SymbolToken mark) × (more ≡ mark_text mark) × Finds (byte ∷ rest) mark
  found_at more after other split spells =
      let m = only_marks more after other split spells in
      (m.0, m.1, m.2, subst (λ l. Finds l m.0) (sym (split ∙ ap (λ l. l ++ after) m.2)) (finds m.0 after))

  mark_shape : Shape byte rest
  mark_shape = by (mark_at byte rest) refl
    where
      no_mark : (mark : AnyMark) → None ≡ Some mark → ⊥
      no_mark mark e = cc

      mark_is : (a b : AnyMark) → Some a ≡ Some b → a ≡ b
      mark_is a b e = cc

      by : (r : Option AnyMark) → mark_at byte rest ≡ r → Shape byte rest
      by None none = inr (record {
        none = λ more after other split spells. let m = found_at more after other split spells in no_mark m.3.found (sym none ∙ m.3.is);
        lexeme = lexeme_is ∙ ap mark_lexeme none;
      })
      by (Some mark) is = inl (spelled (mark_stands byte rest mark is))
        where
          spelled : MarkStands byte rest mark → Spelled byte rest
          spelled (after, whole) = record {
            piece = mark_text mark;
            behind = after;
            token = SymbolToken mark;
            splits = whole;
            spells = refl;
            bound = λ more end other split spells.
                let m = found_at more end other split spells in
                let same = mark_is m.3.found mark (sym m.3.is ∙ is) in
                omega (arith, m.3.longer, ap length m.2, ap (λ x. length (mark_text x)) same);
            same = λ other spells.
                let m = found_at (mark_text mark) after other whole spells in
                let same = mark_is m.3.found mark (sym m.3.is ∙ is) in
                m.1 ∙ ap SymbolToken (m.3.same (sym (ap length m.2) ∙ ap (λ x. length (mark_text x)) (sym same)) ∙ same);
            lexeme = inl (lexeme_is ∙ ap mark_lexeme is, tt);
          }

-- ---- any bytes

pub shape : (byte : ℕ) (rest : List ℕ) → Shape byte rest
shape byte rest = by (is_word_start byte) (is_ascii_digit byte) (byte == 34) (byte == 45 && begins_with is_ascii_digit rest) refl refl refl refl
  where
    by : (a b c d : Bool) → is_word_start byte ≡ a → is_ascii_digit byte ≡ b → (byte == 34) ≡ c → (byte == 45 && begins_with is_ascii_digit rest) ≡ d → Shape byte rest
    by true b c d word digit quote minus = inl (word_shape byte rest word)
    by false true c d word digit quote minus = inl (digits_shape byte rest digit)
    by false false true d word digit quote minus = subst (λ x. Shape x rest) (sym (eqb-true byte 34 quote)) (text_shape rest)
    by false false false true word digit quote minus =
        let h = and_parts (byte == 45) (begins_with is_ascii_digit rest) minus in
        subst (λ x. Shape x rest) (sym (eqb-true byte 45 h.0)) (negative rest h.1)
      where
        negative : (bytes : List ℕ) → begins_with is_ascii_digit bytes ≡ true → Shape 45 bytes
        negative [] e = absurd cc
        negative (first ∷ bytes) e = inl (negative_shape first bytes e)
    by false false false false word digit quote minus = mark_shape byte rest word digit quote minus
