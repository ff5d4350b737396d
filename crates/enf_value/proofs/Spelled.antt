-- The canonical spelling of a token is cut as that token.
use Rattle.enf_value.proofs.Vocabulary.{◌≡◌, ℕ, ◌+◌, ◌^◌, ◌<◌, ◌==◌, ◌&&◌, Bool, true, false, cond, List, [], ◌∷◌, ◌++◌, length, drop, None, Some, refl, sym, ap, subst, ◌∙◌, arith, decimal}
use Rattle.enf_value.proofs.Vocabulary.{is_ascii_digit, list_all, take_while, IsNumeral, digits_value, nat_tests, decimal_is_IsNumeral, take_while-cons, drop-append_seam, or_parts, and_parts}
use Rattle.enf_value.proofs.Vocabulary.{is_word_byte, is_word_start, quoted, IsNoDigit, ValueTokenAt, Token, WordToken, NumberToken, NegativeToken, TextToken, SymbolToken, WrongToken, begins_with}
use Rattle.enf_value.proofs.Vocabulary.{negative_lexeme, token_piece, tokens_from, word_lexeme, IsProper, BeginsToken, IsFrontToken, PrintedIsCut, SpelledIsRead, SpellsToken, StopsBefore}
use Rattle.enf_value.proofs.Vocabulary.{goes_on_with_mark, printed_tokens, token_spelling, Mark as AnyMark}
use Rattle.enf_value.proofs.Fronts.{digits_are_front, front_from_text, front_is_within, negative_is_front, start_is_byte, word_front}
use Rattle.enf_value.proofs.Gaps.{front_step}
use Rattle.enf_value.proofs.Numerals.{range_from_digit, test_from_range}
use Rattle.enf_value.proofs.ValueTokenLaws.{is_printed}
use Rattle.enf_value.specs.declared.tokens.Mark.TheVariants as marks
use Rattle.enf_data.specs.declared.values.Value.TheVariants as values

-- ---- the first byte of a spelling

pub record Starts (bytes : List ℕ) : Type 0 where
  pub first : ℕ
  pub rest : List ℕ
  pub is : bytes ≡ first ∷ rest
  pub begins : BeginsToken first

word_begins : (byte : ℕ) → is_word_start byte ≡ true → BeginsToken byte
word_begins byte e = (grind (arith, nat_tests), λ h. no_hash byte h e)
  where
    no_hash : (b : ℕ) → b ≡ 35 → is_word_start b ≡ true → ⊥
    no_hash b h e = grind (arith, nat_tests)

digit_begins : (byte : ℕ) → is_ascii_digit byte ≡ true → BeginsToken byte
digit_begins byte e = (grind (arith, nat_tests), λ h. no_hash byte h e)
  where
    no_hash : (b : ℕ) → b ≡ 35 → is_ascii_digit b ≡ true → ⊥
    no_hash b h e = grind (arith, nat_tests)

numeral_starts : (digits : List ℕ) → IsNumeral 10 digits → Starts digits
numeral_starts [] numeral = absurd (omega (arith, numeral.0))
numeral_starts (byte ∷ digits) numeral =
    let r = range_from_digit byte numeral.1.0 in
    record { first = byte; rest = digits; is = refl; begins = digit_begins byte (test_from_range byte r.0 r.1) }

mark_starts : (mark : AnyMark) → Starts (token_spelling (SymbolToken mark))
mark_starts marks.OpenParen = record { first = 40; rest = []; is = refl; begins = (refl, λ e. omega arith) }
mark_starts marks.CloseParen = record { first = 41; rest = []; is = refl; begins = (refl, λ e. omega arith) }
mark_starts marks.Comma = record { first = 44; rest = []; is = refl; begins = (refl, λ e. omega arith) }
mark_starts marks.Semicolon = record { first = 59; rest = []; is = refl; begins = (refl, λ e. omega arith) }
mark_starts marks.Colon = record { first = 58; rest = []; is = refl; begins = (refl, λ e. omega arith) }
mark_starts marks.Dot = record { first = 46; rest = []; is = refl; begins = (refl, λ e. omega arith) }
mark_starts marks.OpenBracket = record { first = 91; rest = []; is = refl; begins = (refl, λ e. omega arith) }
mark_starts marks.CloseBracket = record { first = 93; rest = []; is = refl; begins = (refl, λ e. omega arith) }
mark_starts marks.Star = record { first = 42; rest = []; is = refl; begins = (refl, λ e. omega arith) }
mark_starts marks.Equal = record { first = 61; rest = []; is = refl; begins = (refl, λ e. omega arith) }
mark_starts marks.Less = record { first = 60; rest = []; is = refl; begins = (refl, λ e. omega arith) }
mark_starts marks.AtMost = record { first = 60; rest = 61 ∷ []; is = refl; begins = (refl, λ e. omega arith) }
mark_starts marks.Arrow = record { first = 45; rest = 62 ∷ []; is = refl; begins = (refl, λ e. omega arith) }
mark_starts marks.Plus = record { first = 43; rest = []; is = refl; begins = (refl, λ e. omega arith) }
mark_starts marks.Minus = record { first = 45; rest = []; is = refl; begins = (refl, λ e. omega arith) }
mark_starts marks.PlusMinus = record { first = 43; rest = 45 ∷ []; is = refl; begins = (refl, λ e. omega arith) }

-- the first byte of what spells a token
pub spells_starts : (piece : List ℕ) (token : Token) → SpellsToken piece token → Starts piece
spells_starts piece (WordToken []) (is, proper) = absurd (empty proper)
  where
    empty : false ≡ true → ⊥
    empty e = cc
spells_starts piece (WordToken (byte ∷ word)) (is, proper) =
    record { first = byte; rest = word; is = is; begins = word_begins byte (and_parts (is_word_start byte) (list_all is_word_byte word) proper).0 }
spells_starts piece (NumberToken value) spells = numeral_starts piece spells.0
spells_starts piece (NegativeToken value) (digits, is, numeral, value_is) = record { first = 45; rest = digits; is = is; begins = (refl, λ e. omega arith) }
spells_starts piece (TextToken text) (written, is, pieces) = record { first = 34; rest = written ++ 34 ∷ []; is = is; begins = (refl, λ e. omega arith) }
spells_starts piece (SymbolToken mark) is = let s = mark_starts mark in record { first = s.first; rest = s.rest; is = is ∙ s.is; begins = s.begins }
spells_starts piece WrongToken spells = absurd spells

starts : (token : Token) (rest : List ℕ) → IsProper token → StopsBefore token rest → Starts (token_spelling token)
starts (WordToken []) rest proper stops = absurd (empty proper)
  where
    empty : false ≡ true → ⊥
    empty e = cc
starts (WordToken (byte ∷ word)) rest proper stops =
    record { first = byte; rest = word; is = refl; begins = word_begins byte (and_parts _ _ proper).0 }
starts (NumberToken value) rest proper stops = numeral_starts (decimal value) (decimal_is_IsNumeral value (omega arith)).0
starts (NegativeToken value) rest proper stops = record { first = 45; rest = decimal value; is = refl; begins = (refl, λ e. omega arith) }
starts (TextToken text) rest proper stops = record { first = 34; rest = drop 1 (quoted text); is = refl; begins = (refl, λ e. omega arith) }
starts (SymbolToken mark) rest proper stops = mark_starts mark
starts WrongToken rest proper stops = absurd stops

-- ---- the token at the front of its spelling

take_front : (kind : ℕ → Bool) (front rest : List ℕ) → list_all kind front ≡ true → begins_with kind rest ≡ false → take_while kind (front ++ rest) ≡ front
take_front kind [] [] each stops = refl
take_front kind [] (byte ∷ rest) each stops = take_while-cons kind byte rest ∙ ap (λ b. cond b (byte ∷ take_while kind rest) []) stops
take_front kind (byte ∷ front) rest each stops =
    let h = and_parts (kind byte) (list_all kind front) each in
    take_while-cons kind byte (front ++ rest)
    ∙ (λ j. cond (h.0 j) (byte ∷ take_front kind front rest h.1 stops j) [])

no_digit : (rest : List ℕ) → begins_with is_ascii_digit rest ≡ false → IsNoDigit rest
no_digit [] stops = tt
no_digit (byte ∷ rest) stops = λ low high. differ (sym stops ∙ test_from_range byte low high)
  where
    differ : false ≡ true → ⊥
    differ e = cc

numeral_front : (digits rest : List ℕ) → IsNumeral 10 digits → IsNoDigit rest → digits_value 10 digits < 2 ^ 63 → IsFrontToken (digits ++ rest) (NumberToken (digits_value 10 digits)) (length digits)
numeral_front [] rest numeral stops small = absurd (omega (arith, numeral.0))
numeral_front (byte ∷ digits) rest numeral stops small = digits_are_front byte digits rest numeral stops small

two : (all : ℕ) (b : Bool) (long short : AnyMark) → b ≡ false
    → token_piece all (SymbolToken (cond b long short), length (token_spelling (SymbolToken (cond b long short)))) ≡ (Some (SymbolToken short), length (token_spelling (SymbolToken short)))
two all b long short e = ap (λ c. token_piece all (SymbolToken (cond c long short), length (token_spelling (SymbolToken (cond c long short))))) e

minus_front : (rest : List ℕ) → begins_with (goes_on_with_mark marks.Minus) rest ≡ false → IsFrontToken (45 ∷ rest) (SymbolToken marks.Minus) 1
minus_front [] stops = refl
minus_front (byte ∷ rest) stops =
    let h = or_parts (byte == 62) (is_ascii_digit byte) stops in
    λ j. token_piece (1 + length (byte ∷ rest)) (cond (h.1 j) (negative_lexeme (take_while is_ascii_digit (byte ∷ rest)))
    (SymbolToken (cond (h.0 j) marks.Arrow marks.Minus), length (token_spelling (SymbolToken (cond (h.0 j) marks.Arrow marks.Minus)))))

mark_front_is : (mark : AnyMark) (rest : List ℕ) → begins_with (goes_on_with_mark mark) rest ≡ false
    → IsFrontToken (token_spelling (SymbolToken mark) ++ rest) (SymbolToken mark) (length (token_spelling (SymbolToken mark)))
mark_front_is marks.OpenParen rest stops = refl
mark_front_is marks.CloseParen rest stops = refl
mark_front_is marks.Comma rest stops = refl
mark_front_is marks.Semicolon rest stops = refl
mark_front_is marks.Colon rest stops = refl
mark_front_is marks.Dot rest stops = refl
mark_front_is marks.OpenBracket rest stops = refl
mark_front_is marks.CloseBracket rest stops = refl
mark_front_is marks.Star rest stops = refl
mark_front_is marks.Equal rest stops = refl
mark_front_is marks.Less rest stops = two (1 + length rest) (begins_with (λ next. next == 61) rest) marks.AtMost marks.Less stops
mark_front_is marks.AtMost rest stops = refl
mark_front_is marks.Arrow rest stops = refl
mark_front_is marks.Plus rest stops = two (1 + length rest) (begins_with (λ next. next == 45) rest) marks.PlusMinus marks.Plus stops
mark_front_is marks.Minus rest stops = minus_front rest stops
mark_front_is marks.PlusMinus rest stops = refl

spelled_front : (token : Token) (rest : List ℕ) → IsProper token → StopsBefore token rest → IsFrontToken (token_spelling token ++ rest) token (length (token_spelling token))
spelled_front (WordToken []) rest proper stops = absurd (empty proper)
  where
    empty : false ≡ true → ⊥
    empty e = cc
spelled_front (WordToken (byte ∷ word)) rest proper stops =
    let h = and_parts (is_word_start byte) (list_all is_word_byte word) proper in
    let each : list_all is_word_byte (byte ∷ word) ≡ true = λ j. start_is_byte byte h.0 j && h.1 j in
    ap (token_piece (1 + length (word ++ rest))) (word_front byte (word ++ rest) h.0 ∙ ap word_lexeme (take_front is_word_byte (byte ∷ word) rest each stops))
spelled_front (NumberToken value) rest proper stops =
    let d = decimal_is_IsNumeral value (omega arith) in
    subst (λ v. IsFrontToken (decimal value ++ rest) (NumberToken v) (length (decimal value))) d.1 (numeral_front (decimal value) rest d.0 (no_digit rest stops) (omega (arith, d.1)))
spelled_front (NegativeToken value) rest proper stops =
    let d = decimal_is_IsNumeral value (omega arith) in
    let size : 1 + length (decimal value) ≡ length (45 ∷ decimal value) = omega arith in
    subst (λ v. IsFrontToken (45 ∷ (decimal value ++ rest)) (NegativeToken v) (length (45 ∷ decimal value))) d.1
    (subst (IsFrontToken (45 ∷ (decimal value ++ rest)) (NegativeToken (digits_value 10 (decimal value)))) size (negative_is_front (decimal value) rest d.0 (no_digit rest stops) (omega (arith, d.1))))
spelled_front (TextToken text) rest proper stops =
    let t : ValueTokenAt (quoted text ++ rest) 0 (0 + length (quoted text)) (values.Text text) = is_printed (quoted text ++ rest) 0 (values.Text text) rest proper tt refl in
    subst (IsFrontToken (quoted text ++ rest) (TextToken text)) (omega arith) (front_from_text (quoted text ++ rest) text (0 + length (quoted text)) t)
spelled_front (SymbolToken mark) rest proper stops = mark_front_is mark rest stops
spelled_front WrongToken rest proper stops = absurd stops

pub spelled_is_read : SpelledIsRead
spelled_is_read place token rest proper stops =
    let s = starts token rest proper stops in
    let front = spelled_front token rest proper stops in
    let text : token_spelling token ++ rest ≡ s.first ∷ (s.rest ++ rest) = ap (λ l. l ++ rest) s.is in
    let size : 0 < length (token_spelling token) = (front_is_within _ _ _ front).0 in
    ap (tokens_from 0 place) text
    ∙ front_step place s.first (s.rest ++ rest) token (length (token_spelling token)) s.begins (subst (λ l. IsFrontToken l token (length (token_spelling token))) text front) size
    ∙ ap (λ l. (place, token) ∷ tokens_from 0 (place + length (token_spelling token)) l) (ap (drop (length (token_spelling token))) (sym text) ∙ drop-append_seam (token_spelling token) rest)

pub printed_is_cut : PrintedIsCut
printed_is_cut place [] apart = refl
printed_is_cut place (None ∷ pieces) apart = printed_is_cut (place + 1) pieces apart
printed_is_cut place (Some token ∷ pieces) apart =
    spelled_is_read place token (printed_tokens pieces) apart.0 apart.1
    ∙ ap (λ rest. (place, token) ∷ rest) (printed_is_cut (place + length (token_spelling token)) pieces apart.2)
