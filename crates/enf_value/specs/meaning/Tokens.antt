-- The tokens of signatures and policies: words and names, values, and how a text is cut into tokens.
use Rattle.std.specs.Char.{is_ascii_alphabetic, is_ascii_alphanumeric, is_ascii_digit}
use Rattle.std.specs.List.{list_all, list_any, flat_map}
use Rattle.std.specs.Prelude.{ℕ, ◌==◌, Bool, ◌||◌, false, ◌&&◌, List, [], ◌∷◌, codes, not, if◌then◌else◌, ◌++◌, ◌≡◌, ℤ}
use Rattle.std.specs.Prelude.{pos, neg_ℤ, ◌⊎◌, Option, Some, None, ◌≢◌, ◌+◌, ◌≤◌, length, drop, ◌-◌, ◌<◌, ◌^◌, nat_lt}
use Rattle.std.specs.Prelude.{nat_le, suc, true, take_while, zero, map}
use Rattle.std.specs.Str.{bytes_eq}
use Rattle.enf_data.specs.declared.values.Value.{Value}
use Rattle.enf_data.specs.declared.values.Value.TheVariants.{Num, Text}
use Rattle.enf_data.specs.meaning.Values.{IsValue}
use Rattle.std.specs.Fmt.{signed_decimal}
use Rattle.std.specs.Str.Parse.{IsNumeral, digits_value}
use Rattle.enf_data.specs.meaning.Texts.{is_text_value}
use Rattle.std.specs.Option.{option_to_list}
use Rattle.enf_value.specs.declared.tokens.Mark.{Mark as AnyMark}
use Rattle.enf_value.specs.declared.tokens.Mark.TheVariants as marks

-- whether a word may begin with a byte: a letter or `_`
abbrev pub is_word_start : ℕ → Bool
is_word_start byte = is_ascii_alphabetic byte || byte == 95

-- whether a byte may stand in a word: a letter, a digit or `_`
abbrev pub is_word_byte : ℕ → Bool
is_word_byte byte = is_ascii_alphanumeric byte || byte == 95

-- whether bytes are a word: a letter or `_`, then letters, digits and `_`
abbrev pub is_word : List ℕ → Bool
is_word [] = false
is_word (byte ∷ bytes) = is_word_start byte && list_all is_word_byte bytes

-- the reserved words, which are no names
abbrev pub reserved : List (List ℕ)
reserved = codes "true" ∷ codes "false" ∷ codes "not" ∷ codes "and" ∷ codes "or" ∷ codes "exists" ∷ codes "forall"
    ∷ codes "prev" ∷ codes "next" ∷ codes "once" ∷ codes "historically" ∷ codes "since" ∷ codes "eventually"
    ∷ codes "always" ∷ codes "until" ∷ codes "rule" ∷ codes "int" ∷ codes "text" ∷ []

-- whether a word is reserved
abbrev pub is_reserved : List ℕ → Bool
is_reserved word = list_any (λ other. bytes_eq other word) reserved

-- whether bytes are a name: a word that is not reserved
abbrev pub is_name : List ℕ → Bool
is_name word = is_word word && not (is_reserved word)

-- ---- The tokens of values: how a value may be written, the value for which bytes stand, and its canonical text.

-- how a byte of a text is written: a quote, a backslash, a line feed, a carriage return and a tab by their escapes,
-- and each other byte as it is
abbrev pub escaped : ℕ → List ℕ
escaped byte = if byte == 34 then 92 ∷ 34 ∷ []
    else (if byte == 92 then 92 ∷ 92 ∷ []
    else (if byte == 10 then 92 ∷ 110 ∷ []
    else (if byte == 13 then 92 ∷ 114 ∷ []
    else (if byte == 9 then 92 ∷ 116 ∷ []
    else byte ∷ []))))

-- a text between quotes
abbrev pub quoted : List ℕ → List ℕ
quoted bytes = 34 ∷ flat_map escaped bytes ++ 34 ∷ []

-- the canonical text of a value: a number in decimal, a text between quotes
abbrev pub spelled : Value → List ℕ
spelled (Num number) = signed_decimal number
spelled (Text bytes) = quoted bytes

-- the bytes are one or more decimal digits, or a minus and such digits, and write this number; leading zeros count
-- for nothing
abbrev pub IsNumberToken : List ℕ → ℤ → Type 0
IsNumberToken token number = (IsNumeral 10 token × (number ≡ pos (digits_value 10 token)))
    ⊎ ((digits : List ℕ) × (token ≡ 45 ∷ digits) × IsNumeral 10 digits
    × (number ≡ neg_ℤ (pos (digits_value 10 digits))))

-- what a byte after a backslash stands for: a quote, a backslash, a line feed, a carriage return, a tab, or nothing
abbrev pub escape_meaning : ℕ → Option ℕ
escape_meaning letter = if letter == 34 then Some 34
    else (if letter == 92 then Some 92
    else (if letter == 110 then Some 10
    else (if letter == 114 then Some 13
    else (if letter == 116 then Some 9
    else None))))

-- what may be written for a byte of a text: itself where it is no quote and no backslash, or a backslash and a letter
-- of that meaning
abbrev pub IsWrittenByte : List ℕ → ℕ → Type 0
IsWrittenByte piece byte = ((piece ≡ byte ∷ []) × (byte ≢ 34) × (byte ≢ 92))
    ⊎ ((letter : ℕ) × (piece ≡ 92 ∷ letter ∷ []) × (escape_meaning letter ≡ Some byte))

-- the bytes are pieces that may be written for the bytes of a text, one after another
abbrev pub IsWrittenText : List ℕ → List ℕ → Type 0
IsWrittenText written [] = written ≡ []
IsWrittenText written (byte ∷ text) =
    (piece rest : List ℕ) × IsWrittenByte piece byte × IsWrittenText rest text × (written ≡ piece ++ rest)

-- the bytes are what may be written for a text, between quotes
abbrev pub IsTextToken : List ℕ → List ℕ → Type 0
IsTextToken token text = (written : List ℕ) × (token ≡ 34 ∷ written ++ 34 ∷ []) × IsWrittenText written text

-- the bytes are a token of the value
abbrev pub IsValueToken : List ℕ → Value → Type 0
IsValueToken token (Num number) = IsNumberToken token number
IsValueToken token (Text text) = IsTextToken token text

-- what follows a number begins with no digit, since a number takes all digits that follow
abbrev pub IsNoDigit : List ℕ → Type 0
IsNoDigit [] = Unit {0}
IsNoDigit (byte ∷ rest) = 48 ≤ byte → byte ≤ 57 → ⊥

abbrev pub EndsBefore : Value → List ℕ → Type 0
EndsBefore (Num number) rest = IsNoDigit rest
EndsBefore (Text text) rest = Unit {0}

-- the bytes from a place to another are a token that stands for a value of the program, as long as it can be
pub record ValueTokenAt (bytes : List ℕ) (at end : ℕ) (value : Value) : Type 0 where
  pub token : List ℕ
  pub rest : List ℕ
  pub splits : drop at bytes ≡ token ++ rest
  pub ends : end ≡ at + length token
  pub stands : IsValueToken token value
  pub whole : EndsBefore value rest
  pub fits : IsValue value

-- ---- The tokens of signatures and policies. A text is cut from the left into pieces, each as long as it can be: tokens,
-- blanks and comments.

-- a word is a name or a reserved word; `Digits` and `Negative` are numbers by the value of their digits, without and
-- with a minus; a text has the bytes for which it stands; a wrong token is one with a fault, or stands where no token
-- begins
pub data Token : Type 0 where
  WordToken : List ℕ → Token
  NumberToken : ℕ → Token
  NegativeToken : ℕ → Token
  TextToken : List ℕ → Token
  SymbolToken : AnyMark → Token
  WrongToken : Token

-- how a mark is written
abbrev pub mark_text : AnyMark → List ℕ
mark_text marks.OpenParen = codes "("
mark_text marks.CloseParen = codes ")"
mark_text marks.Comma = codes ","
mark_text marks.Semicolon = codes ";"
mark_text marks.Colon = codes ":"
mark_text marks.Dot = codes "."
mark_text marks.OpenBracket = codes "["
mark_text marks.CloseBracket = codes "]"
mark_text marks.Star = codes "*"
mark_text marks.Equal = codes "="
mark_text marks.Less = codes "<"
mark_text marks.AtMost = codes "<="
mark_text marks.Arrow = codes "->"
mark_text marks.Plus = codes "+"
mark_text marks.Minus = codes "-"
mark_text marks.PlusMinus = codes "+-"

-- whether a byte is a blank: space, tab, carriage return or line feed
abbrev pub is_blank : ℕ → Bool
is_blank byte = byte == 32 || byte == 9 || byte == 13 || byte == 10

-- whether a byte belongs to a comment: each does but a line feed
abbrev pub is_comment_byte : ℕ → Bool
is_comment_byte byte = not (byte == 10)

-- whether the bytes begin with a byte of a kind
abbrev pub begins_with : (ℕ → Bool) → List ℕ → Bool
begins_with kind [] = false
begins_with kind (byte ∷ bytes) = kind byte

-- the mark at a byte, as long as it can be
abbrev pub mark_at : ℕ → List ℕ → Option AnyMark
mark_at byte rest = if byte == 40 then Some marks.OpenParen
    else (if byte == 41 then Some marks.CloseParen
    else (if byte == 44 then Some marks.Comma
    else (if byte == 59 then Some marks.Semicolon
    else (if byte == 58 then Some marks.Colon
    else (if byte == 46 then Some marks.Dot
    else (if byte == 91 then Some marks.OpenBracket
    else (if byte == 93 then Some marks.CloseBracket
    else (if byte == 42 then Some marks.Star
    else (if byte == 61 then Some marks.Equal
    else (if byte == 60 then Some (if begins_with (λ next. next == 61) rest then marks.AtMost else marks.Less)
    else (if byte == 45 then Some (if begins_with (λ next. next == 62) rest then marks.Arrow else marks.Minus)
    else (if byte == 43 then Some (if begins_with (λ next. next == 45) rest then marks.PlusMinus else marks.Plus)
    else None))))))))))))

-- a token and how many bytes it has
abbrev pub Lexeme : Type 0
Lexeme = Token × ℕ

-- the lexeme where no token begins, or one with a fault
abbrev pub wrong_lexeme : Lexeme
wrong_lexeme = (WrongToken, 1)

abbrev pub word_lexeme : List ℕ → Lexeme
word_lexeme word = (WordToken word, length word)

-- a number without a minus is below 2^63, one with a minus is down to -2^63
abbrev pub digits_lexeme : List ℕ → Lexeme
digits_lexeme digits =
    if nat_lt (digits_value 10 digits) (2 ^ 63) then (NumberToken (digits_value 10 digits), length digits) else
    wrong_lexeme

abbrev pub negative_lexeme : List ℕ → Lexeme
negative_lexeme digits =
    if nat_le (digits_value 10 digits) (2 ^ 63) then (NegativeToken (digits_value 10 digits), 1 + length digits) else
    wrong_lexeme

-- a text that begins with this byte and goes on with the bytes after it, where these end it
abbrev pub with_byte : ℕ → Option (List ℕ × ℕ) → Option (List ℕ × ℕ)
with_byte byte None = None
with_byte byte (Some found) = Some (byte ∷ found.0, suc found.1)

abbrev pub with_escape : Option ℕ → Option (List ℕ × ℕ) → Option (List ℕ × ℕ)
with_escape None found = None
with_escape (Some byte) found = with_byte byte found

abbrev pub with_backslash : Option (List ℕ × ℕ) → Option (List ℕ × ℕ)
with_backslash None = None
with_backslash (Some found) = Some (found.0, suc found.1)

-- the bytes for which those up to the first quote outside an escape stand, and the place of that quote; nothing where
-- an escape is wrong or there is no such quote. `escape` says whether a backslash stands before the bytes
abbrev pub text_front : (escape : Bool) → List ℕ → Option (List ℕ × ℕ)
text_front escape [] = None
text_front true (byte ∷ bytes) = with_escape (escape_meaning byte) (text_front false bytes)
text_front false (byte ∷ bytes) = if byte == 34 then Some ([], 0)
    else (if byte == 92 then with_backslash (text_front true bytes)
    else with_byte byte (text_front false bytes))

abbrev pub text_lexeme : Option (List ℕ × ℕ) → Lexeme
text_lexeme None = wrong_lexeme
text_lexeme (Some found) = if is_text_value found.0 then (TextToken found.0, found.1 + 2) else wrong_lexeme

abbrev pub mark_lexeme : Option AnyMark → Lexeme
mark_lexeme None = wrong_lexeme
mark_lexeme (Some mark) = (SymbolToken mark, length (mark_text mark))

-- the token that begins at a byte which is no blank and begins no comment; a minus before a digit is part of a number
abbrev pub lexeme_at : ℕ → List ℕ → Lexeme
lexeme_at byte rest = if is_word_start byte then word_lexeme (take_while is_word_byte (byte ∷ rest))
    else (if is_ascii_digit byte then digits_lexeme (take_while is_ascii_digit (byte ∷ rest))
    else (if byte == 45 && begins_with is_ascii_digit rest then negative_lexeme (take_while is_ascii_digit rest)
    else (if byte == 34 then text_lexeme (text_front false rest)
    else mark_lexeme (mark_at byte rest))))

-- a piece is a token, or what stands between tokens, with its length
abbrev pub CutPiece : Type 0
CutPiece = Option Token × ℕ

-- after a wrong token nothing is cut: it takes all bytes up to the end
abbrev pub token_piece : (all : ℕ) → Lexeme → CutPiece
token_piece all (WrongToken, size) = (Some WrongToken, all)
token_piece all (token, size) = (Some token, size)

-- the piece at the front of a text that begins with this byte
abbrev pub piece_at : ℕ → List ℕ → CutPiece
piece_at byte rest = if is_blank byte then (None, 1)
    else (if byte == 35 then (None, 1 + length (take_while is_comment_byte rest))
    else token_piece (1 + length rest) (lexeme_at byte rest))

-- a token with its place, a byte offset
abbrev pub TokenAtPlace : Type 0
TokenAtPlace = ℕ × Token

-- the tokens from a place on, where so many bytes still belong to the piece before
abbrev pub tokens_from : (left place : ℕ) → List ℕ → List TokenAtPlace
tokens_from left place [] = []
tokens_from (suc left) place (byte ∷ rest) = tokens_from left (place + 1) rest
tokens_from zero place (byte ∷ rest) = map (λ token. (place, token)) (option_to_list (piece_at byte rest).0)
    ++ tokens_from ((piece_at byte rest).1 - 1) (place + 1) rest

-- the tokens of a text
abbrev pub tokens : List ℕ → List TokenAtPlace
tokens bytes = tokens_from 0 0 bytes

-- the tokens that begin at a place or after it, where no piece goes over that place
abbrev pub tokens_at : List ℕ → ℕ → List TokenAtPlace
tokens_at bytes at = tokens_from 0 at (drop at bytes)

-- tokens without their places
abbrev pub token_kinds : List TokenAtPlace → List Token
token_kinds placed = map (λ token. token.1) placed
