-- The tokens that the reader gives, as the definition has them.
use Rattle.enf_data.specs.meaning.Texts.{IsTextValue}
use Rattle.std.specs.Char.{is_ascii_digit}
use Rattle.std.specs.Prelude.{◌≡◌, ◌≢◌, ℕ, false, List, [], ◌∷◌, Option, None, ◌==◌, Bool}
use Rattle.std.specs.Prelude.{◌||◌, ◌&&◌, ◌+◌, length, Some, drop, ◌^◌, ◌<◌, ◌≤◌, IsTrue}
use Rattle.enf_value.specs.declared.tokens.Mark.{Mark as AnyMark}
use Rattle.enf_value.specs.declared.tokens.PlacedToken.{PlacedToken}
use Rattle.enf_value.specs.meaning.Tokens.{is_word, Token, WordToken, NumberToken, NegativeToken, TextToken}
use Rattle.enf_value.specs.meaning.Tokens.{SymbolToken, WrongToken, TokenAtPlace, is_blank, mark_at, begins_with}
use Rattle.enf_value.specs.meaning.Tokens.{lexeme_at, token_piece}
use Rattle.enf_value.specs.declared.tokens.Token as read
use Rattle.enf_value.specs.declared.tokens.Token.TheVariants as variants

-- the token that was read
abbrev pub token_of : read.Token → Token
token_of (variants.Word word) = WordToken word.now
token_of (variants.Digits value) = NumberToken value
token_of (variants.Negative value) = NegativeToken value
token_of (variants.Text text) = TextToken text
token_of (variants.Mark mark) = SymbolToken mark
token_of variants.Wrong = WrongToken

-- a token that was read, with its place
abbrev pub placed_of : PlacedToken → TokenAtPlace
placed_of token = (token.place, token_of token.token)

-- the byte is no blank and begins no comment
abbrev pub BeginsToken : ℕ → Type 0
BeginsToken byte = (is_blank byte ≡ false) × (byte ≢ 35)

-- the mark is the one at the front of the text
abbrev pub IsMarkAt : List ℕ → Option AnyMark → Type 0
IsMarkAt [] mark = mark ≡ None
IsMarkAt (byte ∷ rest) mark = mark ≡ mark_at byte rest

-- a number or a text begins
abbrev pub begins_value : List ℕ → Bool
begins_value [] = false
begins_value (byte ∷ rest) = is_ascii_digit byte || byte == 34 || byte == 45 && begins_with is_ascii_digit rest

-- the token is the one at the front of the text, of so many bytes
abbrev pub IsFrontToken : List ℕ → Token → ℕ → Type 0
IsFrontToken [] token size = ⊥
IsFrontToken (byte ∷ rest) token size = token_piece (1 + length rest) (lexeme_at byte rest) ≡ (Some token, size)

-- the token begins at a place, and ends at another
pub record IsTokenAt (bytes : List ℕ) (place : ℕ) (token : read.Token) (end : ℕ) : Type 0 where
  pub size : ℕ
  pub ends : end ≡ place + size
  pub front : IsFrontToken (drop place bytes) (token_of token) size

-- a token is proper: a word is one, and a value is of the program. Each token of a text is
abbrev pub IsProper : Token → Type 0
IsProper (WordToken word) = IsTrue (is_word word)
IsProper (NumberToken value) = value < 2 ^ 63
IsProper (NegativeToken value) = value ≤ 2 ^ 63
IsProper (TextToken text) = IsTextValue text
IsProper token = Unit {0}
