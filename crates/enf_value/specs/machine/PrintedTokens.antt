-- The canonical spelling of tokens, and what is printed of a list of them.
use Rattle.enf_data.specs.declared.values.Value.{Value}
use Rattle.std.specs.Char.{is_ascii_digit}
use Rattle.std.specs.Prelude.{ℕ, List, [], ◌∷◌, decimal, ◌==◌, Bool, false, ◌||◌, ◌≡◌, pos}
use Rattle.std.specs.Prelude.{negsuc, suc, ◌+◌, ◌++◌, Option, None, Some, length}
use Rattle.enf_value.specs.declared.tokens.Mark.{Mark as AnyMark}
use Rattle.enf_value.specs.declared.tokens.Mark.TheVariants.{Less, Minus, Plus}
use Rattle.enf_value.specs.machine.TokenViews.{IsProper}
use Rattle.enf_value.specs.meaning.Tokens.{is_word_byte, Token, WordToken, NumberToken, NegativeToken, TextToken}
use Rattle.enf_value.specs.meaning.Tokens.{SymbolToken, WrongToken, mark_text, begins_with, TokenAtPlace, quoted}
use Rattle.enf_data.specs.declared.values.Value.TheVariants as values

-- ---- what is printed is read again

-- the canonical spelling of a token
abbrev pub token_spelling : Token → List ℕ
token_spelling (WordToken word) = word
token_spelling (NumberToken value) = decimal value
token_spelling (NegativeToken value) = 45 ∷ decimal value
token_spelling (TextToken text) = quoted text
token_spelling (SymbolToken mark) = mark_text mark
token_spelling WrongToken = []

-- a byte that goes on with a mark: `<=`, `->` and the minus of a number, `+-`
abbrev pub goes_on_with_mark : AnyMark → ℕ → Bool
goes_on_with_mark Less next = next == 61
goes_on_with_mark Minus next = next == 62 || is_ascii_digit next
goes_on_with_mark Plus next = next == 45
goes_on_with_mark mark next = false

-- the bytes after a token do not go on with it
abbrev pub StopsBefore : Token → List ℕ → Type 0
StopsBefore (WordToken word) rest = begins_with is_word_byte rest ≡ false
StopsBefore (NumberToken value) rest = begins_with is_ascii_digit rest ≡ false
StopsBefore (NegativeToken value) rest = begins_with is_ascii_digit rest ≡ false
StopsBefore (TextToken text) rest = Unit {0}
StopsBefore (SymbolToken mark) rest = begins_with (goes_on_with_mark mark) rest ≡ false
StopsBefore WrongToken rest = ⊥

-- the token of a value
abbrev pub value_token : Value → Token
value_token (values.Num (pos number)) = NumberToken number
value_token (values.Num (negsuc number)) = NegativeToken (suc number)
value_token (values.Text text) = TextToken text

-- what is printed: tokens, and blanks between them
abbrev pub printed_tokens : List (Option Token) → List ℕ
printed_tokens [] = []
printed_tokens (None ∷ pieces) = 32 ∷ printed_tokens pieces
printed_tokens (Some token ∷ pieces) = token_spelling token ++ printed_tokens pieces

-- no token goes on in what is printed after it
abbrev pub AreApart : List (Option Token) → Type 0
AreApart [] = Unit {0}
AreApart (None ∷ pieces) = AreApart pieces
AreApart (Some token ∷ pieces) = IsProper token × StopsBefore token (printed_tokens pieces) × AreApart pieces

-- the tokens at their places
abbrev pub placed_from : (place : ℕ) → List (Option Token) → List TokenAtPlace
placed_from place [] = []
placed_from place (None ∷ pieces) = placed_from (place + 1) pieces
placed_from place (Some token ∷ pieces) = (place, token) ∷ placed_from (place + length (token_spelling token))
    pieces
