-- What is left of a text from the reader's lexeme on.
use Rattle.enf_data.specs.declared.limits.TheConstants.{MOST_FILE_BYTES}
use Rattle.std.specs.Prelude.{ℕ, List, [], ◌∷◌, Bool, true, false, ◌<◌, ◌≤◌, ◌^◌, length}
use Rattle.std.specs.Prelude.{if◌then◌else◌, ◌≡◌}
use Rattle.policy_syntax.specs.meaning.Lexemes.{PlacedLexeme, PolicyLexeme, Symbol, Truth, Prefix, Infix, Quantifier}
use Rattle.policy_syntax.specs.meaning.Lexemes.{Sign, NameLexeme, DigitsLexeme, NegativeLexeme, TextLexeme, End, Other}
use Rattle.policy_syntax.specs.meaning.Lexemes.{lexemes_at}
use Rattle.policy_syntax.specs.declared.lexemes.Lexeme as read
use Rattle.policy_syntax.specs.declared.lexemes.Lexeme.TheVariants as variants

-- the place of the next lexeme, or of the end of the text
abbrev pub next_place : (end : ℕ) → List PlacedLexeme → ℕ
next_place end [] = end
next_place end (placed ∷ rest) = placed.0

-- the lexemes after it
abbrev pub behind_next : List PlacedLexeme → List PlacedLexeme
behind_next [] = []
behind_next (placed ∷ rest) = rest

abbrev pub is_end_lexeme : PolicyLexeme → Bool
is_end_lexeme End = true
is_end_lexeme (Symbol _) = false
is_end_lexeme (Truth _) = false
is_end_lexeme (Prefix _) = false
is_end_lexeme (Infix _) = false
is_end_lexeme (Quantifier _) = false
is_end_lexeme (Sign _) = false
is_end_lexeme (NameLexeme _) = false
is_end_lexeme (DigitsLexeme _) = false
is_end_lexeme (NegativeLexeme _) = false
is_end_lexeme (TextLexeme _) = false
is_end_lexeme Other = false

-- a number or a text
abbrev pub is_constant : PolicyLexeme → Bool
is_constant (DigitsLexeme _) = true
is_constant (NegativeLexeme _) = true
is_constant (TextLexeme _) = true
is_constant (Symbol _) = false
is_constant (Truth _) = false
is_constant (Prefix _) = false
is_constant (Infix _) = false
is_constant (Quantifier _) = false
is_constant (Sign _) = false
is_constant (NameLexeme _) = false
is_constant End = false
is_constant Other = false

-- a number is one of i64
abbrev pub IsInRange : PolicyLexeme → Type 0
IsInRange (DigitsLexeme value) = value < 2 ^ 63
IsInRange (NegativeLexeme value) = value ≤ 2 ^ 63
IsInRange _ = Unit {0}

-- the lexeme of the reader
abbrev pub lexeme_of : read.Lexeme → PolicyLexeme
lexeme_of (variants.Symbol symbol) = Symbol symbol
lexeme_of (variants.Truth value) = Truth value
lexeme_of (variants.Prefix operator) = Prefix operator
lexeme_of (variants.Infix operator) = Infix operator
lexeme_of (variants.Quantifier quantifier) = Quantifier quantifier
lexeme_of (variants.Sign sign) = Sign sign
lexeme_of (variants.Name name) = NameLexeme name.now
lexeme_of (variants.Digits value) = DigitsLexeme value
lexeme_of (variants.Negative value) = NegativeLexeme value
lexeme_of (variants.Text text) = TextLexeme text
lexeme_of variants.End = End
lexeme_of variants.Other = Other

-- what is left of a text that ends at a place
pub record Ahead : Type 0 where
  pub rest : List PlacedLexeme
  pub end : ℕ

-- what is left from a lexeme on, which stands at a place and ends at another
abbrev pub lexeme_ahead : PolicyLexeme → (place behind : ℕ) → List ℕ → Ahead
lexeme_ahead lexeme place behind bytes =
    record {
      rest = if is_end_lexeme lexeme then [] else (place, lexeme) ∷ lexemes_at bytes behind;
      end = length
          bytes;
    }

-- the reader stands at a place within a text that is not too long; at the end nothing is left
pub record IsCursor (lexeme : PolicyLexeme) (place behind : ℕ) (bytes : List ℕ) : Type 0 where
  pub short : length bytes ≤ MOST_FILE_BYTES
  pub within : behind ≤ length bytes
  pub in_range : IsInRange lexeme
  pub nothing : is_end_lexeme lexeme ≡ true → (lexemes_at bytes behind ≡ []) × (place ≡ length bytes)
