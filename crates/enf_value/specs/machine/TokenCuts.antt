-- A text is cut into tokens, blanks and comments.
use Rattle.std.specs.List.{list_all}
use Rattle.std.specs.Prelude.{◌≡◌, ℕ, List, ◌∷◌, IsTrue, ◌+◌, ◌<◌, ◌++◌, length, []}
use Rattle.std.specs.Str.Parse.{IsNumeral, digits_value}
use Rattle.enf_value.specs.machine.TokenViews.{IsProper, BeginsToken}
use Rattle.enf_value.specs.meaning.Tokens.{is_word, Token, WordToken, NumberToken, NegativeToken, TextToken}
use Rattle.enf_value.specs.meaning.Tokens.{SymbolToken, WrongToken, mark_text, is_comment_byte, is_blank, TokenAtPlace}
use Rattle.enf_value.specs.meaning.Tokens.{IsTextToken}

-- ---- a text is cut into tokens, blanks and comments

-- the bytes spell the token, whatever its value
abbrev pub SpellsToken : List ℕ → Token → Type 0
SpellsToken piece (WordToken word) = (piece ≡ word) × IsTrue (is_word word)
SpellsToken piece (NumberToken value) = IsNumeral 10 piece × (value ≡ digits_value 10 piece)
SpellsToken piece (NegativeToken value) =
    (digits : List ℕ) × (piece ≡ 45 ∷ digits) × IsNumeral 10 digits × (value ≡ digits_value 10 digits)
SpellsToken piece (TextToken text) = IsTextToken piece text
SpellsToken piece (SymbolToken mark) = piece ≡ mark_text mark
SpellsToken piece WrongToken = ⊥

-- before these bytes, the piece is the longest that spells a token
pub record IsLongestToken (piece behind : List ℕ) (token : Token) : Type 0 where
  pub spells : SpellsToken piece token
  pub longest : (more rest : List ℕ) (other : Token)
      → piece ++ behind ≡ more ++ rest → length piece < length more → SpellsToken more other → ⊥

-- no token stands at the front: there is no blank and no comment, and what is spelled there has a value that does not
-- fit
pub record IsWrongAt (text : List ℕ) : Type 0 where
  pub first : ℕ
  pub rest : List ℕ
  pub is : text ≡ first ∷ rest
  pub begins : BeginsToken first
  pub fault : (piece behind : List ℕ) (token : Token)
      → text ≡ piece ++ behind → IsLongestToken piece behind token → IsProper token → ⊥

-- bytes of a comment, without a line feed
abbrev pub IsInComment : List ℕ → Type 0
IsInComment bytes = IsTrue (list_all is_comment_byte bytes)

-- blanks, and comments with the line feed that ends them
pub data IsTokenGap : List ℕ → Type 0 where
  NoGap : IsTokenGap []
  BlankGap : (byte : ℕ) (rest : List ℕ) → IsTrue (is_blank byte) → IsTokenGap rest
      → IsTokenGap (byte ∷ rest)
  CommentGap : (inside rest : List ℕ) → IsInComment inside → IsTokenGap rest
      → IsTokenGap (35 ∷ (inside ++ 10 ∷ rest))

-- blanks and comments at the end of a text, where the last comment may stand open
pub data IsLastTokenGap : List ℕ → Type 0 where
  ClosedGap : (gap : List ℕ) → IsTokenGap gap → IsLastTokenGap gap
  CommentToEnd : (gap inside : List ℕ) → IsTokenGap gap → IsInComment inside
      → IsLastTokenGap (gap ++ 35 ∷ inside)

-- a token stands after a gap, at its place
pub record StandsBehindGap (place : ℕ) (bytes : List ℕ) (at : ℕ) (text : List ℕ) : Type 0 where
  pub gap : List ℕ
  pub splits : bytes ≡ gap ++ text
  pub between : IsTokenGap gap
  pub place_is : at ≡ place + length gap

-- the bytes from a place on are cut into these tokens; nothing is said of what is after a wrong one, which is the last
abbrev pub AreCut : (place : ℕ) (bytes : List ℕ) → List TokenAtPlace → Type 0
AreCut place bytes [] = IsLastTokenGap bytes
AreCut place bytes ((at, WrongToken) ∷ rest) =
    (text : List ℕ) × StandsBehindGap place bytes at text × IsWrongAt text × (rest ≡ [])
AreCut place bytes ((at, token) ∷ rest) =
    (piece behind : List ℕ) × StandsBehindGap place bytes at (piece ++ behind)
    × IsLongestToken piece behind token × IsProper token
    × AreCut (at + length piece) behind rest
