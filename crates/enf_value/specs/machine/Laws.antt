-- The statements of the laws of tokens.
use Rattle.enf_data.specs.declared.values.Value.{Value}
use Rattle.enf_data.specs.meaning.Values.{IsValue}
use Rattle.std.specs.Prelude.{◌≡◌, List, Result, ℕ, ◌+◌, ◌∷◌, ◌++◌, length, Option, drop, ◌<◌}
use Rattle.enf_value.specs.machine.PrintedTokens.{token_spelling, StopsBefore, printed_tokens, AreApart, placed_from}
use Rattle.enf_value.specs.machine.TokenCuts.{AreCut}
use Rattle.enf_value.specs.machine.TokenViews.{IsProper}
use Rattle.enf_value.specs.meaning.FirstRefusal.{IsReaderAnswer}
use Rattle.enf_value.specs.meaning.Tokens.{tokens, TokenAtPlace, Token, tokens_from, spelled, EndsBefore, ValueTokenAt}
use Rattle.enf_value.specs.meaning.Tokens.{IsValueToken}

-- a reader has exactly one answer to the tokens of a text
abbrev pub HasOneReaderAnswer : {A R T : Type 0} → (A → List T → Type 0)
    → (R → List T → T → Type 0) → (List T → Type 0)
    → (ended : R) → List T → Type 0
HasOneReaderAnswer {A = A} {R = R} Is Stands IsSentence ended tokens =
    (answer : Result A R) × IsReaderAnswer Is Stands IsSentence ended tokens answer
    × ((other : Result A R) → IsReaderAnswer Is Stands IsSentence ended tokens other → other ≡ answer)

-- each text is cut into its tokens
abbrev pub TextsAreCut : Type 0
TextsAreCut = (bytes : List ℕ) → AreCut 0 bytes (tokens bytes)

-- a text is cut in one way only
abbrev pub OneCut : Type 0
OneCut = (bytes : List ℕ) (placed : List TokenAtPlace) → AreCut 0 bytes placed → placed ≡ tokens bytes

-- the spelling of a token, before bytes that do not go on with it, is cut as that token; after it the rest is cut
abbrev pub SpelledIsRead : Type 0
SpelledIsRead =
    (place : ℕ) (token : Token) (rest : List ℕ) → IsProper token → StopsBefore token rest
    → tokens_from 0 place (token_spelling token ++ rest)
    ≡ (place, token) ∷ tokens_from 0 (place + length (token_spelling token)) rest

-- what is printed is cut into its tokens
abbrev pub PrintedIsCut : Type 0
PrintedIsCut =
    (place : ℕ) (pieces : List (Option Token)) → AreApart pieces
    → tokens_from 0 place (printed_tokens pieces) ≡ placed_from place pieces

-- what is printed for a value is a token of it, before all bytes that do not go on with it
abbrev pub PrintedIsToken : Type 0
PrintedIsToken =
    (bytes : List ℕ) (at : ℕ) (value : Value) (rest : List ℕ) → IsValue value → EndsBefore value rest
    → drop at bytes ≡ spelled value ++ rest → ValueTokenAt bytes at (at + length (spelled value)) value

-- at each place one token begins at most, and it stands for one value
abbrev pub OneTokenAtPlace : Type 0
OneTokenAtPlace =
    (bytes : List ℕ) (at m n : ℕ) (a b : Value) → ValueTokenAt bytes at m a
    → ValueTokenAt bytes at n b → (a ≡ b) × (m ≡ n)

-- the token at a place is the longest: no longer piece of the bytes from there on is a token of any value
abbrev pub TokenIsLongest : Type 0
TokenIsLongest =
    (bytes : List ℕ) (at end : ℕ) (value other : Value) (piece rest : List ℕ) → ValueTokenAt bytes at end value
    → drop at bytes ≡ piece ++ rest → end < at + length piece → IsValueToken piece other → ⊥
