-- The text of keys: `NAME(POSITION);` for each name that has one.
use Rattle.std.specs.List.{flat_map, slice_set}
use Rattle.std.specs.Prelude.{ℕ, ◌<◌, ◌≡◌, List, [], ◌∷◌, Option, None, Some, length, replicate, slice_get}
use Rattle.enf_value.specs.declared.tokens.Mark.TheVariants.{OpenParen, CloseParen, Semicolon}
use Rattle.enf_value.specs.meaning.Tokens.{Token, NumberToken, SymbolToken, WordToken, token_kinds, tokens}
use Rattle.signature.specs.declared.entries.NameEntry.{NameEntry}
use Rattle.signature.specs.meaning.Grammar.{name_number}

-- a key as it is written: the name, and the position of the key among the arguments
pub record KeyText : Type 0 where
  pub name : List ℕ
  pub position : ℕ

-- NAME "(" POSITION ")" ";"
abbrev pub key_tokens : KeyText → List Token
key_tokens key = WordToken key.name ∷ SymbolToken OpenParen ∷ NumberToken key.position ∷ SymbolToken CloseParen
    ∷ SymbolToken Semicolon ∷ []

-- the name is one of the signature, which has no key yet, and the position is that of one of its columns
pub record IsNextKey (entries : List NameEntry) (positions : List (Option ℕ)) (key : KeyText) (number : ℕ)
    : Type 0 where
  pub named : name_number entries key.name ≡ Some number
  pub free : slice_get positions number ≡ Some None
  pub entry : NameEntry
  pub declared : slice_get entries number ≡ Some entry
  pub within : key.position < length entry.sorts

-- the positions by the number of the name, after keys one after the other
abbrev pub PutsKeys : List NameEntry → List (Option ℕ) → List KeyText → List (Option ℕ) → Type 0
PutsKeys entries before [] after = after ≡ before
PutsKeys entries before (key ∷ keys) after = (number : ℕ) × IsNextKey entries before key number
    × PutsKeys entries (slice_set before number (Some key.position)) keys after

-- no name has a key
abbrev pub no_keys : List NameEntry → List (Option ℕ)
no_keys entries = replicate (length entries) None

-- the text spells keys of the signature, which have these positions by the numbers of their names
abbrev pub SpellsKeys : List NameEntry → List ℕ → List (Option ℕ) → Type 0
SpellsKeys entries bytes positions = (keys : List KeyText)
    × (token_kinds (tokens bytes) ≡ flat_map key_tokens keys) × PutsKeys entries (no_keys entries) keys positions
