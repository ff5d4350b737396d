-- What the reader of keys takes, token by token.
use Rattle.std.specs.Prelude.{ℕ, ◌<◌, ◌≡◌, ◌≤◌, ◌++◌, ◌∷◌, List, Option, None, Some, length, slice_get}
use Rattle.enf_value.specs.declared.tokens.Mark.{Mark}
use Rattle.enf_value.specs.meaning.Tokens.{Token, NumberToken, SymbolToken, WordToken, token_kinds, tokens_at}
use Rattle.signature.specs.declared.entries.NameEntry.{NameEntry}
use Rattle.signature.specs.meaning.Grammar.{name_number}
use Rattle.log_split.specs.declared.key_texts.WrittenKey.{WrittenKey}
use Rattle.log_split.specs.meaning.KeyTexts.{IsNextKey, KeyText, key_tokens}

-- a token was read from a place on, and others follow it from another
pub record ReadsToken (bytes : List ℕ) (at : ℕ) (token : Token) (end : ℕ) : Type 0 where
  pub onward : at < end
  pub within : end ≤ length bytes
  pub front : token_kinds (tokens_at bytes at) ≡ token ∷ token_kinds (tokens_at bytes end)

abbrev pub ReadsMark : List ℕ → ℕ → Mark → ℕ → Type 0
ReadsMark bytes at mark end = ReadsToken bytes at (SymbolToken mark) end

-- the token is the name of this number, which has no key yet
pub record IsKeyName (entries : List NameEntry) (positions : List (Option ℕ)) (token : Token) (number : ℕ)
    : Type 0 where
  pub name : List ℕ
  pub word : token ≡ WordToken name
  pub named : name_number entries name ≡ Some number
  pub free : slice_get positions number ≡ Some None

-- a column of the name was read
pub record ReadsColumn (entries : List NameEntry) (number : ℕ) (bytes : List ℕ) (at column end : ℕ) : Type 0 where
  pub token : ReadsToken bytes at (NumberToken column) end
  pub entry : NameEntry
  pub declared : slice_get entries number ≡ Some entry
  pub within : column < length entry.sorts

-- a key was read from a place on, and other tokens follow it
pub record ReadsKey (entries : List NameEntry) (positions : List (Option ℕ)) (bytes : List ℕ) (at : ℕ)
    (key : WrittenKey) : Type 0 where
  pub written : KeyText
  pub position : written.position ≡ key.column
  pub fits : IsNextKey entries positions written key.name.0
  pub onward : at < key.end
  pub within : key.end ≤ length bytes
  pub front : token_kinds (tokens_at bytes at) ≡ key_tokens written ++ token_kinds (tokens_at bytes key.end)
