-- The tokens of a signature, and its grammar over them.
use Rattle.enf_data.specs.declared.limits.TheConstants.{MOST_COLUMNS, MOST_NAME_BYTES, MOST_NAMES}
use Rattle.enf_data.specs.meaning.Membership.{HasNoRepeats}
use Rattle.std.specs.List.{flat_map}
use Rattle.std.specs.Prelude.{codes, List, [], ◌∷◌, Bool, true, false, ◌++◌, All, IsTrue, ℕ, map, Option, position, ◌≡◌}
use Rattle.std.specs.Prelude.{◌≤◌, length, ◌+◌}
use Rattle.std.specs.Str.{bytes_eq}
use Rattle.enf_value.specs.declared.tokens.Mark.TheVariants.{Comma, Plus, Minus, PlusMinus, OpenParen, CloseParen}
use Rattle.enf_value.specs.declared.tokens.Mark.TheVariants.{Semicolon, Arrow}
use Rattle.enf_value.specs.meaning.Tokens.{is_name, Token, WordToken, SymbolToken, WrongToken, TokenAtPlace, tokens}
use Rattle.enf_value.specs.meaning.Tokens.{token_kinds}
use Rattle.signature.specs.declared.entries.NameEntry.{NameEntry}
use Rattle.signature.specs.declared.entries.Sort.{Sort}
use Rattle.signature.specs.declared.entries.Sort.TheVariants.{Int, Text}

-- the token of a sort
abbrev pub sort_token : Sort → Token
sort_token Int = WordToken (codes "int")
sort_token Text = WordToken (codes "text")

-- the tokens of sorts, with commas between them
abbrev pub sort_tokens : List Sort → List Token
sort_tokens [] = []
sort_tokens (sort ∷ sorts) = sort_token sort ∷ flat_map (λ s. SymbolToken Comma ∷ sort_token s ∷ []) sorts

-- the tokens of the mark of an entry: `+` is causable, `-` is suppressible, `+-` is both
abbrev pub mark_tokens : (causable suppressible : Bool) → List Token
mark_tokens true true = SymbolToken PlusMinus ∷ []
mark_tokens true false = SymbolToken Plus ∷ []
mark_tokens false true = SymbolToken Minus ∷ []
mark_tokens false false = []

-- NAME "(" [ sort { "," sort } ] ")" [ mark ] ";"
abbrev pub entry_tokens : NameEntry → List Token
entry_tokens entry = WordToken entry.text ∷ SymbolToken OpenParen ∷ sort_tokens entry.sorts
    ++ SymbolToken CloseParen ∷ mark_tokens entry.causable entry.suppressible ++ SymbolToken Semicolon ∷ []

-- the tokens of entries, one after the other
abbrev pub entries_tokens : List NameEntry → List Token
entries_tokens entries = flat_map entry_tokens entries

-- each entry has a name
abbrev pub AreNamed : List NameEntry → Type 0
AreNamed entries = All (λ entry. IsTrue (is_name entry.text)) entries

-- the names of entries, in order
abbrev pub entry_names : List NameEntry → List (List ℕ)
entry_names entries = map (λ entry. entry.text) entries

-- the number of the entry with a name, by the order of declaration
abbrev pub name_number : List NameEntry → List ℕ → Option ℕ
name_number entries name = position (λ entry. bytes_eq name entry.text) entries

-- an entry keeps the limits
pub record IsNameEntry (entry : NameEntry) : Type 0 where
  pub named : IsTrue (is_name entry.text)
  pub short : length entry.text ≤ MOST_NAME_BYTES
  pub narrow : length entry.sorts ≤ MOST_COLUMNS

-- the entries keep the limits, and no two have the same name
pub record IsSignature (entries : List NameEntry) : Type 0 where
  pub few : length entries ≤ MOST_NAMES
  pub each : All IsNameEntry entries
  pub distinct : HasNoRepeats (entry_names entries)

-- a token before those after it, where `->` becomes a minus and a wrong byte, after which nothing is cut
abbrev pub onto_tokens : ℕ → Token → List TokenAtPlace → List TokenAtPlace
onto_tokens place (SymbolToken Arrow) rest = (place, SymbolToken Minus) ∷ (place + 1, WrongToken) ∷ []
onto_tokens place token rest = (place, token) ∷ rest

abbrev pub without_arrows : List TokenAtPlace → List TokenAtPlace
without_arrows [] = []
without_arrows (token ∷ rest) = onto_tokens token.0 token.1 (without_arrows rest)

abbrev pub signature_tokens : List ℕ → List TokenAtPlace
signature_tokens bytes = without_arrows (tokens bytes)

-- the tokens spell the entries, which are within the limits
abbrev pub SpellEntries : List NameEntry → List TokenAtPlace → Type 0
SpellEntries entries placed = IsSignature entries × (token_kinds placed ≡ entries_tokens entries)
