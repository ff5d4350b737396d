-- What the reader does at a token, and what it answers.
use Rattle.enf_data.specs.declared.limits.TheConstants.{MOST_NAME_BYTES, MOST_NAMES, MOST_COLUMNS}
use Rattle.std.specs.Prelude.{List, ℕ, Bool, codes, Option, None, Some, if◌then◌else◌, ◌+◌, [], ◌∷◌}
use Rattle.std.specs.Prelude.{◌++◌, true, false, ◌==◌, nat_lt, length, Result, Ok, Err, ◌≡◌, ◌<◌}
use Rattle.std.specs.Prelude.{◌≤◌, IsTrue}
use Rattle.std.specs.Str.{bytes_eq}
use Rattle.enf_value.specs.declared.tokens.Mark.TheVariants.{OpenParen, CloseParen, Comma, Semicolon, Plus, Minus}
use Rattle.enf_value.specs.declared.tokens.Mark.TheVariants.{PlusMinus}
use Rattle.enf_value.specs.meaning.Tokens.{is_name, Token, WordToken, SymbolToken}
use Rattle.signature.specs.declared.entries.NameEntry.{NameEntry}
use Rattle.signature.specs.declared.entries.Sort.{Sort}
use Rattle.signature.specs.declared.reading.Part.{Part}
use Rattle.signature.specs.declared.refusals.SignatureLimit.TheVariants.{Name, Names, Arity}
use Rattle.signature.specs.declared.refusals.SignatureRefusal.{SignatureRefusal}
use Rattle.signature.specs.declared.refusals.SignatureRefusal.TheVariants.{Repeated, Limit, Syntax, NoMemory}
use Rattle.signature.specs.meaning.Grammar.{name_number}
use Rattle.signature.specs.meaning.Refusals.{AnswersSignature}
use Rattle.signature.specs.declared.entries.Sort.TheVariants as sorts
use Rattle.signature.specs.declared.reading.Part.TheVariants as parts

-- the whole entries, and what has come of the next
abbrev pub SignatureState : Type 0
SignatureState = List NameEntry × Part

-- an entry by its parts
abbrev pub made_entry : List ℕ → List Sort → (causable suppressible : Bool) → NameEntry
made_entry name sorts causable suppressible =
    record { text = name; sorts = sorts; causable = causable; suppressible = suppressible }

-- the sort that a word names
abbrev pub word_sort : List ℕ → Option Sort
word_sort word =
    if bytes_eq word (codes "int") then Some sorts.Int
    else (if bytes_eq word (codes "text") then Some sorts.Text
    else None)

-- the state after a word where a sort is wanted
abbrev pub after_sort : List NameEntry → List ℕ → List Sort → Option Sort → Option SignatureState
after_sort entries name sorts None = None
after_sort entries name sorts (Some sort) = Some (entries, parts.Sorts name (sorts ++ sort ∷ []))

-- the state after a token, where the token can stand there
abbrev pub state_after_token : List NameEntry → Part → Token → Option SignatureState
state_after_token entries parts.Nothing (WordToken word) = if is_name word then Some (entries, parts.Name word) else
    None
state_after_token entries (parts.Name name) (SymbolToken OpenParen) = Some (entries, parts.Open name)
state_after_token entries (parts.Open name) (WordToken word) = after_sort entries name [] (word_sort word)
state_after_token entries (parts.Open name) (SymbolToken CloseParen) = Some (entries, parts.Close name [])
state_after_token entries (parts.Sorts name sorts) (SymbolToken Comma) = Some (entries, parts.Comma name sorts)
state_after_token entries (parts.Sorts name sorts) (SymbolToken CloseParen) = Some (entries, parts.Close name sorts)
state_after_token entries (parts.Comma name sorts) (WordToken word) = after_sort entries name sorts (word_sort word)
state_after_token entries (parts.Close name sorts) (SymbolToken Plus) = Some
    (entries, parts.Mark (made_entry name sorts true false))
state_after_token entries (parts.Close name sorts) (SymbolToken Minus) = Some
    (entries, parts.Mark (made_entry name sorts false true))
state_after_token entries (parts.Close name sorts) (SymbolToken PlusMinus) = Some
    (entries, parts.Mark (made_entry name sorts true true))
state_after_token entries (parts.Close name sorts) (SymbolToken Semicolon) =
    Some (entries ++ made_entry name sorts false false ∷ [], parts.Nothing)
state_after_token entries (parts.Mark entry) (SymbolToken Semicolon) = Some (entries ++ entry ∷ [], parts.Nothing)
state_after_token entries part token = None

-- the refusal of a name that an entry has already
abbrev pub repeated_name_refusal : ℕ → Option ℕ → Option SignatureRefusal
repeated_name_refusal place None = None
repeated_name_refusal place (Some number) = Some (Repeated (record { 0 = number }) place)

-- the refusal of a name that could stand here
abbrev pub entry_name_refusal : List NameEntry → ℕ → List ℕ → Option SignatureRefusal
entry_name_refusal entries place name =
    if length entries == MOST_NAMES then Some (Limit Names place)
    else (if nat_lt MOST_NAME_BYTES (length name) then Some (Limit Name place)
    else repeated_name_refusal place (name_number entries name))

-- the refusal of a token that could stand here
abbrev pub entry_limit_refusal : List NameEntry → Part → ℕ → Token → Option SignatureRefusal
entry_limit_refusal entries parts.Nothing place (WordToken word) = entry_name_refusal entries place word
entry_limit_refusal entries (parts.Comma name sorts) place (WordToken word) =
    if length sorts == MOST_COLUMNS then Some (Limit Arity place) else None
entry_limit_refusal entries part place token = None

-- the state after a token, or the refusal: the grammar comes first
abbrev pub taken_or_refused : ℕ → Option SignatureState → Option SignatureRefusal
    → Result SignatureState SignatureRefusal
taken_or_refused place None refusal = Err (Syntax place)
taken_or_refused place (Some state) None = Ok state
taken_or_refused place (Some state) (Some refusal) = Err refusal

abbrev pub taken_token : List NameEntry → Part → ℕ → Token → Result SignatureState SignatureRefusal
taken_token entries part place token =
    taken_or_refused place (state_after_token entries part token) (entry_limit_refusal entries part place token)

-- what a call took, unless there was no memory
abbrev pub TakesToken : List NameEntry → Part → ℕ → Token → List NameEntry
    → Result Part SignatureRefusal → Type 0
TakesToken old part place token new (Ok after) = taken_token old part place token ≡ Ok (new, after)
TakesToken old part place token new (Err NoMemory) = Unit {0}
TakesToken old part place token new (Err refusal) = taken_token old part place token ≡ Err refusal

-- the answer to an arrow: that to a minus, and after one that was taken to a wrong byte
abbrev pub arrow_refusal_by : ℕ → Result SignatureState SignatureRefusal → SignatureRefusal
arrow_refusal_by place (Ok state) = Syntax (place + 1)
arrow_refusal_by place (Err refusal) = refusal

-- what a call answered to an arrow, unless there was no memory
abbrev pub RefusesArrow : List NameEntry → Part → ℕ → SignatureRefusal → Type 0
RefusesArrow entries part place NoMemory = Unit {0}
RefusesArrow entries part place refusal = refusal ≡ arrow_refusal_by place
    (taken_token entries part place (SymbolToken Minus))

-- what a call added to the sorts, unless there was no memory
abbrev pub AddsSort : List ℕ → List Sort → ℕ → Option Sort → Result Part SignatureRefusal → Type 0
AddsSort name sorts place sort (Ok after) = after_sort [] name sorts sort ≡ Some ([], after)
AddsSort name sorts place sort (Err NoMemory) = Unit {0}
AddsSort name sorts place sort (Err refusal) = (sort ≡ None) × (refusal ≡ Syntax place)

-- an entry of this name can be put after the others
pub record IsFreeName (entries : List NameEntry) (name : List ℕ) : Type 0 where
  pub room : length entries < MOST_NAMES
  pub named : IsTrue (is_name name)
  pub short : length name ≤ MOST_NAME_BYTES
  pub absent : name_number entries name ≡ None

-- what the limits and the grammar leave of the next entry
abbrev pub IsFitPart : List NameEntry → Part → Type 0
IsFitPart entries parts.Nothing = length entries ≤ MOST_NAMES
IsFitPart entries (parts.Name name) = IsFreeName entries name
IsFitPart entries (parts.Open name) = IsFreeName entries name
IsFitPart entries (parts.Sorts name sorts) = IsFreeName entries name × (0 < length sorts)
    × (length sorts ≤ MOST_COLUMNS)
IsFitPart entries (parts.Comma name sorts) = IsFreeName entries name × (0 < length sorts)
    × (length sorts ≤ MOST_COLUMNS)
IsFitPart entries (parts.Close name sorts) = IsFreeName entries name × (length sorts ≤ MOST_COLUMNS)
IsFitPart entries (parts.Mark entry) = IsFreeName entries entry.text × (length entry.sorts ≤ MOST_COLUMNS)

-- the answer of a call is the text's, unless there was no memory
abbrev pub GivesSignatureAnswer : List ℕ → Result (List NameEntry) SignatureRefusal → Type 0
GivesSignatureAnswer bytes (Err NoMemory) = Unit {0}
GivesSignatureAnswer bytes answer = AnswersSignature bytes answer

-- a call answers this, unless there was no memory
abbrev pub GivesEntries : Result (List NameEntry) SignatureRefusal → Result (List NameEntry) SignatureRefusal
    → Type 0
GivesEntries (Err NoMemory) answer = Unit {0}
GivesEntries result answer = result ≡ answer
