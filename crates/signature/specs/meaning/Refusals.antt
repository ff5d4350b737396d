-- Why a text is no signature: the first refusal by place, said by what could still follow.
use Rattle.enf_data.specs.declared.limits.TheConstants.{MOST_COLUMNS, MOST_NAME_BYTES, MOST_NAMES}
use Rattle.std.specs.Prelude.{◌≡◌, ℕ, List, IsTrue, ◌<◌, [], ◌∷◌, ◌++◌, length, ◌≤◌, Some, Result}
use Rattle.enf_value.specs.declared.tokens.Mark.TheVariants.{OpenParen, Comma}
use Rattle.enf_value.specs.meaning.Tokens.{is_name, Token, WordToken, SymbolToken, TokenAtPlace, token_kinds}
use Rattle.signature.specs.declared.entries.NameEntry.{NameEntry}
use Rattle.signature.specs.declared.entries.Sort.{Sort}
use Rattle.signature.specs.declared.refusals.SignatureLimit.{SignatureLimit}
use Rattle.signature.specs.declared.refusals.SignatureLimit.TheVariants.{Names, Arity, Name}
use Rattle.signature.specs.declared.refusals.SignatureRefusal.{SignatureRefusal}
use Rattle.signature.specs.declared.refusals.SignatureRefusal.TheVariants.{Syntax, Repeated, Limit, NoMemory}
use Rattle.signature.specs.meaning.Grammar.{AreNamed, entries_tokens, sort_token, sort_tokens, name_number}
use Rattle.signature.specs.meaning.Grammar.{signature_tokens, SpellEntries}
use Rattle.enf_value.specs.meaning.FirstRefusal as first

-- the tokens are those of entries
abbrev pub IsSignatureSentence : List Token → Type 0
IsSignatureSentence tokens = (entries : List NameEntry) × AreNamed entries × (entries_tokens entries ≡ tokens)

-- some signature begins with the tokens
abbrev pub CanBeginSignature : List Token → Type 0
CanBeginSignature front =
    (entries : List NameEntry) × (rest : List Token) × AreNamed entries × (entries_tokens entries ≡ front ++ rest)

-- the token is the name of the next entry, after these
pub record IsNextName (front : List Token) (token : Token) (entries : List NameEntry) (name : List ℕ) : Type 0 where
  pub before : front ≡ entries_tokens entries
  pub each : AreNamed entries
  pub word : token ≡ WordToken name
  pub free : IsTrue (is_name name)

-- the token is a sort that comes after these sorts, in the entry after those
pub record IsNextSort (front : List Token) (token : Token)
    (entries : List NameEntry) (name : List ℕ) (sorts : List Sort) (sort : Sort) : Type 0 where
  pub before : front ≡ entries_tokens entries ++ WordToken name ∷ SymbolToken OpenParen ∷ sort_tokens sorts ++
      SymbolToken Comma ∷ []
  pub each : AreNamed entries
  pub free : IsTrue (is_name name)
  pub some : 0 < length sorts
  pub word : token ≡ sort_token sort

-- the token passes a limit: it is one name too many, one sort too many, or a name that is too long
abbrev pub PassesSignatureLimit : SignatureLimit → List Token → Token → Type 0
PassesSignatureLimit Names front token =
    (entries : List NameEntry) × (name : List ℕ) × IsNextName front token entries name × (length entries ≡ MOST_NAMES)
PassesSignatureLimit Arity front token =
    (entries : List NameEntry) × (name : List ℕ) × (sorts : List Sort) × (sort : Sort)
    × IsNextSort front token entries name sorts sort × (length sorts ≡ MOST_COLUMNS)
PassesSignatureLimit Name front token =
    (entries : List NameEntry) × (name : List ℕ) × IsNextName front token entries name
    × (length entries < MOST_NAMES) × (MOST_NAME_BYTES < length name)

-- the token is a name within the limits, which the entry with this number has already
abbrev pub RepeatsName : ℕ → List Token → Token → Type 0
RepeatsName number front token = (entries : List NameEntry) × (name : List ℕ) × IsNextName front token entries name
    × (length entries < MOST_NAMES) × (length name ≤ MOST_NAME_BYTES) × (name_number entries name ≡ Some number)

-- the refusal stands at the token after the front
abbrev pub SignatureRefusalStands : SignatureRefusal → List Token → TokenAtPlace → Type 0
SignatureRefusalStands (Syntax place) front token = (place ≡ token.0) × (CanBeginSignature (front ++ token.1 ∷ []) → ⊥)
SignatureRefusalStands (Repeated name place) front token = (place ≡ token.0) × RepeatsName name.0 front token.1
SignatureRefusalStands (Limit which place) front token = (place ≡ token.0) × PassesSignatureLimit which front token.1
SignatureRefusalStands NoMemory front token = ⊥

-- the refusal stands at a token after a front, where each token has its place
abbrev pub SignatureRefusalStandsBehind : SignatureRefusal → List TokenAtPlace → TokenAtPlace → Type 0
SignatureRefusalStandsBehind refusal front token = SignatureRefusalStands refusal (token_kinds front) token

abbrev pub ArePlacedSentence : List TokenAtPlace → Type 0
ArePlacedSentence placed = IsSignatureSentence (token_kinds placed)

-- the answer to a text: the entries that it spells, within the limits, or the first refusal; Syntax stands at its end
-- where it is no whole signature
abbrev pub AnswersSignature : List ℕ → Result (List NameEntry) SignatureRefusal → Type 0
AnswersSignature bytes answer =
    first.IsReaderAnswer SpellEntries SignatureRefusalStandsBehind ArePlacedSentence (Syntax (length bytes))
    (signature_tokens bytes) answer
