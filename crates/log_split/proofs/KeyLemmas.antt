-- Keys that are read one after the other, and the tokens that they take.
use Rattle.std.proofs.Common.{◌≡◌, ℕ, ◌++◌, ◌∷◌, List, [], Option, Some, refl, ap, sym, subst, ◌∙◌, append_assoc}
use Rattle.std.proofs.lemmas.Grind.{flat_map-append}
use Rattle.std.proofs.lemmas.List.{append-nil}
use Rattle.std.specs.List.{flat_map, slice_set}
use Rattle.enf_value.specs.declared.tokens.Mark.TheVariants.{OpenParen, CloseParen, Semicolon}
use Rattle.enf_value.specs.meaning.Tokens.{Token, NumberToken, SymbolToken, WordToken}
use Rattle.signature.specs.declared.entries.NameEntry.{NameEntry}
use Rattle.log_split.specs.meaning.KeyTexts.{IsNextKey, KeyText, PutsKeys, key_tokens}

-- the tokens of one key
pub key_front : (kinds : ℕ → List Token) (at first opened behind close end : ℕ) (token : Token) (key : KeyText)
    → kinds at ≡ token ∷ kinds first → token ≡ WordToken key.name → kinds first ≡ SymbolToken OpenParen ∷ kinds opened
    → kinds opened ≡ NumberToken key.position ∷ kinds behind → kinds behind ≡ SymbolToken CloseParen ∷ kinds close
    → kinds close ≡ SymbolToken Semicolon ∷ kinds end → kinds at ≡ key_tokens key ++ kinds end
key_front kinds at first opened behind close end token key a word b c d e =
    a ∙ ap (λ t. t ∷ kinds first) word
    ∙ ap (λ ts. WordToken key.name ∷ ts) (b ∙ ap (λ ts. SymbolToken OpenParen ∷ ts)
    (c ∙ ap (λ ts. NumberToken key.position ∷ ts) (d ∙ ap (λ ts. SymbolToken CloseParen ∷ ts) e)))

-- one key more
pub PutsKeys-push : (entries : List NameEntry) (before : List (Option ℕ)) (keys : List KeyText)
    (after : List (Option ℕ)) (key : KeyText) (number : ℕ) → PutsKeys entries before keys after
    → IsNextKey entries after key number
    → PutsKeys entries before (keys ++ key ∷ []) (slice_set after number (Some key.position))
PutsKeys-push entries before [] after key number same next = (
  number,
  subst (λ columns. IsNextKey entries columns key number) same next,
  ap (λ columns. slice_set columns number (Some key.position)) same,
)
PutsKeys-push entries before (first ∷ keys) after key number puts next =
    (puts.0, puts.1, PutsKeys-push entries (slice_set before puts.0 (Some first.position)) keys after key number puts.2 next)

-- the tokens of one key more
pub keys_front : (keys : List KeyText) (key : KeyText) (all rest behind : List Token)
    → all ≡ flat_map key_tokens keys ++ rest → rest ≡ key_tokens key ++ behind
    → all ≡ flat_map key_tokens (keys ++ key ∷ []) ++ behind
keys_front keys key all rest behind front next =
    front ∙ ap (λ ts. flat_map key_tokens keys ++ ts) next
    ∙ sym (append_assoc (flat_map key_tokens keys) (key_tokens key) behind)
    ∙ ap (λ ts. ts ++ behind) (ap (λ ts. flat_map key_tokens keys ++ ts) (sym (append-nil (key_tokens key)))
    ∙ sym (flat_map-append key_tokens keys (key ∷ [])))
