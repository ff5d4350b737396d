-- The laws of names, numbers, sorts and answers.
use Rattle.signature.proofs.Vocabulary.{position-cons, Value, HasNoRepeats, refl, sym, ◌∙◌, ap, subst, slice_get-map, slice_get_within, get_or_from_slice_get, bytes_eq-Decides, option_map, IsTrue}
use Rattle.signature.proofs.Vocabulary.{bytes_eq, TokenAtPlace, NameEntry, Sort, Int, Text, SignatureRefusal, Syntax, OneSignatureAnswer, has_sort, value_sort, entry_names, name_number}
use Rattle.signature.proofs.Vocabulary.{AnswersSignature, SignatureRefusalStandsBehind, ArePlacedSentence}
use Rattle.std.specs.Prelude.{◌≡◌, ℕ, List, Result, Option, slice_get, Some, Contains, zero, suc, Bool, true, false, cond, [], ◌∷◌}
use Rattle.enf_data.specs.declared.values.Value.TheVariants as values
use Rattle.enf_value.specs.meaning.FirstRefusal as first

pub has_sort-from_sort : (sort : Sort) (value : Value) → value_sort value ≡ sort → IsTrue (has_sort sort value)
has_sort-from_sort Int (values.Num number) is = refl
has_sort-from_sort Text (values.Text text) is = refl
has_sort-from_sort Int (values.Text text) is = absurd (cc)
has_sort-from_sort Text (values.Num number) is = absurd (cc)

pub has_sort-sort : (sort : Sort) (value : Value) → IsTrue (has_sort sort value) → value_sort value ≡ sort
has_sort-sort Int (values.Num number) is = refl
has_sort-sort Text (values.Text text) is = refl
has_sort-sort Int (values.Text text) is = absurd (cc)
has_sort-sort Text (values.Num number) is = absurd (cc)

-- so two answers to a text are the same
pub same_signature_answer : OneSignatureAnswer → (bytes : List ℕ) (x y : Result (List NameEntry) SignatureRefusal)
    → AnswersSignature bytes x → AnswersSignature bytes y → x ≡ y
same_signature_answer one bytes x y is also = let all = one bytes in all.2 x is ∙ sym (all.2 y also)

-- the text of the entry with a number
abbrev pub name_at : List NameEntry → ℕ → Option (List ℕ)
name_at entries number = option_map (λ (entry : NameEntry). entry.text) (slice_get entries number)

-- the entry at a place has its name among the names
pub name_at_place : (entries : List NameEntry) (name : List ℕ) (number : ℕ)
    → name_at entries number ≡ Some name → Contains (entry_names entries) name
name_at_place entries name number is =
    let there : slice_get (entry_names entries) number ≡ Some name =
    slice_get-map (λ (entry : NameEntry). entry.text) entries number ∙ is in
    let is_there = get_or_from_slice_get (entry_names entries) number name name there in
    (number, slice_get_within (entry_names entries) number name there, is_there)

-- among names that differ, the entry with a name is the one at its number
pub number_only : (entries : List NameEntry) (name : List ℕ) (number : ℕ)
    → HasNoRepeats (entry_names entries) → name_at entries number ≡ Some name → name_number entries name
    ≡ Some number
number_only [] name number distinct is = absurd cc
number_only (entry ∷ entries) name zero distinct is =
    let same : entry.text ≡ name = cc in
    position-cons (λ y. bytes_eq name y.text) entry entries
    ∙ ap (λ b. cond b (Some 0) (option_map suc (name_number entries name)))
    ((bytes_eq-Decides name entry.text).1 (sym same))
number_only (entry ∷ entries) name (suc number) distinct is =
    position-cons (λ y. bytes_eq name y.text) entry entries
    ∙ by (bytes_eq name entry.text) refl (number_only entries name number distinct.1 is)
  where
    by : (b : Bool) → bytes_eq name entry.text ≡ b → name_number entries name ≡ Some number
        → cond (bytes_eq name entry.text) (Some 0) (option_map suc (name_number entries name)) ≡ Some (suc number)
    by true same rest =
        absurd (distinct.0 (subst (Contains (entry_names entries)) ((bytes_eq-Decides name entry.text).0 same)
        (name_at_place entries name number is)))
    by false differs rest =
        ap (λ b. cond b (Some 0) (option_map suc (name_number entries name))) differs ∙ ap (option_map suc) rest

-- the first refusal after the front of a text that ends at a place
abbrev pub IsFirstSignatureRefusal : SignatureRefusal → (end : ℕ) → (front rest : List TokenAtPlace) → Type 0
IsFirstSignatureRefusal refusal end front rest = first.IsFirstReaderRefusal SignatureRefusalStandsBehind
    ArePlacedSentence (Syntax end) refusal front rest
