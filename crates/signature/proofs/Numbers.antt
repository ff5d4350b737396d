-- The number of a name among entries that are kept under their names.
use Rattle.signature.proofs.Vocabulary.{◌≡◌, ℕ, suc, ◌<◌, ◌≤◌, Bool, true, false, cond, List, [], ◌∷◌, ◌++◌, length, map, Option, None, Some, Contains, Vec, position, refl, sym, ap, subst, ◌∙◌, arith}
use Rattle.signature.proofs.Vocabulary.{zero, true≢false, get_or, slice_get, length-append, lookup, keys_of, option_map, bytes_eq, Global, Contains-append_right, All-push, All-contains}
use Rattle.signature.proofs.Vocabulary.{bytes_eq-Decides, same_Some, HasNoRepeats, HasNoRepeats-push, HasNoRepeats-middle, position-cons, NameId, NameEntry, entry_names, name_number, IsNameEntry}
use Rattle.signature.proofs.Vocabulary.{IsSignature, IsNewEntry, AreKeyedByName}
use Rattle.signature.proofs.SignatureLaws.{number_only}

-- the keys tell the numbers of the entries
pub number_is : (name : List ℕ) (pairs : List (Vec ℕ Global × NameEntry)) → AreKeyedByName pairs → position (λ (key : Vec ℕ Global). bytes_eq name key.items) (keys_of pairs)
    ≡ name_number (map (λ pair. pair.1) pairs) name
number_is name [] keyed = refl
number_is name (pair ∷ pairs) keyed =
    position-cons (λ (key : Vec ℕ Global). bytes_eq name key.items) pair.0 (keys_of pairs)
    ∙ (λ j. cond (bytes_eq name (keyed.0 j)) (Some 0) (option_map suc (number_is name pairs keyed.1 j)))
    ∙ sym (position-cons (λ entry. bytes_eq name entry.text) pair.1 (map (λ p. p.1) pairs))

-- a name that no entry has has no number
pub number_none : (entries : List NameEntry) (name : List ℕ) → (Contains (entry_names entries) name → ⊥) → name_number entries name ≡ None
number_none [] name absent = refl
number_none (entry ∷ entries) name absent =
    by (bytes_eq name entry.text) refl (number_none entries name (λ there. absent (suc there.0, omega (arith, there.1), there.2)))
  where
    by : (b : Bool) → bytes_eq name entry.text ≡ b → name_number entries name ≡ None → name_number (entry ∷ entries) name ≡ None
    by true e rest = absurd (absent (0, omega arith, sym ((bytes_eq-Decides name entry.text).0 e)))
    by false e rest = position-cons (λ y. bytes_eq name y.text) entry entries ∙ (λ j. cond (e j) (Some 0) (option_map suc (rest j)))

some_not_none : (n : ℕ) → Some n ≡ None → ⊥
some_not_none n e = cc

option_suc_none : (o : Option ℕ) → option_map suc o ≡ None → o ≡ None
option_suc_none None e = refl
option_suc_none (Some n) e = absurd cc

-- a name that has no number is unlike the name of each entry
none_head : (entry : NameEntry) (entries : List NameEntry) (name : List ℕ) → name_number (entry ∷ entries) name ≡ None → (bytes_eq name entry.text ≡ false) × (name_number entries name ≡ None)
none_head entry entries name none = by (bytes_eq name entry.text) refl
  where
    e : cond (bytes_eq name entry.text) (Some 0) (option_map suc (name_number entries name)) ≡ None
    e = sym (position-cons (λ y. bytes_eq name y.text) entry entries) ∙ none

    by : (b : Bool) → bytes_eq name entry.text ≡ b → (bytes_eq name entry.text ≡ false) × (name_number entries name ≡ None)
    by true h = absurd (some_not_none 0 (sym (ap (λ b. cond b (Some 0) (option_map suc (name_number entries name))) h) ∙ e))
    by false h = (h, option_suc_none (name_number entries name) (sym (ap (λ b. cond b (Some 0) (option_map suc (name_number entries name))) h) ∙ e))

pub absent_from_none : (entries : List NameEntry) (name : List ℕ) → name_number entries name ≡ None → Contains (entry_names entries) name → ⊥
absent_from_none [] name none there = omega (arith, there.1)
absent_from_none (entry ∷ entries) name none there =
    by there.0 there.1 there.2 (absent_from_none entries name (none_head entry entries name none).1)
  where
    by : (k : ℕ) → k < length (entry_names (entry ∷ entries)) → get_or (entry_names (entry ∷ entries)) k name ≡ name → (Contains (entry_names entries) name → ⊥) → ⊥
    by zero within is rest = true≢false (sym ((bytes_eq-Decides name entry.text).1 (sym is)) ∙ (none_head entry entries name none).0)
    by (suc k) within is rest = rest (k, omega (arith, within), is)

-- the number that was found is that of each place with the name
pub found_only : (entries : List NameEntry) (name : List ℕ) (number : NameId) (other : NameId) → HasNoRepeats (entry_names entries) → name_number entries name ≡ Some number.0
    → option_map (λ (entry : NameEntry). entry.text) (slice_get entries other.0) ≡ Some name → ◌≡◌ {A = Option NameId} (Some number) (Some other)
found_only entries name number other distinct found is =
    let both : Some number.0 ≡ Some other.0 = sym found ∙ number_only entries name other.0 distinct is in
    let same : number.0 ≡ other.0 = cc in
    ap (λ (n : ℕ). let id : NameId = record { 0 = n } in Some id) same

-- a new key goes last
pub insert_new : (pairs : List (Vec ℕ Global × NameEntry)) (key : Vec ℕ Global) (entry : NameEntry) → AreKeyedByName pairs → name_number (map (λ pair. pair.1) pairs) key.items
    ≡ None → lookup (λ (k : Vec ℕ Global). bytes_eq key.items k.items) pairs ≡ None
insert_new [] key entry keyed none = refl
insert_new (pair ∷ pairs) key entry keyed none =
    let h = none_head pair.1 (map (λ p. p.1) pairs) key.items none in
    ap (λ b. cond b (Some pair.1) (lookup (λ (k : Vec ℕ Global). bytes_eq key.items k.items) pairs)) (ap (bytes_eq key.items) keyed.0 ∙ h.0) ∙ insert_new pairs key entry keyed.1 h.1

-- keys and entries stay together when a pair is put last
pub keyed_push : (pairs : List (Vec ℕ Global × NameEntry)) (key : Vec ℕ Global) (entry : NameEntry) → AreKeyedByName pairs → key.items ≡ entry.text → AreKeyedByName (pairs ++ (key, entry) ∷ [])
keyed_push [] key entry keyed same = (same, tt)
keyed_push (pair ∷ pairs) key entry keyed same = (keyed.0, keyed_push pairs key entry keyed.1 same)

-- the entries of pairs, one after another
pub entries_push : (pairs : List (Vec ℕ Global × NameEntry)) (key : Vec ℕ Global) (entry : NameEntry) → map (λ pair. pair.1) (pairs ++ (key, entry) ∷ []) ≡ map (λ pair. pair.1) pairs ++ entry ∷ []
entries_push [] key entry = refl
entries_push (pair ∷ pairs) key entry = ap (λ rest. pair.1 ∷ rest) (entries_push pairs key entry)

names_push : (entries : List NameEntry) (entry : NameEntry) → entry_names (entries ++ entry ∷ []) ≡ entry_names entries ++ entry.text ∷ []
names_push [] entry = refl
names_push (first ∷ entries) entry = ap (λ rest. first.text ∷ rest) (names_push entries entry)

-- an entry that can be put after a signature makes one with it
pub signature_push : (entries : List NameEntry) (entry : NameEntry) → IsSignature entries → IsNewEntry entries entry → IsSignature (entries ++ entry ∷ [])
signature_push entries entry signature new = record {
  few = omega (arith, length-append entries (entry ∷ []), new.room);
  each = All-push IsNameEntry entries entry signature.each new.fits;
  distinct = rw names_push (HasNoRepeats-push (entry_names entries) entry.text signature.distinct (absent_from_none entries entry.text new.absent));
}

names_append : (front back : List NameEntry) → entry_names (front ++ back) ≡ entry_names front ++ entry_names back
names_append [] back = refl
names_append (first ∷ front) back = ap (λ rest. first.text ∷ rest) (names_append front back)

-- each entry of a signature can be put after those before it
pub new_next : (entries front back : List NameEntry) (entry : NameEntry) → IsSignature entries → entries ≡ front ++ entry ∷ back → IsNewEntry front entry
new_next entries front back entry signature is =
    let few : length (front ++ entry ∷ back) ≤ 256 = subst (λ es. length es ≤ 256) is signature.few in
    let distinct : HasNoRepeats (entry_names front ++ entry.text ∷ entry_names back) = subst HasNoRepeats (ap entry_names is ∙ names_append front (entry ∷ back)) signature.distinct in
    let within : Contains entries entry = subst (λ es. Contains es entry) (sym is) (Contains-append_right front (entry ∷ back) entry (0, omega arith, refl)) in
    record {
      room = omega (arith, few, length-append front (entry ∷ back));
      fits = All-contains IsNameEntry entries entry signature.each within;
      absent = number_none front entry.text (HasNoRepeats-middle (entry_names front) (entry_names back) entry.text distinct);
    }

-- the entry with the number of a name has that name
pub number_found : (entries : List NameEntry) (name : List ℕ) (number : ℕ) → name_number entries name ≡ Some number
    → option_map (λ (entry : NameEntry). entry.text) (slice_get entries number) ≡ Some name
number_found [] name number found = absurd cc
number_found (entry ∷ entries) name number found =
    by (bytes_eq name entry.text) (name_number entries name) refl refl (sym (position-cons (λ y. bytes_eq name y.text) entry entries) ∙ found) (number_found entries name)
  where
    by : (b : Bool) (o : Option ℕ) → bytes_eq name entry.text ≡ b → name_number entries name ≡ o → cond (bytes_eq name entry.text) (Some 0) (option_map suc (name_number entries name)) ≡ Some number
        → ((n : ℕ) → name_number entries name ≡ Some n → option_map (λ (e : NameEntry). e.text) (slice_get entries n) ≡ Some name)
        → option_map (λ (e : NameEntry). e.text) (slice_get (entry ∷ entries) number) ≡ Some name
    by true o h i f rest =
        let is : 0 ≡ number = same_Some 0 number (sym (ap (λ b. cond b (Some 0) (option_map suc (name_number entries name))) h) ∙ f) in
        subst (λ n. option_map (λ (e : NameEntry). e.text) (slice_get (entry ∷ entries) n) ≡ Some name) is (ap Some (sym ((bytes_eq-Decides name entry.text).0 h)))
    by false None h i f rest = absurd (some_not_none number (sym f ∙ (λ j. cond (h j) (Some 0) (option_map suc (i j)))))
    by false (Some n) h i f rest =
        let is : suc n ≡ number = same_Some (suc n) number (sym (λ j. cond (h j) (Some 0) (option_map suc (i j))) ∙ f) in
        subst (λ m. option_map (λ (e : NameEntry). e.text) (slice_get (entry ∷ entries) m) ≡ Some name) is (rest n i)
