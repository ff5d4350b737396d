-- The names that a formula of a policy looks for are those of the signature.
use Rattle.enforce_types.proofs.Vocabulary.{◌≡◌, ℕ, ◌+◌, ◌<◌, Bool, IsTrue, List, [], ◌∷◌, ◌++◌, length, Option, None, Some, refl, subst, slice_get, option_map, option_or, slice_get_within}
use Rattle.enforce_types.proofs.Vocabulary.{AllByRecursion-append, AllByRecursion-of_append, NameId, Formula, True, False, Atom, Equal, Less, AtMost, Not, And, Or, Implies, Exists, Forall, Prev, Next}
use Rattle.enforce_types.proofs.Vocabulary.{Once, Historically, Since, Eventually, Always, Until, IsPolicyFormula, AreBelow, names_in_formula, of_each, triggers, NameEntry, has_mark}

mapped_within : (A : Type 0) (f : NameEntry → A) (entries : List NameEntry) (k : ℕ) (found : Option NameEntry) (a : A) → slice_get entries k ≡ found → option_map f found ≡ Some a → k < length entries
mapped_within A f entries k (Some entry) a at is = slice_get_within entries k entry at
mapped_within A f entries k None a at is = absurd (cc)

marked_in : (mark : NameEntry → Bool) (entries : List NameEntry) (k : ℕ) (found : Option NameEntry) → slice_get entries k ≡ found → IsTrue (has_mark mark found) → k < length entries
marked_in mark entries k (Some entry) at is = slice_get_within entries k entry at
marked_in mark entries k None at is = absurd (cc)

-- a name that has a mark is one of the signature
pub marked_within : (mark : NameEntry → Bool) (entries : List NameEntry) (k : ℕ) → IsTrue (has_mark mark (slice_get entries k)) → k < length entries
marked_within mark entries k is = marked_in mark entries k (slice_get entries k) refl is

pub names_below : (entries : List NameEntry) (scope : ℕ) (f : Formula) → IsPolicyFormula entries scope f → AreBelow (length entries) (names_in_formula f)
names_below entries scope (True place) p = tt
names_below entries scope (False place) p = tt
names_below entries scope (Atom place name terms) p = (mapped_within ℕ (λ (entry : NameEntry). length entry.sorts) entries name.0 (slice_get entries name.0) (length terms) refl p, tt)
names_below entries scope (Equal place l r) p = tt
names_below entries scope (Less place l r) p = tt
names_below entries scope (AtMost place l r) p = tt
names_below entries scope (Not place g) p = names_below entries scope g p
names_below entries scope (And place g h) p = AllByRecursion-append (λ (name : NameId). name.0 < length entries)
    (names_in_formula g) (names_in_formula h) (names_below entries scope g p.0) (names_below entries scope h p.1)
names_below entries scope (Or place g h) p = AllByRecursion-append (λ (name : NameId). name.0 < length entries)
    (names_in_formula g) (names_in_formula h) (names_below entries scope g p.0) (names_below entries scope h p.1)
names_below entries scope (Implies place g h) p = AllByRecursion-append (λ (name : NameId). name.0 < length entries)
    (names_in_formula g) (names_in_formula h) (names_below entries scope g p.0) (names_below entries scope h p.1)
names_below entries scope (Exists place xs g) p = names_below entries (scope + length xs) g p.1
names_below entries scope (Forall place xs g) p = names_below entries (scope + length xs) g p.1
names_below entries scope (Prev place interval g) p = names_below entries scope g p.1
names_below entries scope (Next place interval g) p = names_below entries scope g p.1
names_below entries scope (Once place interval g) p = names_below entries scope g p.1
names_below entries scope (Historically place interval g) p = names_below entries scope g p.1
names_below entries scope (Since place interval g h) p = AllByRecursion-append
    (λ (name : NameId). name.0 < length entries) (names_in_formula g) (names_in_formula h)
    (names_below entries scope g p.1) (names_below entries scope h p.2)
names_below entries scope (Eventually place interval g) p = names_below entries scope g p.1
names_below entries scope (Always place interval g) p = names_below entries scope g p.1
names_below entries scope (Until place interval g h) p = AllByRecursion-append
    (λ (name : NameId). name.0 < length entries) (names_in_formula g) (names_in_formula h)
    (names_below entries scope g p.1) (names_below entries scope h p.2)

-- so are its triggers
pub triggers_below : (most : ℕ) (f : Formula) (found : List NameId) → AreBelow most (names_in_formula f) → triggers f ≡ Some found → AreBelow most found
triggers_below most (Atom place name terms) found below is = let same : name ∷ [] ≡ found = cc in subst (AreBelow most) same below
triggers_below most (And place g h) found below is =
    let each = AllByRecursion-of_append (λ (name : NameId). name.0 < most) (names_in_formula g) (names_in_formula h) below in
    by (triggers g) (triggers h) is (λ xs e. triggers_below most g xs each.0 e) (λ xs e. triggers_below most h xs each.1 e)
  where
    by : (a b : Option (List NameId)) → option_or a b ≡ Some found → ((xs : List NameId) → a ≡ Some xs → AreBelow most xs) → ((xs : List NameId) → b ≡ Some xs → AreBelow most xs) → AreBelow most found
    by (Some xs) b e left right = left found e
    by None b e left right = right found e
triggers_below most (Or place g h) found below is =
    let each = AllByRecursion-of_append (λ (name : NameId). name.0 < most) (names_in_formula g) (names_in_formula h) below in
    by (triggers g) (triggers h) is (λ xs e. triggers_below most g xs each.0 e) (λ xs e. triggers_below most h xs each.1 e)
  where
    by : (a b : Option (List NameId)) → of_each a b ≡ Some found → ((xs : List NameId) → a ≡ Some xs → AreBelow most xs) → ((xs : List NameId) → b ≡ Some xs → AreBelow most xs) → AreBelow most found
    by None b e left right = absurd (cc)
    by (Some xs) None e left right = absurd (cc)
    by (Some xs) (Some ys) e left right =
        let same : xs ++ ys ≡ found = cc in
        subst (AreBelow most) same (AllByRecursion-append (λ (name : NameId). name.0 < most) xs ys (left xs refl) (right ys refl))
triggers_below most (Exists place xs g) found below is = triggers_below most g found below is
triggers_below most f found below is = absurd (cc)
