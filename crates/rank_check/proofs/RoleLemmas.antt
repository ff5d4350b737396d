-- Marks and roles by name.
use Rattle.rank_check.proofs.Vocabulary.{◌≡◌, ◌↔◌, ℕ, ◌+◌, ◌<◌, ◌≤◌, Bool, true, false, IsTrue, List, [], ◌∷◌, ◌++◌, None, Some, Contains, length, take, get_or, set, refl, sym, ap, subst, inl, inr}
use Rattle.rank_check.proofs.Vocabulary.{⊎_elim, arith, cases_lt, cases_eq, get_or-set_at, get_or-set_other, get_or_append_left, get_or_past, take_more, get_or-append_seam, Contains-append_left}
use Rattle.rank_check.proofs.Vocabulary.{Contains-push, Contains-push_cases, get_or_from_slice_get, slice_get_read, NameId, Plan, NothingClashes, Clashes, IsCaused, IsSuppressed, Role, Free, Caused}
use Rattle.rank_check.proofs.Vocabulary.{Suppressed, role_in, NameHasRole, IsFirstName, role_for, AreNamesBelow, IsMarkedName}

-- the marks are those of the names of a list
abbrev pub Tells : List Bool → (NameId → Type 0) → Type 0
Tells marks P = (name : NameId) → IsMarkedName marks name ↔ P name

pub one_more : (marks : List Bool) (listed : List NameId) (i : ℕ) (none : NameId) → i < length listed → (get_or listed i none).0 < length marks
    → Tells marks (Contains (take i listed)) → Tells (set marks (get_or listed i none).0 true) (Contains (take (i + 1) listed))
one_more marks listed i none inside fits tells name =
    let new : NameId = get_or listed i none in
    let more : take (i + 1) listed ≡ take i listed ++ new ∷ [] = take_more listed i none inside in (
      λ marked. subst (λ (l : List NameId). Contains l name) (sym more) (⊎_elim
          (λ (same : name.0 ≡ new.0). let is : new ≡ name = ap (λ (n : ℕ). record { 0 = n }) (sym same) in
          subst (λ (n : NameId). Contains (take i listed ++ new ∷ []) n) is (Contains-push (take i listed) new))
          (λ (other : name.0 ≡ new.0 → ⊥). Contains-append_left (take i listed) (new ∷ []) name ((tells name).0 (subst IsTrue (get_or-set_other marks new.0 name.0 true false other) marked)))
          (cases_eq name.0 new.0)),
      λ there. ⊎_elim
          (λ (same : name.0 ≡ new.0). subst IsTrue (sym (get_or-set_at marks new.0 name.0 true false same fits)) refl)
          (λ (other : name.0 ≡ new.0 → ⊥). ⊎_elim
          (λ (old : Contains (take i listed) name). subst IsTrue (sym (get_or-set_other marks new.0 name.0 true false other)) ((tells name).1 old))
          (λ (is : new ≡ name). absurd (other (ap (λ (n : NameId). n.0) (sym is))))
          (Contains-push_cases (take i listed) new name (subst (λ (l : List NameId). Contains l name) more there)))
          (cases_eq name.0 new.0),
    )

-- a mark that was read
pub read : (marks : List Bool) (number : ℕ) (mark : Bool) (P : NameId → Type 0) → number < length marks → mark ≡ get_or marks number mark → Tells marks P → IsTrue mark ↔ P (record { 0 = number })
read marks number mark P inside is tells =
    let same : get_or marks number false ≡ mark = get_or_from_slice_get marks number mark false (slice_get_read marks _ number mark refl inside is) in
    subst (λ (b : Bool). IsTrue b ↔ P (record { 0 = number })) same (tells (record { 0 = number }))

pub has_role : (plans : List Plan) (name : NameId) (caused suppressed : Bool) (role : Role) → IsTrue caused ↔ IsCaused plans name → IsTrue suppressed ↔ IsSuppressed plans name
    → Some role ≡ role_for caused suppressed → NameHasRole plans name role × (Clashes plans name → ⊥)
has_role plans name true true role a b is = absurd (cc)
has_role plans name true false role a b is =
    let same : Caused ≡ role = cc in
    (subst (NameHasRole plans name) same (a.0 refl), λ clash. let no : false ≡ true = b.1 clash.1 in cc)
has_role plans name false true role a b is =
    let same : Suppressed ≡ role = cc in
    (subst (NameHasRole plans name) same (b.0 refl), λ clash. let no : false ≡ true = a.1 clash.0 in cc)
has_role plans name false false role a b is =
    let same : Free ≡ role = cc in
    (subst (NameHasRole plans name) same (λ caused. no (a.1 caused), λ suppressed. no (b.1 suppressed)), λ clash. no (a.1 clash.0))
  where
    no : false ≡ true → ⊥
    no e = cc

clashes : (plans : List Plan) (name : NameId) (caused suppressed : Bool) → IsTrue caused ↔ IsCaused plans name → IsTrue suppressed ↔ IsSuppressed plans name → None
    ≡ role_for caused suppressed → Clashes plans name
clashes plans name true true a b is = (a.0 refl, b.0 refl)
clashes plans name true false a b is = absurd (cc)
clashes plans name false true a b is = absurd (cc)
clashes plans name false false a b is = absurd (cc)

abbrev pub ClearBelow : List Plan → ℕ → Type 0
ClearBelow plans number = (name : NameId) → name.0 < number → Clashes plans name → ⊥

abbrev pub RolesBelow : List Plan → List Role → ℕ → Type 0
RolesBelow plans roles number = (name : NameId) → name.0 < number → NameHasRole plans name (role_in roles name)

pub first_clash : (plans : List Plan) (number : ℕ) (caused suppressed : Bool) → ClearBelow plans number → IsTrue caused ↔ IsCaused plans (record { 0 = number })
    → IsTrue suppressed ↔ IsSuppressed plans (record { 0 = number }) → None ≡ role_for caused suppressed → IsFirstName (Clashes plans) (record { 0 = number })
first_clash plans number caused suppressed clear a b is = record {
  has = clashes plans (record { 0 = number }) caused suppressed a b is;
  first = λ other clash. ⊎_elim (λ (before : other.0 < number). absurd (clear other before clash)) (λ (from : number ≤ other.0). from) (cases_lt other.0 number);
}

at_end : (number : ℕ) (P : NameId → Type 0) (name : NameId) → name.0 < number + 1 → number ≤ name.0 → P (record { 0 = number }) → P name
at_end number P name below from holds =
    let same : number ≡ name.0 = omega (arith, below, from) in subst (λ (n : ℕ). P (record { 0 = n })) same holds

pub clear_more : (plans : List Plan) (number : ℕ) → ClearBelow plans number → (Clashes plans (record { 0 = number }) → ⊥) → ClearBelow plans (number + 1)
clear_more plans number clear here name below clash =
    ⊎_elim (λ (before : name.0 < number). clear name before clash)
    (λ (from : number ≤ name.0). at_end number (λ n. Clashes plans n → ⊥) name below from here clash) (cases_lt name.0 number)

pub roles_more : (plans : List Plan) (roles : List Role) (role : Role) (number : ℕ) → length roles ≡ number → RolesBelow plans roles number
    → NameHasRole plans (record { 0 = number }) role → RolesBelow plans (roles ++ role ∷ []) (number + 1)
roles_more plans roles role number sized have here name below =
    ⊎_elim
    (λ (before : name.0 < number).
    let inside : name.0 < length roles = omega (arith, sized, before) in
    subst (NameHasRole plans name) (sym (get_or_append_left roles (role ∷ []) Free name.0 inside)) (have name before))
    (λ (from : number ≤ name.0). at_end number (λ (n : NameId). NameHasRole plans n (role_in (roles ++ role ∷ []) n)) name below from
    (let last : get_or (roles ++ role ∷ []) number Free ≡ role = subst (λ (k : ℕ). get_or (roles ++ role ∷ []) k Free ≡ role) sized (get_or-append_seam roles role [] Free) in
    subst (NameHasRole plans (record { 0 = number })) (sym last) here))
    (cases_lt name.0 number)

-- names after the others are free
pub roles_of_all : (plans : List Plan) (roles : List Role) (names : ℕ) → length roles ≡ names → AreNamesBelow names plans → RolesBelow plans roles names → (name : NameId)
    → NameHasRole plans name (role_in roles name)
roles_of_all plans roles names sized changed have name =
    ⊎_elim (λ (before : name.0 < names). have name before)
    (λ (from : names ≤ name.0).
    let past : length roles ≤ name.0 = omega (arith, sized, from) in
    subst (NameHasRole plans name) (sym (get_or_past roles name.0 Free past)) (
      λ caused. omega (arith, from, changed name (inl caused)),
      λ suppressed. omega
          (arith, from, changed name (inr suppressed)),
    ))
    (cases_lt name.0 names)

pub nothing_clashes : (plans : List Plan) (names : ℕ) → AreNamesBelow names plans → ClearBelow plans names → NothingClashes plans
nothing_clashes plans names changed clear name clash = clear name (changed name (inl clash.0)) clash
