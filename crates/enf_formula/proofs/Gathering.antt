-- How the free variables are gathered.
use Rattle.enf_formula.proofs.Vocabulary.{◌≡◌, zero, suc, Bool, true, false, cond, List, [], ◌∷◌, ◌++◌, Result, Ok, Err, IfOk, Contains, arith, refl, sym, ap, subst, ◌∙◌, inl, inr, ⊎_elim, ◌⊎◌}
use Rattle.enf_formula.proofs.Vocabulary.{tied_itself, Decides, list_any, nat_eq, Decides-like, Decides-eqb, list_any-Decides, BTreeSet, contains, eq_by_cmp, is_eq, btree_set_contains_iff}
use Rattle.enf_formula.proofs.Vocabulary.{tells_apart, Contains-append_left, Contains-append_cases, Contains-push, variable_cmp, variable_cmp_same, variable_cmp_total, Term, Var, VarId, Formula}
use Rattle.enf_formula.proofs.Vocabulary.{AreFreeVariables, IsFree, AddsVariables, IsStrictlySortedBy}

pub adds_same : {P Q : VarId → Type 0} {before after : List VarId} → ((x : VarId) → P x → Q x) → ((x : VarId) → Q x → P x) → AddsVariables P before after → AddsVariables Q before after
adds_same to from a = record { kept = a.kept; added = λ x q. a.added x (from x q); only = λ x h. ⊎_elim (λ b. inl b) (λ p. inr (to x p)) (a.only x h) }

pub adds_both : {P Q : VarId → Type 0} {before middle after : List VarId} → AddsVariables P before middle → AddsVariables Q middle after → AddsVariables (λ x. P x ⊎ Q x) before after
adds_both a b = record {
  kept = λ x h. b.kept x (a.kept x h);
  added = λ x pq. ⊎_elim (λ p. b.kept x (a.added x p)) (λ q. b.added x q) pq;
  only = λ x h. ⊎_elim (λ m. ⊎_elim (λ o. inl o) (λ p. inr (inl p)) (a.only x m)) (λ q. inr (inr q)) (b.only x h);
}

tied : (x : VarId) → eq_by_cmp variable_cmp x x ≡ true
tied x = ap is_eq (tied_itself variable_cmp_total x)

one_kept : (b was : Bool) → was ≡ true → cond b true was ≡ true
one_kept true was h = refl
one_kept false was h = h

one_only : (b was : Bool) → cond b true was ≡ true → (was ≡ true) ⊎ (b ≡ true)
one_only true was h = inr refl
one_only false was h = inl h

pub adds_one : (before after : BTreeSet VarId) (x : VarId) → ((y : VarId) → contains variable_cmp after y ≡ cond (eq_by_cmp variable_cmp x y) true (contains variable_cmp before y))
    → AddsVariables (λ y. y ≡ x) before.keys after.keys
adds_one before after x e =
    let has = btree_set_contains_iff variable_cmp_total variable_cmp_same in
    record {
      kept = λ y h. (has after y).0 (e y ∙ one_kept (eq_by_cmp variable_cmp x y) (contains variable_cmp before y) ((has before y).1 h));
      added = λ y is. (has after y).0 (e y ∙ ap (λ b. cond b true (contains variable_cmp before y)) (ap (eq_by_cmp variable_cmp x) is ∙ tied x));
      only = λ y h. ⊎_elim (λ was. inl ((has before y).0 was)) (λ is. inr (sym (tells_apart variable_cmp_same x y is)))
          (one_only (eq_by_cmp variable_cmp x y) (contains variable_cmp before y) (sym (e y) ∙ (has after y).1 h));
    }

pub only_one : {X : Type 0} (x y : X) → Contains (x ∷ []) y → y ≡ x
only_one x y (zero, below, is) = sym is
only_one x y (suc k, below, is) = absurd (omega arith)

-- in a list with one more item there is what was there, and the item
pub last_or_before : {X : Type 0} (xs : List X) (x y : X) → Contains (xs ++ x ∷ []) y → Contains xs y ⊎ (y ≡ x)
last_or_before xs x y h = ⊎_elim (λ before. inl before) (λ one. inr (only_one x y one)) (Contains-append_cases xs (x ∷ []) y h)

pub there_last : {X : Type 0} (xs : List X) (x y : X) → y ≡ x → Contains (xs ++ x ∷ []) y
there_last xs x y e = subst (Contains (xs ++ x ∷ [])) (sym e) (Contains-push xs x)

-- the terms so far, and one more
pub adds_term : (terms : List Term) (term : Term) {before middle after : List VarId} → AddsVariables (λ y. Contains terms (Var y)) before middle
    → AddsVariables (λ y. term ≡ Var y) middle after → AddsVariables (λ y. Contains (terms ++ term ∷ []) (Var y)) before after
adds_term terms term a b =
    adds_same (λ y h. ⊎_elim (λ there. Contains-append_left terms (term ∷ []) (Var y) there) (λ is. there_last terms term (Var y) (sym is)) h)
    (λ y h. ⊎_elim (λ there. inl there) (λ is. inr (sym is)) (last_or_before terms term (Var y) h)) (adds_both a b)

-- the variables so far that are not bound, and one more
abbrev pub IsUnbound : List VarId → List VarId → VarId → Type 0
IsUnbound bound xs y = Contains xs y × (Contains bound y → ⊥)

pub adds_unbound : (bound xs : List VarId) (x : VarId) {before middle after : List VarId} → (Contains bound x → ⊥) → AddsVariables (IsUnbound bound xs) before middle
    → AddsVariables (λ y. y ≡ x) middle after → AddsVariables (IsUnbound bound (xs ++ x ∷ [])) before after
adds_unbound bound xs x out a b =
    adds_same
    (λ y h. ⊎_elim (λ u. (Contains-append_left xs (x ∷ []) y u.0, u.1)) (λ is. (there_last xs x y is, λ there. out (subst (Contains bound) is there))) h)
    (λ y h. ⊎_elim (λ there. inl (there, h.1)) (λ is. inr is) (last_or_before xs x y h.0))
    (adds_both a b)

pub adds_bound : (bound xs : List VarId) (x : VarId) {before after : List VarId} → Contains bound x → AddsVariables (IsUnbound bound xs) before after
    → AddsVariables (IsUnbound bound (xs ++ x ∷ [])) before after
adds_bound bound xs x there a =
    adds_same (λ y u. (Contains-append_left xs (x ∷ []) y u.0, u.1)) (λ y h. ⊎_elim (λ before. (before, h.1)) (λ is. absurd (h.1 (subst (Contains bound) (sym is) there)))
    (last_or_before xs x y h.0)) a

-- the test that looks a variable up
pub bound_decides : (xs : List VarId) (x : VarId) → Decides (list_any (λ y. nat_eq y.0 x.0) xs) (Contains xs x)
bound_decides xs x =
    list_any-Decides (λ k y. nat_eq y.0 k.0) (λ k y. Decides-like (nat_eq y.0 k.0) (λ e. ap (λ n. record { 0 = n }) (sym e)) (λ is. ap (λ z. z.0) (sym is)) (Decides-eqb y.0 k.0)) xs x

no_item : (y : VarId) → Contains [] y → ⊥
no_item y h = omega (arith, h.1)

-- the variables that were found in the formula under a quantifier, but for those that it binds
pub adds_inner : {P : VarId → Type 0} {none inner before after : List VarId} (bound : List VarId) → none ≡ [] → AddsVariables P none inner
    → AddsVariables (λ y. Contains inner y × (Contains bound y → ⊥)) before after → AddsVariables (λ y. P y × (Contains bound y → ⊥)) before after
adds_inner bound empty found a =
    adds_same
    (λ y u. (⊎_elim (λ in_none. absurd (no_item y (subst (λ (xs : List VarId). Contains xs y) empty in_none))) (λ p. p) (found.only y u.0), u.1))
    (λ y h. (found.added y h.0, h.1))
    a

-- what was added to no variables and is listed in order are the free variables
pub are_free : {E : Type 0} (f : Formula) (r : Result (List VarId) E) (none found : List VarId) → none ≡ [] → AddsVariables (λ x. IsFree x f) none found
    → IfOk r (λ xs. xs ≡ found) → IfOk r (IsStrictlySortedBy variable_cmp) → IfOk r (AreFreeVariables f)
are_free f (Ok xs) none found empty a same rising =
    let first : AddsVariables (λ x. IsFree x f) [] found = subst (λ (none : List VarId). AddsVariables (λ x. IsFree x f) none found) empty a in
    let all : AddsVariables (λ x. IsFree x f) [] xs = subst (AddsVariables (λ x. IsFree x f) []) (sym same) first in
    record { rising = rising; exact = λ x. (λ h. ⊎_elim (λ in_none. absurd (no_item x in_none)) (λ p. p) (all.only x h), all.added x) }
are_free f (Err e) none found empty a same rising = tt
