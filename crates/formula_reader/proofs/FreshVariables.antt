-- Variables that are numbered in the order of their binding are new where they are bound.
use Rattle.formula_reader.proofs.Vocabulary.{◌≡◌, ℕ, ◌+◌, ◌<◌, ◌≤◌, zero, suc, Bool, true, false, cond, List, [], ◌∷◌, ◌++◌, length, Some, Contains, refl, sym, ap, subst, ◌∙◌, arith, slice_get}
use Rattle.formula_reader.proofs.Vocabulary.{nat_cmp_is, AllByRecursion, numbered_variables, AreTermsInScope, IsTermInScope, variable_cmp, Term, Var, Const, VarId, Binding, SyntaxTerm, Variable}
use Rattle.formula_reader.proofs.Vocabulary.{Constant, is_named, variable_numbered, term_in, variable_named, bound_variables_from, terms_in}
use Rattle.std.specs.List.Sorted.{IsStrictlySortedBy}
use Rattle.formula_reader.proofs.OptionLaws.{both_from, one_from}
use Rattle.std.specs.declared.cmp.Ordering.TheVariants as ordering

-- variables in scope rise, and stand below the next number
pub record IsScope (next : ℕ) (scope : List VarId) : Type 0 where
  pub rising : IsStrictlySortedBy variable_cmp scope
  pub below : AllByRecursion (λ (x : VarId). x.0 < next) scope

pub no_scope : (next : ℕ) → IsScope next []
unfolding IsStrictlySortedBy
no_scope next = record { rising = tt; below = tt }

below_later : (next later : ℕ) (scope : List VarId) → next ≤ later → AllByRecursion (λ (x : VarId). x.0 < next) scope → AllByRecursion (λ (x : VarId). x.0 < later) scope
below_later next later [] le h = tt
below_later next later (x ∷ scope) le h = let a : x.0 < next = h.0 in (omega arith, below_later next later scope le h.1)

pub scope_later : (next later : ℕ) (scope : List VarId) → next ≤ later → IsScope next scope → IsScope later scope
scope_later next later scope le h = record { rising = h.rising; below = below_later next later scope le h.below }

less : (x y : VarId) → x.0 < y.0 → variable_cmp x y ≡ ordering.Less
less x y lt = sym (nat_cmp_is x.0 y.0 ordering.Less lt)

-- the next variables stand above
above : (x : VarId) (next count : ℕ) → x.0 < next → AllByRecursion (λ y. variable_cmp x y ≡ ordering.Less) (numbered_variables next count)
above x next zero lt = tt
above x next (suc count) lt = (less x (variable_numbered next) lt, above x (suc next) count (omega arith))

front_above : (x : VarId) (scope rest : List VarId) → AllByRecursion (λ y. variable_cmp x y ≡ ordering.Less) scope → AllByRecursion (λ y. variable_cmp x y ≡ ordering.Less) rest
    → AllByRecursion (λ y. variable_cmp x y ≡ ordering.Less) (scope ++ rest)
front_above x [] rest h g = g
front_above x (y ∷ scope) rest h g = (h.0, front_above x scope rest h.1 g)

rising_from : (next count : ℕ) → IsStrictlySortedBy variable_cmp (numbered_variables next count)
unfolding IsStrictlySortedBy
rising_from next zero = tt
rising_from next (suc count) = (above (variable_numbered next) (suc next) count (omega arith), rising_from (suc next) count)

rising_on : (next count : ℕ) (scope : List VarId) → IsStrictlySortedBy variable_cmp scope → AllByRecursion (λ (x : VarId). x.0 < next) scope
    → IsStrictlySortedBy variable_cmp (scope ++ numbered_variables next count)
unfolding IsStrictlySortedBy
rising_on next count [] h below = rising_from next count
rising_on next count (x ∷ scope) h below =
    (front_above x scope (numbered_variables next count) h.0 (above x next count below.0), rising_on next count scope h.1 below.1)

below_from : (next count later : ℕ) → next + count ≤ later → AllByRecursion (λ (x : VarId). x.0 < later) (numbered_variables next count)
below_from next zero later le = tt
below_from next (suc count) later le = (omega arith, below_from (suc next) count later (omega arith))

front_below : (later : ℕ) (scope rest : List VarId) → AllByRecursion (λ (x : VarId). x.0 < later) scope → AllByRecursion (λ (x : VarId). x.0 < later) rest
    → AllByRecursion (λ (x : VarId). x.0 < later) (scope ++ rest)
front_below later [] rest h g = g
front_below later (x ∷ scope) rest h g = (h.0, front_below later scope rest h.1 g)

-- with the next variables they are a scope, and these are new
pub scope_on : (next count : ℕ) (scope : List VarId) → IsScope next scope → IsScope (next + count) (scope ++ numbered_variables next count)
scope_on next count scope h = record {
  rising = rising_on next count scope h.rising h.below;
  below = front_below (next + count) scope (numbered_variables next count) (below_later next (next + count) scope (omega arith) h.below) (below_from next count (next + count) (omega arith));
}

-- ---- the variables of a quantifier

pub bound_in_turn : (next : ℕ) (xs : List Binding) → bound_variables_from next xs ≡ numbered_variables next (length xs)
bound_in_turn next [] = refl
bound_in_turn next (x ∷ xs) = ap (λ (ys : List VarId). variable_numbered next ∷ ys) (bound_in_turn (next + 1) xs ∙ ap (λ n. numbered_variables n (length xs)) (omega arith))

pub numbered_on : (first m n : ℕ) → numbered_variables first m ++ numbered_variables (first + m) n ≡ numbered_variables first (m + n)
numbered_on first zero n =
    let front : first + 0 ≡ first = omega arith in
    let back : n ≡ 0 + n = omega arith in
    ap (λ k. numbered_variables k n) front ∙ ap (numbered_variables first) back
numbered_on first (suc m) n =
    let front : first + suc m ≡ suc first + m = omega arith in
    let back : suc (m + n) ≡ suc m + n = omega arith in
    ap (λ (ys : List VarId). variable_numbered first ∷ ys) (ap (λ k. numbered_variables (suc first) m ++ numbered_variables k n) front ∙ numbered_on (suc first) m n)
    ∙ ap (numbered_variables first) back

pub count_numbered : (first n : ℕ) → length (numbered_variables first n) ≡ n
count_numbered first zero = refl
count_numbered first (suc n) = ap suc (count_numbered (suc first) n)

-- ---- terms

found_in_scope : (names : List (List ℕ)) (scope : List VarId) (name : List ℕ) (x : VarId) → variable_named names scope name ≡ Some x → Contains scope x
found_in_scope names [] name x e = absurd cc
found_in_scope names (y ∷ scope) name x e = by (is_named name (slice_get names y.0)) e (found_in_scope names scope name x)
  where
    by : (b : Bool) → cond b (Some y) (variable_named names scope name) ≡ Some x → (variable_named names scope name ≡ Some x → Contains scope x) → Contains (y ∷ scope) x
    by true f later = let same : y ≡ x = cc in (0, omega arith, same)
    by false f later = let h = later f in (suc h.0, omega (arith, h.1), h.2)

pub term_in_scope : (names : List (List ℕ)) (scope : List VarId) (term : SyntaxTerm) (found : Term) → term_in names scope term ≡ Some found → IsTermInScope scope found
term_in_scope names scope (Variable place name) found e =
    let h = one_from Var (variable_named names scope name) found e in subst (IsTermInScope scope) h.made (found_in_scope names scope name h.x h.from)
term_in_scope names scope (Constant place value) found e = let h : Const value ≡ found = cc in subst (IsTermInScope scope) h tt

pub terms_in_scope : (names : List (List ℕ)) (scope : List VarId) (terms : List SyntaxTerm) (found : List Term) → terms_in names scope terms ≡ Some found
    → AreTermsInScope scope found × (length found ≡ length terms)
terms_in_scope names scope [] found e = let h : [] ≡ found = cc in subst (λ (ts : List Term). AreTermsInScope scope ts × (length ts ≡ 0)) h (tt, refl)
terms_in_scope names scope (term ∷ terms) found e =
    let h = both_from ◌∷◌ (term_in names scope term) (terms_in names scope terms) found e in
    let more = terms_in_scope names scope terms h.y h.right in
    subst (λ (ts : List Term). AreTermsInScope scope ts × (length ts ≡ suc (length terms))) h.made
    ((term_in_scope names scope term h.x h.left, more.0), ap suc more.1)
