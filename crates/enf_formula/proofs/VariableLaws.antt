-- The laws of free variables and of scopes.
use Rattle.enf_formula.proofs.Vocabulary.{same_rising, variable_cmp_total, Term, Var, VarId, variable_cmp, Contains, subst, zero, suc, [], ◌∷◌, arith, inl, inr, ◌⊎◌, ◌++◌, ⊎_elim}
use Rattle.enf_formula.proofs.Vocabulary.{Contains-append_cases, Contains-append_right, Contains-append_left, sorted_head, sorted_tail, tied_itself, AllByRecursion, IsScopedFormula, IsClosed}
use Rattle.enf_formula.proofs.Vocabulary.{IsTermInScope, AreTermsInScope, AreNewVariables, BindsFresh, Formula, AreFreeVariables, True, False, Atom, Equal, Less, AtMost, Not, And, Or, Implies, Exists}
use Rattle.enf_formula.proofs.Vocabulary.{Forall, Prev, Next, Once, Historically, Since, Eventually, Always, Until, IsFree}
use Rattle.std.specs.Prelude.{◌≡◌, List}
use Rattle.std.specs.declared.cmp.Ordering.TheVariants as ordering

pub same_free : (f : Formula) (xs ys : List VarId) → AreFreeVariables f xs → AreFreeVariables f ys → xs ≡ ys
same_free f xs ys a b =
    same_rising variable_cmp_total xs ys a.rising b.rising (λ x there. (b.exact x).1 ((a.exact x).0 there))
    (λ x there. (a.exact x).1 ((b.exact x).0 there))

variable_in_scope : (scope : List VarId) (t : Term) (x : VarId) → IsTermInScope scope t
    → t ≡ Var x → Contains scope x
variable_in_scope scope t x h is = subst (IsTermInScope scope) is h

in_terms : (scope : List VarId) (terms : List Term) (x : VarId)
    → AreTermsInScope scope terms → Contains terms (Var x) → Contains scope x
in_terms scope [] x h (k, below, is) = absurd (omega arith)
in_terms scope (t ∷ terms) x h (zero, below, is) = variable_in_scope scope t x h.0 is
in_terms scope (t ∷ terms) x h (suc k, below, is) = in_terms scope terms x h.1 (k, omega arith, is)

one_of_two : (scope : List VarId) (s t : Term) (x : VarId) → IsTermInScope scope s × IsTermInScope scope t
    → (s ≡ Var x) ⊎ (t ≡ Var x) → Contains scope x
one_of_two scope s t x h (inl is) = variable_in_scope scope s x h.0 is
one_of_two scope s t x h (inr is) = variable_in_scope scope t x h.1 is

outside : (scope xs : List VarId) (x : VarId)
    → Contains (scope ++ xs) x → (Contains xs x → ⊥) → Contains scope x
outside scope xs x there not_bound = ⊎_elim (λ in_scope. in_scope) (λ bound. absurd (not_bound bound))
    (Contains-append_cases scope xs x there)

pub free_in_scope : (f : Formula) (scope : List VarId)
    → IsScopedFormula f scope → (x : VarId) → IsFree x f → Contains scope x
free_in_scope (True place) scope h x free = absurd free
free_in_scope (False place) scope h x free = absurd free
free_in_scope (Atom place name terms) scope h x free = in_terms scope terms x h free
free_in_scope (Equal place s t) scope h x free = one_of_two scope s t x h free
free_in_scope (Less place s t) scope h x free = one_of_two scope s t x h free
free_in_scope (AtMost place s t) scope h x free = one_of_two scope s t x h free
free_in_scope (Not place f) scope h x free = free_in_scope f scope h x free
free_in_scope (And place f g) scope h x (inl free) = free_in_scope f scope h.0 x free
free_in_scope (And place f g) scope h x (inr free) = free_in_scope g scope h.1 x free
free_in_scope (Or place f g) scope h x (inl free) = free_in_scope f scope h.0 x free
free_in_scope (Or place f g) scope h x (inr free) = free_in_scope g scope h.1 x free
free_in_scope (Implies place f g) scope h x (inl free) = free_in_scope f scope h.0 x free
free_in_scope (Implies place f g) scope h x (inr free) = free_in_scope g scope h.1 x free
free_in_scope (Exists place xs f) scope h x free =
    outside scope xs x (free_in_scope f (scope ++ xs) h.1 x free.0) free.1
free_in_scope (Forall place xs f) scope h x free =
    outside scope xs x (free_in_scope f (scope ++ xs) h.1 x free.0) free.1
free_in_scope (Prev place interval f) scope h x free = free_in_scope f scope h x free
free_in_scope (Next place interval f) scope h x free = free_in_scope f scope h x free
free_in_scope (Once place interval f) scope h x free = free_in_scope f scope h x free
free_in_scope (Historically place interval f) scope h x free = free_in_scope f scope h x free
free_in_scope (Since place interval f g) scope h x (inl free) = free_in_scope f scope h.0 x free
free_in_scope (Since place interval f g) scope h x (inr free) = free_in_scope g scope h.1 x free
free_in_scope (Eventually place interval f) scope h x free = free_in_scope f scope h x free
free_in_scope (Always place interval f) scope h x free = free_in_scope f scope h x free
free_in_scope (Until place interval f g) scope h x (inl free) = free_in_scope f scope h.0 x free
free_in_scope (Until place interval f g) scope h x (inr free) = free_in_scope g scope h.1 x free

-- no variable is below itself
above_none : (x y : VarId) (ys : List VarId)
    → AllByRecursion (λ z. variable_cmp y z ≡ ordering.Less) ys → Contains ys x → y ≡ x → ⊥
above_none x y [] h (k, below, is) same = absurd (omega arith)
above_none x y (z ∷ ys) h (zero, below, is) same =
    let less : variable_cmp x x ≡ ordering.Less =
    subst (λ a. variable_cmp a x ≡ ordering.Less) same (subst (λ b. variable_cmp y b ≡ ordering.Less) is h.0) in
    let tied : variable_cmp x x ≡ ordering.Equal = tied_itself variable_cmp_total x in cc
above_none x y (z ∷ ys) h (suc k, below, is) same = above_none x y ys h.1 (k, omega arith, is) same

-- new variables are none of those in scope
pub new_apart : (scope xs : List VarId) → AreNewVariables scope xs → (x : VarId) → Contains xs x
    → Contains scope x → ⊥
new_apart [] xs h x new (k, below, is) = absurd (omega arith)
new_apart (y ∷ scope) xs h x new (zero, below, is) =
    above_none x y (scope ++ xs) (sorted_head variable_cmp y (scope ++ xs) h) (Contains-append_right scope xs x new) is
new_apart (y ∷ scope) xs h x new (suc k, below, is) =
    new_apart scope xs (sorted_tail variable_cmp y (scope ++ xs) h) x new (k, omega arith, is)

in_either : (scope xs : List VarId) (S : VarId → Type 0) → ((x : VarId) → S x → Contains scope x)
    → (x : VarId) → S x ⊎ Contains xs x → Contains (scope ++ xs) x
in_either scope xs S within x (inl before) = Contains-append_left scope xs x (within x before)
in_either scope xs S within x (inr bound) = Contains-append_right scope xs x bound

pub scoped_fresh : (f : Formula) (scope : List VarId) (S : VarId → Type 0)
    → ((x : VarId) → S x → Contains scope x) → IsScopedFormula f scope → BindsFresh f S
scoped_fresh (True place) scope S within h = tt
scoped_fresh (False place) scope S within h = tt
scoped_fresh (Atom place name terms) scope S within h = tt
scoped_fresh (Equal place s t) scope S within h = tt
scoped_fresh (Less place s t) scope S within h = tt
scoped_fresh (AtMost place s t) scope S within h = tt
scoped_fresh (Not place f) scope S within h = scoped_fresh f scope S within h
scoped_fresh (And place f g) scope S within h = (scoped_fresh f scope S within h.0, scoped_fresh g scope S within h.1)
scoped_fresh (Or place f g) scope S within h = (scoped_fresh f scope S within h.0, scoped_fresh g scope S within h.1)
scoped_fresh (Implies place f g) scope S within h =
    (scoped_fresh f scope S within h.0, scoped_fresh g scope S within h.1)
scoped_fresh (Exists place xs f) scope S within h = (
  λ x bound before. new_apart scope xs h.0 x bound (within x before),
  scoped_fresh f (scope ++ xs) (λ x. S x ⊎ Contains xs x) (in_either scope xs S within) h.1,
)
scoped_fresh (Forall place xs f) scope S within h = (
  λ x bound before. new_apart scope xs h.0 x bound (within x before),
  scoped_fresh f (scope ++ xs) (λ x. S x ⊎ Contains xs x) (in_either scope xs S within) h.1,
)
scoped_fresh (Prev place interval f) scope S within h = scoped_fresh f scope S within h
scoped_fresh (Next place interval f) scope S within h = scoped_fresh f scope S within h
scoped_fresh (Once place interval f) scope S within h = scoped_fresh f scope S within h
scoped_fresh (Historically place interval f) scope S within h = scoped_fresh f scope S within h
scoped_fresh (Since place interval f g) scope S within h =
    (scoped_fresh f scope S within h.0, scoped_fresh g scope S within h.1)
scoped_fresh (Eventually place interval f) scope S within h = scoped_fresh f scope S within h
scoped_fresh (Always place interval f) scope S within h = scoped_fresh f scope S within h
scoped_fresh (Until place interval f g) scope S within h =
    (scoped_fresh f scope S within h.0, scoped_fresh g scope S within h.1)

-- with no variable in scope it is closed
pub scoped_closed : (f : Formula) → IsScopedFormula f [] → IsClosed f
scoped_closed f h x free = none x (free_in_scope f [] h x free)
  where
    none : (x : VarId) → Contains [] x → ⊥
    none x (k, below, is) = absurd (omega arith)
