-- The kinds of formulas that remain.
use Rattle.monitorable_guard.proofs.Vocabulary.{◌≡◌, ℕ, ⊎_elim, List, Some, Box, refl, Global, NameId, Interval, Term, VarId, tree_of, Safe, SafeBelow, FreeWithin}
use Rattle.monitorable_guard.proofs.SafetyLaws.{below_within, historically_within}
use Rattle.monitorable_guard.specs.machine.Reordering.{conjuncts_from, only_formula}
use Rattle.enf_formula.specs.declared.formulas.Formula as stored

-- what is safe and none of these has no open variable
pub closed_kind : (f : stored.Formula)
    → ((place : ℕ) (name : NameId) (terms : List Term) → f ≡ stored.Atom place name terms → ⊥)
    → ((place : ℕ) (s t : Term) → f ≡ stored.Equal place s t → ⊥)
    → ((place : ℕ) (a b : Box stored.Formula Global) → f ≡ stored.And place a b → ⊥)
    → ((place : ℕ) (a b : Box stored.Formula Global) → f ≡ stored.Or place a b → ⊥)
    → ((place : ℕ) (xs : List VarId) (b : Box stored.Formula Global) → f ≡ stored.Exists place xs b → ⊥)
    → ((place : ℕ) (interval : Interval) (b : Box stored.Formula Global) → f ≡ stored.Prev place interval b → ⊥)
    → ((place : ℕ) (interval : Interval) (b : Box stored.Formula Global) → f ≡ stored.Once place interval b → ⊥)
    → ((place : ℕ) (interval : Interval) (a b : Box stored.Formula Global) → f ≡ stored.Since place interval a b → ⊥)
    → (B : VarId → Type 0) → Safe (tree_of f) B → FreeWithin (tree_of f) B
closed_kind (stored.True place) a e n o x p q s B safe = λ y free. absurd free
closed_kind (stored.False place) a e n o x p q s B safe = λ y free. absurd free
closed_kind (stored.Atom place name terms) a e n o x p q s B safe = absurd (a place name terms refl)
closed_kind (stored.Equal place t u) a e n o x p q s B safe = absurd (e place t u refl)
closed_kind (stored.Less place t u) a e n o x p q s B safe = safe
closed_kind (stored.AtMost place t u) a e n o x p q s B safe = safe
closed_kind (stored.Not' place r g) a e n o x p q s B safe = safe.0
closed_kind (stored.And' place r g t h) a e n o x p q s B safe = absurd (n place (record { ptr = r.ptr; alloc = r.alloc; value = g }) (record { ptr = t.ptr; alloc = t.alloc; value = h }) refl)
closed_kind (stored.Or' place r g t h) a e n o x p q s B safe = absurd (o place (record { ptr = r.ptr; alloc = r.alloc; value = g }) (record { ptr = t.ptr; alloc = t.alloc; value = h }) refl)
closed_kind (stored.Implies' place r g t h) a e n o x p q s B safe = λ y free. ⊎_elim (safe.0 y) (safe.1 y) free
closed_kind (stored.Exists' place xs r g) a e n o x p q s B safe = absurd (x place xs (record { ptr = r.ptr; alloc = r.alloc; value = g }) refl)
closed_kind (stored.Forall' place xs r g) a e n o x p q s B safe = λ y free. below_within xs (tree_of g) B safe y free.0 free.1
closed_kind (stored.Prev' place interval r g) a e n o x p q s B safe = absurd (p place interval (record { ptr = r.ptr; alloc = r.alloc; value = g }) refl)
closed_kind (stored.Once' place interval r g) a e n o x p q s B safe = absurd (q place interval (record { ptr = r.ptr; alloc = r.alloc; value = g }) refl)
closed_kind (stored.Historically' place interval r g) a e n o x p q s B safe = historically_within place interval (tree_of g) B safe
closed_kind (stored.Since' place interval r g t h) a e n o x p q s B safe = absurd (s place interval (record { ptr = r.ptr; alloc = r.alloc; value = g })
    (record { ptr = t.ptr; alloc = t.alloc; value = h }) refl)
closed_kind (stored.Next' place interval r g) a e n o x p q s B safe = absurd safe
closed_kind (stored.Eventually' place interval r g) a e n o x p q s B safe = absurd safe
closed_kind (stored.Always' place interval r g) a e n o x p q s B safe = absurd safe
closed_kind (stored.Until' place interval r g t h) a e n o x p q s B safe = absurd safe

-- nothing else is safe below a `forall`
pub below_kind : (f : stored.Formula)
    → ((place : ℕ) (xs : List VarId) (b : Box stored.Formula Global) → f ≡ stored.Forall place xs b → ⊥)
    → ((place : ℕ) (a b : Box stored.Formula Global) → f ≡ stored.Implies place a b → ⊥)
    → ((place : ℕ) (b : Box stored.Formula Global) → f ≡ stored.Not place b → ⊥)
    → (xs : List VarId) (B : VarId → Type 0) → SafeBelow (Some xs) (tree_of f) B → ⊥
below_kind (stored.Forall' place ys r g) a i n xs B safe = absurd (a place ys (record { ptr = r.ptr; alloc = r.alloc; value = g }) refl)
below_kind (stored.Implies' place r g t h) a i n xs B safe = absurd (i place (record { ptr = r.ptr; alloc = r.alloc; value = g }) (record { ptr = t.ptr; alloc = t.alloc; value = h }) refl)
below_kind (stored.Not' place r g) a i n xs B safe = absurd (n place (record { ptr = r.ptr; alloc = r.alloc; value = g }) refl)
below_kind f a i n xs B safe = absurd safe

-- what is no conjunction is its only conjunct
pub lone_conjunct : (f : stored.Formula) → ((place : ℕ) (a b : Box stored.Formula Global) → f ≡ stored.And place a b → ⊥) → (first : ℕ)
    → conjuncts_from first (tree_of f) ≡ only_formula first (tree_of f)
lone_conjunct (stored.And' place r g t h) n first = absurd (n place (record { ptr = r.ptr; alloc = r.alloc; value = g }) (record { ptr = t.ptr; alloc = t.alloc; value = h }) refl)
lone_conjunct f n first = refl
