-- What a formula binds in a scope, whether it looks ahead, terms in scope, new variables, and the size of a formula.
use Rattle.enf_data.specs.declared.terms.Term.{Term}
use Rattle.enf_data.specs.declared.terms.Term.TheVariants.{Var, Const}
use Rattle.enf_data.specs.declared.terms.VarId.{VarId}
use Rattle.enf_data.specs.meaning.Valuations.{variable_cmp}
use Rattle.std.specs.List.{AllByRecursion}
use Rattle.std.specs.List.Sorted.{IsStrictlySortedBy}
use Rattle.std.specs.Prelude.{◌⊎◌, Contains, Bool, true, false, ◌&&◌, List, ◌++◌, ℕ, ◌+◌}
use Rattle.enf_formula.specs.meaning.Satisfaction.{Formula, Not, And, Or, Implies, Exists, Forall, Prev, Next, Once}
use Rattle.enf_formula.specs.meaning.Satisfaction.{Historically, Since, Eventually, Always, Until, True, False, Atom}
use Rattle.enf_formula.specs.meaning.Satisfaction.{Equal, Less, AtMost}

-- no quantifier binds a variable that is in scope where it stands
abbrev pub BindsFresh : Formula → (VarId → Type 0) → Type 0
BindsFresh (True place) scope = Unit {0}
BindsFresh (False place) scope = Unit {0}
BindsFresh (Atom place name terms) scope = Unit {0}
BindsFresh (Equal place s t) scope = Unit {0}
BindsFresh (Less place s t) scope = Unit {0}
BindsFresh (AtMost place s t) scope = Unit {0}
BindsFresh (Not place g) scope = BindsFresh g scope
BindsFresh (And place g h) scope = BindsFresh g scope × BindsFresh h scope
BindsFresh (Or place g h) scope = BindsFresh g scope × BindsFresh h scope
BindsFresh (Implies place g h) scope = BindsFresh g scope × BindsFresh h scope
BindsFresh (Exists place xs g) scope = ((x : VarId) → Contains xs x → scope x → ⊥)
    × BindsFresh g (λ x. scope x ⊎ Contains xs x)
BindsFresh (Forall place xs g) scope = ((x : VarId) → Contains xs x → scope x → ⊥)
    × BindsFresh g (λ x. scope x ⊎ Contains xs x)
BindsFresh (Prev place interval g) scope = BindsFresh g scope
BindsFresh (Next place interval g) scope = BindsFresh g scope
BindsFresh (Once place interval g) scope = BindsFresh g scope
BindsFresh (Historically place interval g) scope = BindsFresh g scope
BindsFresh (Since place interval g h) scope = BindsFresh g scope × BindsFresh h scope
BindsFresh (Eventually place interval g) scope = BindsFresh g scope
BindsFresh (Always place interval g) scope = BindsFresh g scope
BindsFresh (Until place interval g h) scope = BindsFresh g scope × BindsFresh h scope

-- no `next`, `eventually`, `always` or `until` stands in the formula
abbrev pub is_past : Formula → Bool
is_past (True place) = true
is_past (False place) = true
is_past (Atom place name terms) = true
is_past (Equal place s t) = true
is_past (Less place s t) = true
is_past (AtMost place s t) = true
is_past (Not place f) = is_past f
is_past (And place f g) = is_past f && is_past g
is_past (Or place f g) = is_past f && is_past g
is_past (Implies place f g) = is_past f && is_past g
is_past (Exists place xs f) = is_past f
is_past (Forall place xs f) = is_past f
is_past (Prev place interval f) = is_past f
is_past (Next place interval f) = false
is_past (Once place interval f) = is_past f
is_past (Historically place interval f) = is_past f
is_past (Since place interval f g) = is_past f && is_past g
is_past (Eventually place interval f) = false
is_past (Always place interval f) = false
is_past (Until place interval f g) = false

-- a term is a constant or a variable in scope
abbrev pub IsTermInScope : (scope : List VarId) → Term → Type 0
IsTermInScope scope (Var x) = Contains scope x
IsTermInScope scope (Const value) = Unit {0}

abbrev pub AreTermsInScope : (scope : List VarId) → List Term → Type 0
AreTermsInScope scope terms = AllByRecursion (IsTermInScope scope) terms

-- variables are numbered in the order in which they are bound: those in scope and then these rise, so that these are
-- distinct and none of them is in scope
abbrev pub AreNewVariables : (scope xs : List VarId) → Type 0
AreNewVariables scope xs = IsStrictlySortedBy variable_cmp (scope ++ xs)

-- how many nodes a formula has
abbrev pub formula_size : Formula → ℕ
formula_size (Not place f) = formula_size f + 1
formula_size (And place f g) = formula_size f + formula_size g + 1
formula_size (Or place f g) = formula_size f + formula_size g + 1
formula_size (Implies place f g) = formula_size f + formula_size g + 1
formula_size (Exists place xs f) = formula_size f + 1
formula_size (Forall place xs f) = formula_size f + 1
formula_size (Prev place interval f) = formula_size f + 1
formula_size (Next place interval f) = formula_size f + 1
formula_size (Once place interval f) = formula_size f + 1
formula_size (Historically place interval f) = formula_size f + 1
formula_size (Since place interval f g) = formula_size f + formula_size g + 1
formula_size (Eventually place interval f) = formula_size f + 1
formula_size (Always place interval f) = formula_size f + 1
formula_size (Until place interval f g) = formula_size f + formula_size g + 1
formula_size f = 1
