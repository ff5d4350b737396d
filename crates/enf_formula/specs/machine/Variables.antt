-- The variables that formulas bind, and lists of variables.
use Rattle.enf_data.specs.declared.terms.VarId.{VarId}
use Rattle.std.specs.Prelude.{List, [], ◌++◌, ℕ, zero, suc, ◌∷◌, ◌⊎◌, Contains}
use Rattle.enf_formula.specs.machine.FormulaShape.{IsTermInScope, AreTermsInScope, AreNewVariables}
use Rattle.enf_formula.specs.meaning.Satisfaction.{Formula, IsFree, True, False, Atom, Equal, Less, AtMost, Not, And}
use Rattle.enf_formula.specs.meaning.Satisfaction.{Or, Implies, Exists, Forall, Prev, Next, Once, Historically, Since}
use Rattle.enf_formula.specs.meaning.Satisfaction.{Eventually, Always, Until}

-- no variable is free
abbrev pub IsClosed : Formula → Type 0
IsClosed f = (x : VarId) → IsFree x f → ⊥

-- the variables that a formula binds, in the order of the text
abbrev pub bound_variables : Formula → List VarId
bound_variables (True place) = []
bound_variables (False place) = []
bound_variables (Atom place name terms) = []
bound_variables (Equal place s t) = []
bound_variables (Less place s t) = []
bound_variables (AtMost place s t) = []
bound_variables (Not place g) = bound_variables g
bound_variables (And place g h) = bound_variables g ++ bound_variables h
bound_variables (Or place g h) = bound_variables g ++ bound_variables h
bound_variables (Implies place g h) = bound_variables g ++ bound_variables h
bound_variables (Exists place xs g) = xs ++ bound_variables g
bound_variables (Forall place xs g) = xs ++ bound_variables g
bound_variables (Prev place interval g) = bound_variables g
bound_variables (Next place interval g) = bound_variables g
bound_variables (Once place interval g) = bound_variables g
bound_variables (Historically place interval g) = bound_variables g
bound_variables (Since place interval g h) = bound_variables g ++ bound_variables h
bound_variables (Eventually place interval g) = bound_variables g
bound_variables (Always place interval g) = bound_variables g
bound_variables (Until place interval g h) = bound_variables g ++ bound_variables h

-- so many variables, numbered from a number on
abbrev pub numbered_variables : (first count : ℕ) → List VarId
numbered_variables first zero = []
numbered_variables first (suc count) = record { 0 = first } ∷ numbered_variables (suc first) count

-- the variables with the property were added to others, and nothing else
pub record AddsVariables (P : VarId → Type 0) (before after : List VarId) : Type 0 where
  pub kept : (x : VarId) → Contains before x → Contains after x
  pub added : (x : VarId) → P x → Contains after x
  pub only : (x : VarId) → Contains after x → Contains before x ⊎ P x

-- where these variables are in scope, each variable is in scope where it stands, and each quantifier binds new ones
abbrev pub IsScopedFormula : Formula → (scope : List VarId) → Type 0
IsScopedFormula (True place) scope = Unit {0}
IsScopedFormula (False place) scope = Unit {0}
IsScopedFormula (Atom place name terms) scope = AreTermsInScope scope terms
IsScopedFormula (Equal place s t) scope = IsTermInScope scope s × IsTermInScope scope t
IsScopedFormula (Less place s t) scope = IsTermInScope scope s × IsTermInScope scope t
IsScopedFormula (AtMost place s t) scope = IsTermInScope scope s × IsTermInScope scope t
IsScopedFormula (Not place f) scope = IsScopedFormula f scope
IsScopedFormula (And place f g) scope = IsScopedFormula f scope × IsScopedFormula g scope
IsScopedFormula (Or place f g) scope = IsScopedFormula f scope × IsScopedFormula g scope
IsScopedFormula (Implies place f g) scope = IsScopedFormula f scope × IsScopedFormula g scope
IsScopedFormula (Exists place xs f) scope = AreNewVariables scope xs × IsScopedFormula f (scope ++ xs)
IsScopedFormula (Forall place xs f) scope = AreNewVariables scope xs × IsScopedFormula f (scope ++ xs)
IsScopedFormula (Prev place interval f) scope = IsScopedFormula f scope
IsScopedFormula (Next place interval f) scope = IsScopedFormula f scope
IsScopedFormula (Once place interval f) scope = IsScopedFormula f scope
IsScopedFormula (Historically place interval f) scope = IsScopedFormula f scope
IsScopedFormula (Since place interval f g) scope = IsScopedFormula f scope × IsScopedFormula g scope
IsScopedFormula (Eventually place interval f) scope = IsScopedFormula f scope
IsScopedFormula (Always place interval f) scope = IsScopedFormula f scope
IsScopedFormula (Until place interval f g) scope = IsScopedFormula f scope × IsScopedFormula g scope
