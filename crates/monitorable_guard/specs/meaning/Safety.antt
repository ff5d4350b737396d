-- The formulas that can be evaluated over finite tables, with the variables of a set bound.
use Rattle.enf_data.specs.declared.terms.Term.{Term}
use Rattle.enf_data.specs.declared.terms.Term.TheVariants.{Var, Const}
use Rattle.enf_data.specs.declared.terms.VarId.{VarId}
use Rattle.std.specs.Prelude.{◌⊎◌, ◌↔◌, List, Contains, ◌++◌, Option, None, Some}
use Rattle.enf_formula.specs.meaning.Satisfaction.{Formula, IsFree, True, False, Atom, Equal, Less, AtMost, Not, And}
use Rattle.enf_formula.specs.meaning.Satisfaction.{Or, Implies, Exists, Forall, Prev, Once, Historically, Since}
use Rattle.enf_formula.specs.meaning.Satisfaction.{formula_place}

-- no variable is bound
abbrev pub NoneBound : VarId → Type 0
NoneBound x = ⊥

-- these variables are bound, and those that are free in the formula
abbrev pub BoundOrFreeIn : (VarId → Type 0) → Formula → VarId → Type 0
BoundOrFreeIn B g x = B x ⊎ IsFree x g

-- each free variable is bound
abbrev pub FreeWithin : Formula → (VarId → Type 0) → Type 0
FreeWithin f B = (x : VarId) → IsFree x f → B x

-- the first is a variable that is not bound, the second a constant or a variable that is bound
abbrev pub Assigns : (VarId → Type 0) → Term → Term → Type 0
Assigns B (Var x) (Var y) = (B x → ⊥) × B y
Assigns B (Var x) (Const value) = B x → ⊥
Assigns B (Const value) t = ⊥

-- each variable that is not bound is free in both formulas or in neither
abbrev pub FreeAlike : (VarId → Type 0) → Formula → Formula → Type 0
FreeAlike B g h = (x : VarId) → (B x → ⊥) → IsFree x g ↔ IsFree x h

-- each free variable of the body is one of these variables or bound
abbrev pub FreeUnder : List VarId → Formula → (VarId → Type 0) → Type 0
FreeUnder xs body B = (x : VarId) → IsFree x body → (Contains xs x → ⊥) → B x

-- the formula can be evaluated where it stands directly below a `forall` of some variables, or below none; directly
-- nested `forall`s count as one. `historically g` can be where `once` of the denial of g can: of h where g is
-- `not h`, of `a and not b` where g is `a -> b`, and else of `not g`
abbrev pub SafeBelow : Option (List VarId) → Formula → (VarId → Type 0) → Type 0
SafeBelow None (True place) B = Unit {0}
SafeBelow None (False place) B = Unit {0}
SafeBelow None (Atom place name terms) B = Unit {0}
SafeBelow None (Equal place s t) B = FreeWithin (Equal place s t) B ⊎ (Assigns B s t ⊎ Assigns B t s)
SafeBelow None (Less place s t) B = FreeWithin (Less place s t) B
SafeBelow None (AtMost place s t) B = FreeWithin (AtMost place s t) B
SafeBelow None (Not place g) B = FreeWithin g B × SafeBelow None g B
SafeBelow None (And place g h) B = SafeBelow None g B × SafeBelow None h (BoundOrFreeIn B g)
SafeBelow None (Or place g h) B = SafeBelow None g B × SafeBelow None h B × FreeAlike B g h
SafeBelow None (Implies place g h) B = FreeWithin g B × FreeWithin h B × SafeBelow None g B × SafeBelow None h B
SafeBelow None (Exists place xs g) B = SafeBelow None g B
SafeBelow None (Forall place xs g) B = SafeBelow (Some xs) g B
SafeBelow None (Prev place interval g) B = SafeBelow None g NoneBound
SafeBelow None (Once place interval g) B = SafeBelow None g NoneBound
SafeBelow None (Historically place interval (Not p h)) B = FreeWithin h B × SafeBelow None h NoneBound
SafeBelow None (Historically place interval (Implies p a b)) B = FreeWithin a B × FreeWithin b B
    × SafeBelow None a NoneBound × FreeWithin b (BoundOrFreeIn NoneBound a)
    × SafeBelow None b (BoundOrFreeIn NoneBound a)
SafeBelow None (Historically place interval g) B = FreeWithin g B × FreeWithin g NoneBound × SafeBelow None g NoneBound
SafeBelow None (Since place interval g h) B = SafeBelow None h NoneBound × FreeWithin g (BoundOrFreeIn NoneBound h)
    × SafeBelow None g (BoundOrFreeIn NoneBound h)
SafeBelow (Some xs) (Forall place ys g) B = SafeBelow (Some (xs ++ ys)) g B
SafeBelow (Some xs) (Implies place g h) B = FreeUnder xs (Implies place g h) B
    × ((x : VarId) → Contains xs x → IsFree x g) × SafeBelow None g B
    × SafeBelow None h (BoundOrFreeIn B g) × FreeWithin h (BoundOrFreeIn B g)
SafeBelow (Some xs) (Not place g) B = FreeUnder xs g B × SafeBelow None g B
SafeBelow above g B = ⊥

-- the formula can be evaluated with these variables bound
abbrev pub Safe : Formula → (VarId → Type 0) → Type 0
Safe f B = SafeBelow None f B

-- the denial of a formula, which `once` takes in the place of `historically`
abbrev pub denial : Formula → Formula
denial (Not place h) = h
denial (Implies place a b) = And place a (Not place b)
denial g = Not (formula_place g) g

-- the formula can be evaluated with these variables bound, and all its free variables are bound, so that it is only
-- asked whether it holds
abbrev pub IsTest : Formula → (VarId → Type 0) → Type 0
IsTest f B = Safe f B × FreeWithin f B
