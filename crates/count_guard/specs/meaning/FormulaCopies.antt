-- Copies of formulas: terms in the place of free variables, and new variables in the place of those that are bound.
use Rattle.enf_data.specs.declared.terms.Term.{Term}
use Rattle.enf_data.specs.declared.terms.Term.TheVariants.{Var, Const}
use Rattle.enf_data.specs.declared.terms.VarId.{VarId}
use Rattle.enf_formula.specs.meaning.Satisfaction.{Formula, True, False, Atom, Equal, Less, AtMost, Not, And, Or}
use Rattle.enf_formula.specs.meaning.Satisfaction.{Implies, Exists, Forall, Prev, Next, Once, Historically, Since}
use Rattle.enf_formula.specs.meaning.Satisfaction.{Eventually, Always, Until}
use Rattle.std.specs.Prelude.{ℕ, suc, ◌+◌, ◌==◌, cond, List, [], ◌∷◌, length, map}

-- the term in the place of each variable
abbrev pub Substitution : Type 0
Substitution = VarId → Term

-- as it was, with a term in the place of one variable
abbrev pub with_term : VarId → Term → Substitution → Substitution
with_term x term given y = cond (y.0 == x.0) term (given y)

-- as it was, with terms in the places of variables, in turn
abbrev pub with_terms : List VarId → List Term → Substitution → Substitution
with_terms [] terms given = given
with_terms (x ∷ xs) [] given = given
with_terms (x ∷ xs) (term ∷ terms) given = with_terms xs terms (with_term x term given)

-- what stands in the place of a term
abbrev pub term_given : Substitution → Term → Term
term_given given (Var x) = given x
term_given given (Const value) = Const value

-- a new variable for each of these, numbered from a number on
abbrev pub new_variables : (next : ℕ) → List VarId → List VarId
new_variables next [] = []
new_variables next (x ∷ xs) = record { 0 = next } ∷ new_variables (suc next) xs

-- as it was, with a new variable in the place of each of these
abbrev pub with_new_variables : (next : ℕ) → List VarId → Substitution → Substitution
with_new_variables next xs given = with_terms xs (map Var (new_variables next xs)) given

-- how many variables a formula binds
abbrev pub bound_count : Formula → ℕ
bound_count (True place) = 0
bound_count (False place) = 0
bound_count (Atom place name terms) = 0
bound_count (Equal place s t) = 0
bound_count (Less place s t) = 0
bound_count (AtMost place s t) = 0
bound_count (Not place f) = bound_count f
bound_count (And place f g) = bound_count f + bound_count g
bound_count (Or place f g) = bound_count f + bound_count g
bound_count (Implies place f g) = bound_count f + bound_count g
bound_count (Exists place xs f) = length xs + bound_count f
bound_count (Forall place xs f) = length xs + bound_count f
bound_count (Prev place interval f) = bound_count f
bound_count (Next place interval f) = bound_count f
bound_count (Once place interval f) = bound_count f
bound_count (Historically place interval f) = bound_count f
bound_count (Since place interval f g) = bound_count f + bound_count g
bound_count (Eventually place interval f) = bound_count f
bound_count (Always place interval f) = bound_count f
bound_count (Until place interval f g) = bound_count f + bound_count g

-- the formula with the terms in the places of its free variables; each quantifier binds new variables, which are
-- numbered from a number on in the order of the text; all nodes have one place
abbrev pub copy_of : (at : ℕ) → Substitution → (next : ℕ) → Formula → Formula
copy_of at given next (True place) = True at
copy_of at given next (False place) = False at
copy_of at given next (Atom place name terms) = Atom at name (map (term_given given) terms)
copy_of at given next (Equal place s t) = Equal at (term_given given s) (term_given given t)
copy_of at given next (Less place s t) = Less at (term_given given s) (term_given given t)
copy_of at given next (AtMost place s t) = AtMost at (term_given given s) (term_given given t)
copy_of at given next (Not place f) = Not at (copy_of at given next f)
copy_of at given next (And place f g) = And at (copy_of at given next f) (copy_of at given (next + bound_count f) g)
copy_of at given next (Or place f g) = Or at (copy_of at given next f) (copy_of at given (next + bound_count f) g)
copy_of at given next (Implies place f g) =
    Implies at (copy_of at given next f) (copy_of at given (next + bound_count f) g)
copy_of at given next (Exists place xs f) =
    Exists at (new_variables next xs) (copy_of at (with_new_variables next xs given) (next + length xs) f)
copy_of at given next (Forall place xs f) =
    Forall at (new_variables next xs) (copy_of at (with_new_variables next xs given) (next + length xs) f)
copy_of at given next (Prev place interval f) = Prev at interval (copy_of at given next f)
copy_of at given next (Next place interval f) = Next at interval (copy_of at given next f)
copy_of at given next (Once place interval f) = Once at interval (copy_of at given next f)
copy_of at given next (Historically place interval f) = Historically at interval (copy_of at given next f)
copy_of at given next (Since place interval f g) =
    Since at interval (copy_of at given next f) (copy_of at given (next + bound_count f) g)
copy_of at given next (Eventually place interval f) = Eventually at interval (copy_of at given next f)
copy_of at given next (Always place interval f) = Always at interval (copy_of at given next f)
copy_of at given next (Until place interval f g) =
    Until at interval (copy_of at given next f) (copy_of at given (next + bound_count f) g)
