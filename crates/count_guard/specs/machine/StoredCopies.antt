-- The substitution that the program keeps.
use Rattle.count_guard.specs.declared.substitution.Given.{Given, Own, With'}
use Rattle.count_guard.specs.meaning.FormulaCopies.{Substitution, with_terms}
use Rattle.enf_data.specs.declared.terms.Term.{Term}
use Rattle.enf_data.specs.declared.terms.Term.TheVariants.{Var}
use Rattle.enf_data.specs.declared.terms.VarId.{VarId}
use Rattle.std.specs.Prelude.{◌==◌, cond, List, [], ◌∷◌, Option, Some}

-- the term in the place of each variable
abbrev pub substitution_of : Given → Substitution
substitution_of Own = Var
substitution_of (With' p outer xs terms) = with_terms xs.now terms.now (substitution_of outer)

-- the last of the terms that stands in the place of the variable, and where there is none the one before them
abbrev pub last_term : List VarId → List Term → VarId → Option Term → Option Term
last_term [] terms x found = found
last_term (y ∷ ys) [] x found = found
last_term (y ∷ ys) (term ∷ terms) x found = last_term ys terms x (cond (x.0 == y.0) (Some term) found)
