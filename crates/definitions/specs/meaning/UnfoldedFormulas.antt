-- Formulas in which defined names are replaced by what they say.
use Rattle.count_guard.specs.meaning.CountFormulas.{count_as}
use Rattle.count_guard.specs.meaning.FormulaCopies.{Substitution, bound_count, copy_of, new_variables, term_given}
use Rattle.count_guard.specs.meaning.FormulaCopies.{with_new_variables, with_terms}
use Rattle.definitions.specs.meaning.DefinedNames.{Counting, Definition}
use Rattle.enf_data.specs.declared.events.NameId.{NameId}
use Rattle.enf_data.specs.declared.terms.Term.{Term}
use Rattle.enf_data.specs.declared.terms.Term.TheVariants.{Var}
use Rattle.enf_data.specs.declared.terms.VarId.{VarId}
use Rattle.enf_formula.specs.meaning.Satisfaction.{Formula, True, False, Atom, Equal, Less, AtMost, Not, And, Or}
use Rattle.enf_formula.specs.meaning.Satisfaction.{Implies, Exists, Forall, Prev, Next, Once, Historically, Since}
use Rattle.enf_formula.specs.meaning.Satisfaction.{Eventually, Always, Until}
use Rattle.std.specs.Prelude.{ℕ, suc, max, ◌+◌, ◌==◌, cond, List, [], ◌∷◌, ◌++◌, length, map, Option, None, Some}

-- what a defined name says of its parameters, in a formula that is unfolded
pub record Unfolding : Type 0 where
  pub params : List VarId
  pub formula : Formula

-- what stands in the place of an atom: itself, or a copy of what its name says, with the terms in the places of the
-- parameters and new variables
abbrev pub atom_unfolded : Option Unfolding → (place : ℕ) → NameId → List Term → (next : ℕ) → Formula
atom_unfolded None place name terms next = Atom place name terms
atom_unfolded (Some meant) place name terms next =
    copy_of place (with_terms meant.params terms Var) next meant.formula

-- how many variables that binds
abbrev pub atom_count : Option Unfolding → ℕ
atom_count None = 0
atom_count (Some meant) = bound_count meant.formula

-- how many variables the unfolded formula binds
abbrev pub unfolded_count : (NameId → Option Unfolding) → Formula → ℕ
unfolded_count table (True place) = 0
unfolded_count table (False place) = 0
unfolded_count table (Atom place name terms) = atom_count (table name)
unfolded_count table (Equal place s t) = 0
unfolded_count table (Less place s t) = 0
unfolded_count table (AtMost place s t) = 0
unfolded_count table (Not place f) = unfolded_count table f
unfolded_count table (And place f g) = unfolded_count table f + unfolded_count table g
unfolded_count table (Or place f g) = unfolded_count table f + unfolded_count table g
unfolded_count table (Implies place f g) = unfolded_count table f + unfolded_count table g
unfolded_count table (Exists place xs f) = length xs + unfolded_count table f
unfolded_count table (Forall place xs f) = length xs + unfolded_count table f
unfolded_count table (Prev place interval f) = unfolded_count table f
unfolded_count table (Next place interval f) = unfolded_count table f
unfolded_count table (Once place interval f) = unfolded_count table f
unfolded_count table (Historically place interval f) = unfolded_count table f
unfolded_count table (Since place interval f g) = unfolded_count table f + unfolded_count table g
unfolded_count table (Eventually place interval f) = unfolded_count table f
unfolded_count table (Always place interval f) = unfolded_count table f
unfolded_count table (Until place interval f g) = unfolded_count table f + unfolded_count table g

-- the formula with each atom of a defined name replaced by what it says, and with the terms in the places of its free
-- variables; the variables that it binds are numbered from a number on in the order of the text; what comes from an atom
-- has its place
abbrev pub unfolded : (NameId → Option Unfolding) → Substitution → (next : ℕ) → Formula → Formula
unfolded table given next (True place) = True place
unfolded table given next (False place) = False place
unfolded table given next (Atom place name terms) =
    atom_unfolded (table name) place name (map (term_given given) terms) next
unfolded table given next (Equal place s t) = Equal place (term_given given s) (term_given given t)
unfolded table given next (Less place s t) = Less place (term_given given s) (term_given given t)
unfolded table given next (AtMost place s t) = AtMost place (term_given given s) (term_given given t)
unfolded table given next (Not place f) = Not place (unfolded table given next f)
unfolded table given next (And place f g) =
    And place (unfolded table given next f) (unfolded table given (next + unfolded_count table f) g)
unfolded table given next (Or place f g) =
    Or place (unfolded table given next f) (unfolded table given (next + unfolded_count table f) g)
unfolded table given next (Implies place f g) =
    Implies place (unfolded table given next f) (unfolded table given (next + unfolded_count table f) g)
unfolded table given next (Exists place xs f) = Exists place (new_variables next xs)
    (unfolded table (with_new_variables next xs given) (next + length xs) f)
unfolded table given next (Forall place xs f) = Forall place (new_variables next xs)
    (unfolded table (with_new_variables next xs given) (next + length xs) f)
unfolded table given next (Prev place interval f) = Prev place interval (unfolded table given next f)
unfolded table given next (Next place interval f) = Next place interval (unfolded table given next f)
unfolded table given next (Once place interval f) = Once place interval (unfolded table given next f)
unfolded table given next (Historically place interval f) = Historically place interval (unfolded table given next f)
unfolded table given next (Since place interval f g) =
    Since place interval (unfolded table given next f) (unfolded table given (next + unfolded_count table f) g)
unfolded table given next (Eventually place interval f) = Eventually place interval (unfolded table given next f)
unfolded table given next (Always place interval f) = Always place interval (unfolded table given next f)
unfolded table given next (Until place interval f g) =
    Until place interval (unfolded table given next f) (unfolded table given (next + unfolded_count table f) g)

-- the first number above those of the variables
abbrev pub behind_variables : List VarId → ℕ
behind_variables [] = 0
behind_variables (x ∷ xs) = max (suc x.0) (behind_variables xs)

-- the variables that a definition counts
abbrev pub counted_variables : Option Counting → List VarId
counted_variables None = []
counted_variables (Some counting) = counting.counted

-- what a definition says, of its unfolded body, in which the variables are below `next`
abbrev pub body_unfolded : Option Counting → (next : ℕ) → Formula → Formula
body_unfolded None next f = f
body_unfolded (Some counting) next f = count_as counting.kind counting.k counting.counted f next 0

-- where the variables that an unfolded body binds are numbered from
abbrev pub own_variables : Definition → ℕ
own_variables definition = behind_variables (definition.params ++ counted_variables definition.counts)

-- what a definition says of its parameters, where this is what the names in it say
abbrev pub definition_unfolded : (NameId → Option Unfolding) → Definition → Unfolding
definition_unfolded table definition = record {
  params = definition.params;
  formula = body_unfolded definition.counts
      (own_variables definition + unfolded_count table definition.body)
      (unfolded table Var (own_variables definition) definition.body);
}

-- what each defined name says; the last definition comes first, and each may name those before it
abbrev pub unfoldings : List Definition → NameId → Option Unfolding
unfoldings [] name = None
unfoldings (definition ∷ earlier) name = cond (name.0 == definition.name.0)
    (Some (definition_unfolded (unfoldings earlier) definition)) (unfoldings earlier name)

-- a rule, whose variables are numbered anew
abbrev pub rule_unfolded : List Definition → Formula → Formula
rule_unfolded definitions rule = unfolded (unfoldings definitions) Var 0 rule
