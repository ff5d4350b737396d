-- Formulas that give each defined name as many terms as it has parameters, and definitions in which no variables are free
-- but parameters and counted ones.
use Rattle.definitions.specs.meaning.DefinedNames.{Definition}
use Rattle.definitions.specs.meaning.UnfoldedFormulas.{Unfolding, counted_variables, unfoldings}
use Rattle.enf_data.specs.declared.events.NameId.{NameId}
use Rattle.enf_data.specs.declared.terms.Term.{Term}
use Rattle.enf_data.specs.declared.terms.VarId.{VarId}
use Rattle.enf_formula.specs.meaning.Satisfaction.{Formula, True, False, Atom, Equal, Less, AtMost, Not, And, Or}
use Rattle.enf_formula.specs.meaning.Satisfaction.{Implies, Exists, Forall, Prev, Next, Once, Historically, Since}
use Rattle.enf_formula.specs.meaning.Satisfaction.{Eventually, Always, Until, IsFree}
use Rattle.std.specs.Prelude.{◌≡◌, Contains, List, [], ◌∷◌, ◌++◌, length, Option, None, Some}

-- a defined name has as many terms as parameters
abbrev pub FitsUnfolding : Option Unfolding → List Term → Type 0
FitsUnfolding None terms = Unit {0}
FitsUnfolding (Some meant) terms = length terms ≡ length meant.params

-- and so has each in the formula
abbrev pub FitsUnfoldings : (NameId → Option Unfolding) → Formula → Type 0
FitsUnfoldings table (True place) = Unit {0}
FitsUnfoldings table (False place) = Unit {0}
FitsUnfoldings table (Atom place name terms) = FitsUnfolding (table name) terms
FitsUnfoldings table (Equal place s t) = Unit {0}
FitsUnfoldings table (Less place s t) = Unit {0}
FitsUnfoldings table (AtMost place s t) = Unit {0}
FitsUnfoldings table (Not place f) = FitsUnfoldings table f
FitsUnfoldings table (And place f g) = FitsUnfoldings table f × FitsUnfoldings table g
FitsUnfoldings table (Or place f g) = FitsUnfoldings table f × FitsUnfoldings table g
FitsUnfoldings table (Implies place f g) = FitsUnfoldings table f × FitsUnfoldings table g
FitsUnfoldings table (Exists place xs f) = FitsUnfoldings table f
FitsUnfoldings table (Forall place xs f) = FitsUnfoldings table f
FitsUnfoldings table (Prev place interval f) = FitsUnfoldings table f
FitsUnfoldings table (Next place interval f) = FitsUnfoldings table f
FitsUnfoldings table (Once place interval f) = FitsUnfoldings table f
FitsUnfoldings table (Historically place interval f) = FitsUnfoldings table f
FitsUnfoldings table (Since place interval f g) = FitsUnfoldings table f × FitsUnfoldings table g
FitsUnfoldings table (Eventually place interval f) = FitsUnfoldings table f
FitsUnfoldings table (Always place interval f) = FitsUnfoldings table f
FitsUnfoldings table (Until place interval f g) = FitsUnfoldings table f × FitsUnfoldings table g

-- the free variables of the body are parameters or counted, and it gives each name as many terms as it has parameters
pub record IsWellDefined (table : NameId → Option Unfolding) (definition : Definition) : Type 0 where
  pub closed : (x : VarId) → IsFree x definition.body
      → Contains (definition.params ++ counted_variables definition.counts) x
  pub fits : FitsUnfoldings table definition.body

-- each of the definitions, of which the last comes first
abbrev pub AreWellDefined : List Definition → Type 0
AreWellDefined [] = Unit {0}
AreWellDefined (definition ∷ earlier) = IsWellDefined (unfoldings earlier) definition × AreWellDefined earlier
