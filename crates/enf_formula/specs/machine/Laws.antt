-- What satisfaction says of any formulas: the statements of the laws of the connectives, of the operators that are
-- abbreviations, and of what satisfaction depends on.
use Rattle.enf_data.specs.declared.steps.Step.{Step}
use Rattle.enf_data.specs.meaning.Valuations.{Valuation}
use Rattle.std.specs.Prelude.{ℕ, ◌↔◌, List, IsTrue}
use Rattle.enf_formula.specs.machine.Agreement.{AgreeOnFreeVariables, AgreeUpTo, HaveSameNamedEvents, names_in_formula}
use Rattle.enf_formula.specs.machine.FormulaShape.{is_past}
use Rattle.enf_formula.specs.meaning.Satisfaction.{Formula, Classically, Sat}

-- a statement holds where its denial is false
abbrev pub IsStable : Type 0 → Type 0
IsStable P = Classically P → P

-- two formulas hold at the same positions of each trace under the same valuations
abbrev pub AreEquivalent : Formula → Formula → Type 0
AreEquivalent f g = (trace : List Step) (i : ℕ) (v : Valuation) → Sat trace i v f ↔ Sat trace i v g

-- a formula speaks of the values of its free variables alone
abbrev pub FreeVariablesDecide : Type 0
FreeVariablesDecide = (trace : List Step) (i : ℕ) (v w : Valuation) (f : Formula)
    → AgreeOnFreeVariables f v w → Sat trace i v f ↔ Sat trace i w f

-- a formula that does not look ahead speaks of the steps up to its position alone
abbrev pub PastDecides : Type 0
PastDecides = (trace other : List Step) (i : ℕ) (v : Valuation) (f : Formula)
    → IsTrue (is_past f) → AgreeUpTo i trace other → Sat trace i v f ↔ Sat other i v f

-- a formula speaks of the events of its names alone
abbrev pub NamesDecide : Type 0
NamesDecide = (trace other : List Step) (i : ℕ) (v : Valuation) (f : Formula)
    → HaveSameNamedEvents (names_in_formula f) trace other → Sat trace i v f ↔ Sat other i v f
