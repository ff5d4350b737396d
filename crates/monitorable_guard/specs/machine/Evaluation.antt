-- What it takes to evaluate a guard, what evaluation gives, and what the past answers.
use Rattle.enf_data.specs.declared.events.Event.{Event}
use Rattle.enf_data.specs.declared.terms.VarId.{VarId}
use Rattle.enf_data.specs.declared.values.Value.{Value}
use Rattle.enf_data.specs.meaning.Valuations.{Valuation, BindsColumns, variable_cmp}
use Rattle.std.specs.List.Sorted.{IsStrictlySortedBy}
use Rattle.std.specs.Prelude.{◌≡◌, ◌↔◌, List, [], ◌∷◌, Contains, ◌⊎◌}
use Rattle.enf_formula.specs.machine.FormulaShape.{BindsFresh}
use Rattle.enf_formula.specs.meaning.Satisfaction.{Formula, IsFree}
use Rattle.valuations.specs.machine.Tables.{Relation, HasValuation, AgreesWhereBound, AgreeOnColumns}
use Rattle.monitorable_guard.specs.machine.PresentMeaning.{outermost, HoldsNow}
use Rattle.monitorable_guard.specs.machine.ValueSources.{IsArgument, IsFormulaConstant, IsBoundValue}

-- the first of the tables, with those of its valuations that agree with v on each column that v binds
abbrev pub FirstGivesUnder : List Relation → Valuation → Relation → Type 0
FirstGivesUnder [] v given = ⊥
FirstGivesUnder (t ∷ tables) v given =
    (given.columns ≡ t.columns) × ((w : Valuation) → HasValuation given w ↔
    (HasValuation t w × AgreesWhereBound t.columns v w))

-- the first of the tables has a valuation that agrees with v on each column that v binds
abbrev pub FirstHasUnder : List Relation → Valuation → Type 0
FirstHasUnder [] v = ⊥
FirstHasUnder (t ∷ tables) v = (w : Valuation) × BindsColumns w t.columns × HasValuation t w
    × AgreesWhereBound t.columns v w

-- there is a table for each of the operators, whose columns are the operator's free variables
abbrev pub FitOperators : List Formula → List Relation → Type 0
FitOperators [] tables = Unit {0}
FitOperators (f ∷ fs) [] = ⊥
FitOperators (f ∷ fs) (t ∷ tables) = ((x : VarId) → Contains t.columns x ↔ IsFree x f) × FitOperators fs tables

-- no quantifier binds a variable that is in scope, there are tables for the outermost operators on the past, and the
-- valuation binds the variables that are bound
pub record CanEvaluate (f : Formula) (bound : List VarId) (tables : List Relation) (v : Valuation) : Type 0 where
  pub fresh : BindsFresh f (λ x. Contains bound x ⊎ IsFree x f)
  pub tabled : FitOperators (outermost f) tables
  pub binds : BindsColumns v bound

-- the free variables that are not bound, in rising order
pub record AreOpen (f : Formula) (bound columns : List VarId) : Type 0 where
  pub rising : IsStrictlySortedBy variable_cmp columns
  pub exact : (x : VarId) → Contains columns x ↔ (IsFree x f × (Contains bound x → ⊥))

-- the variable is free, and not bound
abbrev pub IsOpenIn : Formula → (bound : List VarId) → VarId → Type 0
IsOpenIn f bound x = IsFree x f × (Contains bound x → ⊥)

-- of the valuations that have v's values of the bound variables and bind the others, just those are in the table under
-- which the formula holds
abbrev pub AreHoldingRows : List Event → List Relation → Formula → List VarId → Valuation → Relation
    → Type 0
AreHoldingRows events tables f bound v t = (w : Valuation) → AgreeOnColumns bound v w → BindsColumns w t.columns
    → HasValuation t w ↔ HoldsNow events tables w f

-- and of these those alone that are in another table
abbrev pub AreHoldingRowsIn : Relation → List Event → List Relation → Formula → List VarId → Valuation → Relation
    → Type 0
AreHoldingRowsIn within events tables f bound v t = (w : Valuation) → AgreeOnColumns bound v w
    → BindsColumns w t.columns → HasValuation t w ↔ (HoldsNow events tables w f × HasValuation within w)

-- a value of a row of one of the tables
abbrev pub IsTabled : List Relation → Value → Type 0
IsTabled tables value = (t : Relation) × Contains tables t × ((row : List Value) × Contains t.rows row
    × Contains row value)

-- a value of the events, of the tables, of the constants of the formula, or of the bound variables
abbrev pub IsKnownNow : List Event → List Relation → Formula → List VarId → Valuation → Value → Type 0
IsKnownNow events tables f bound v value = IsArgument events value ⊎ (IsTabled tables value
    ⊎ (IsFormulaConstant value f ⊎ IsBoundValue bound v value))

-- each value of a row is such a one
abbrev pub HasKnownValues : List Event → List Relation → Formula → List VarId
    → Valuation → Relation → Type 0
HasKnownValues events tables f bound v t = (row : List Value) → Contains t.rows row → (value : Value)
    → Contains row value → IsKnownNow events tables f bound v value
