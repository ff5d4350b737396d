-- How the guards of operands are asked, and where the values of their answers come from.
use Rattle.enf_data.specs.declared.events.Event.{Event}
use Rattle.enf_data.specs.declared.terms.VarId.{VarId}
use Rattle.enf_data.specs.declared.values.Value.{Value}
use Rattle.enf_data.specs.meaning.Valuations.{Valuation, BindsColumns}
use Rattle.std.specs.Prelude.{◌≡◌, ◌⊎◌, List, Contains, [], ◌↔◌}
use Rattle.enf_formula.specs.machine.FormulaViews.{tree_of}
use Rattle.enf_formula.specs.machine.FormulaShape.{BindsFresh}
use Rattle.enf_formula.specs.meaning.Satisfaction.{Formula, IsFree, AreFreeVariables}
use Rattle.valuations.specs.machine.Tables.{Relation, HasValuation, IsTable}
use Rattle.monitorable_guard.specs.machine.Evaluation.{FitOperators, IsTabled}
use Rattle.monitorable_guard.specs.machine.Guards.{BoundFormula}
use Rattle.monitorable_guard.specs.machine.PresentMeaning.{outermost, HoldsNow}
use Rattle.monitorable_guard.specs.machine.ValueSources.{IsArgument, IsFormulaConstant}

-- the guard asks this formula, with these variables bound, and no quantifier in it binds a variable in scope
pub record GuardAsks (formula : Formula) (bound : List VarId) (guard : BoundFormula) : Type 0 where
  pub formula_is : tree_of guard.formula ≡ formula
  pub bound_is : guard.bound ≡ bound
  pub fresh : BindsFresh formula (λ x. Contains bound x ⊎ IsFree x formula)

-- the guard can be asked for all its rows, which have these columns
pub record CanAskRows (guard : BoundFormula) (columns : List VarId) (tables : List Relation) : Type 0 where
  pub bound : guard.bound ≡ []
  pub free : AreFreeVariables (tree_of guard.formula) columns
  pub fresh : BindsFresh (tree_of guard.formula) (λ x. Contains guard.bound x ⊎ IsFree x (tree_of guard.formula))
  pub tabled : FitOperators (outermost (tree_of guard.formula)) tables

-- the guard can be asked for all its rows, whose columns are some of these
pub record CanAskRowsAmong (guard : BoundFormula) (columns : List VarId) (tables : List Relation) : Type 0 where
  pub bound : guard.bound ≡ []
  pub free : (x : VarId) → IsFree x (tree_of guard.formula) → Contains columns x
  pub fresh : BindsFresh (tree_of guard.formula) (λ x. Contains guard.bound x ⊎ IsFree x (tree_of guard.formula))
  pub tabled : FitOperators (outermost (tree_of guard.formula)) tables

-- the guard can be asked under each row of these columns
pub record CanAskRowsUnder (guard : BoundFormula) (columns : List VarId) (tables : List Relation) : Type 0 where
  pub bound : guard.bound ≡ columns
  pub free : (x : VarId) → IsFree x (tree_of guard.formula) → Contains columns x
  pub fresh : BindsFresh (tree_of guard.formula) (λ x. Contains guard.bound x ⊎ IsFree x (tree_of guard.formula))
  pub tabled : FitOperators (outermost (tree_of guard.formula)) tables

-- a value of the events, of the tables or of the constants of the formula
abbrev pub ComesFrom : List Event → List Relation → Formula → Value → Type 0
ComesFrom events tables f value = IsArgument events value ⊎ (IsTabled tables value ⊎ IsFormulaConstant value f)

-- each value of a row is such a one
abbrev pub AllComeFrom : List Event → List Relation → Formula → Relation → Type 0
AllComeFrom events tables f t = (row : List Value) → Contains t.rows row → (value : Value) → Contains row value
    → ComesFrom events tables f value

-- the table has these columns, and of the valuations that bind them just those under which the guard holds; its values
-- are those of the events, the tables and the guard's constants
pub record AnswersRows (events : List Event) (tables : List Relation) (guard : BoundFormula) (columns : List VarId)
    (t : Relation) : Type 0 where
  pub table : IsTable t
  pub columns_are : t.columns ≡ columns
  pub rows : (v : Valuation) → BindsColumns v columns → HasValuation t v ↔ HoldsNow events tables v
      (tree_of guard.formula)
  pub known : AllComeFrom events tables (tree_of guard.formula) t
