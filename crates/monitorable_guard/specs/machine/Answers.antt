-- What the parts of an evaluation ask and give: rows of the valuations that answer a formula.
use Rattle.enf_data.specs.declared.events.Event.{Event}
use Rattle.enf_data.specs.declared.events.NameId.{NameId}
use Rattle.enf_data.specs.declared.terms.Term.{Term}
use Rattle.enf_data.specs.declared.terms.Term.TheVariants.{Var, Const}
use Rattle.enf_data.specs.declared.terms.VarId.{VarId}
use Rattle.enf_data.specs.declared.values.Value.{Value}
use Rattle.enf_data.specs.meaning.Valuations.{Valuation, value_at, values_of_terms, value_of_term, variable_cmp}
use Rattle.std.specs.List.Sorted.{IsStrictlySortedBy}
use Rattle.std.specs.Prelude.{IsSome, ◌⊎◌, List, ◌≡◌, length, All, Some, Contains, ◌↔◌}
use Rattle.enf_formula.specs.machine.FormulaShape.{BindsFresh}
use Rattle.enf_formula.specs.meaning.Satisfaction.{Formula, IsFree, AreSameValues}
use Rattle.valuations.specs.machine.Bindings.{filled_from_row}
use Rattle.valuations.specs.machine.Tables.{Relation, HasValuation, AgreeOnColumns}
use Rattle.monitorable_guard.specs.machine.Evaluation.{FitOperators}
use Rattle.monitorable_guard.specs.machine.PresentMeaning.{outermost, HoldsNow}
use Rattle.monitorable_guard.specs.machine.TermMatches.{Extends}
use Rattle.monitorable_guard.specs.meaning.Safety.{Safe}

-- the variable has a value
abbrev pub IsBoundBy : Valuation → VarId → Type 0
IsBoundBy v x = IsSome (value_at v x)

-- the variable has a value, or is free in the formula
abbrev pub IsBoundOrFree : Valuation → Formula → VarId → Type 0
IsBoundOrFree v f x = IsBoundBy v x ⊎ IsFree x f

-- the formula is safe with the variables that have values bound, no quantifier binds a variable in scope, and there
-- are
-- tables for its outermost operators on the past
pub record CanAskFormula (v : Valuation) (tables : List Relation) (f : Formula) : Type 0 where
  pub safe : Safe f (IsBoundBy v)
  pub fresh : BindsFresh f (IsBoundOrFree v f)
  pub tabled : FitOperators (outermost f) tables

-- the rows are as long as the columns
abbrev pub RowsFitColumns : List VarId → List (List Value) → Type 0
RowsFitColumns columns rows = All (λ row. length row ≡ length columns) rows

-- w has the values of one of the rows
abbrev pub AmongRows : List VarId → List (List Value) → Valuation → Type 0
AmongRows columns rows w = HasValuation (record { columns = columns; rows = rows }) w

-- rows were added, just those of the valuations of a set
pub record AddsRows (columns : List VarId) (before after : List (List Value)) (P : Valuation → Type 0) : Type 0 where
  pub fit : RowsFitColumns columns before → RowsFitColumns columns after
  pub kept : (w : Valuation) → AmongRows columns before w → AmongRows columns after w
  pub added : (w : Valuation) → P w → AmongRows columns after w
  pub only : (w : Valuation) → AmongRows columns after w → AmongRows columns before w ⊎ P w

-- u goes on from v, binds the free variables of the formula, and the formula holds under it
pub record IsSolution (events : List Event) (tables : List Relation) (v : Valuation) (f : Formula) (u : Valuation)
    : Type 0 where
  pub extends : Extends v u
  pub binds : (x : VarId) → IsFree x f → IsBoundBy u x
  pub holds : HoldsNow events tables u f

-- there is such a one
abbrev pub HasSolution : List Event → List Relation → Valuation → Formula → Type 0
HasSolution events tables v f = (u : Valuation) × IsSolution events tables v f u

-- w has on the columns the values of such a one
abbrev pub IsGuardAnswer : List Event → List Relation → Valuation → Formula → List VarId → Valuation
    → Type 0
IsGuardAnswer events tables v f columns w = (u : Valuation) × IsSolution events tables v f u
    × AgreeOnColumns columns w u

-- w has on the columns the values of one that goes on from v and under which the terms have these values
abbrev pub IsMatchOf : List Term → List Value → Valuation → List VarId → Valuation → Type 0
IsMatchOf terms values v columns w = (u : Valuation) × Extends v u × (values_of_terms u terms ≡ Some values)
    × AgreeOnColumns columns w u

-- w has on the columns the values of one that goes on from v and under which the terms are the arguments of one of
-- the events
abbrev pub IsMatchAmong : List Event → List Term → Valuation → List VarId → Valuation → Type 0
IsMatchAmong events terms v columns w = (event : Event) × Contains events event
    × IsMatchOf terms event.args v columns w

-- and these are of the name
abbrev pub IsMatchOfName : List Event → NameId → List Term → Valuation → List VarId → Valuation → Type 0
IsMatchOfName events name terms v columns w = (event : Event) × Contains events event × ((event.name ≡ name)
    × IsMatchOf terms event.args v columns w)

-- w has on the columns the values of one that goes on from v and under which the term has this value
abbrev pub IsValued : Term → Value → Valuation → List VarId → Valuation → Type 0
IsValued term value v columns w = (u : Valuation) × Extends v u × (value_of_term u term ≡ Some value)
    × AgreeOnColumns columns w u

-- w has on the columns the values of one that goes on from v and under which the terms are equal
abbrev pub IsEquated : Term → Term → Valuation → List VarId → Valuation → Type 0
IsEquated s t v columns w = (u : Valuation) × Extends v u × AreSameValues (value_of_term u s) (value_of_term u t)
    × AgreeOnColumns columns w u

-- w has on the columns the values of v and a row of the table
abbrev pub IsFromRow : Relation → Valuation → List VarId → Valuation → Type 0
IsFromRow t v columns w = (row : List Value) × Contains t.rows row
    × AgreeOnColumns columns w (filled_from_row v t.columns row)

-- each of the columns has a value or is free in the formula
abbrev pub AreBoundOrFree : List VarId → Valuation → Formula → Type 0
AreBoundOrFree columns v f = (x : VarId) → Contains columns x → IsBoundOrFree v f x

-- the columns are the free variables that have no value, in rising order
pub record AreOpenUnder (v : Valuation) (f : Formula) (columns : List VarId) : Type 0 where
  pub rising : IsStrictlySortedBy variable_cmp columns
  pub exact : (x : VarId) → Contains columns x ↔ (IsFree x f × (IsBoundBy v x → ⊥))

-- the table has just the rows of the answers
abbrev pub HasAnswers : List Event → List Relation → Valuation → Formula → Relation → Type 0
HasAnswers events tables v f t = (w : Valuation) → HasValuation t w ↔ IsGuardAnswer events tables v f t.columns w

-- the table has just the rows of the answers that are in another table
abbrev pub HasAnswersIn : Relation → List Event → List Relation → Valuation → Formula → Relation → Type 0
HasAnswersIn within events tables v f t = (w : Valuation) → HasValuation t w
    ↔ (IsGuardAnswer events tables v f t.columns w × HasValuation within w)

-- a constant, or a variable that is bound
abbrev pub IsBoundIn : (VarId → Type 0) → Term → Type 0
IsBoundIn B (Var x) = B x
IsBoundIn B (Const value) = Unit {0}
