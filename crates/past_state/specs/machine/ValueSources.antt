-- Where the values in the tables of a step and in kept rows come from.
use Rattle.enf_data.specs.declared.events.Event.{Event}
use Rattle.enf_data.specs.declared.values.Value.{Value}
use Rattle.enf_data.specs.meaning.Valuations.{Valuation}
use Rattle.std.specs.Prelude.{List, Contains, ◌⊎◌, ℕ}
use Rattle.enf_formula.specs.meaning.Satisfaction.{Formula}
use Rattle.valuations.specs.machine.Tables.{Relation}
use Rattle.monitorable_guard.specs.machine.Evaluation.{IsTabled, HasKnownValues}
use Rattle.monitorable_guard.specs.machine.ValueSources.{IsFormulaConstant, IsArgument}
use Rattle.past_state.specs.declared.guards.PlacedGuard.{PlacedGuard}
use Rattle.past_state.specs.declared.kept_rows.KeptRow.{KeptRow}
use Rattle.past_state.specs.declared.operators.OperatorState.{OperatorState}
use Rattle.past_state.specs.machine.Past.{Past, PastTables, formulas_of_guards, IsGuard, guard_formula, tables_of}
use Rattle.past_state.specs.machine.Past.{AreMadeOf, IsPast}
use Rattle.past_state.specs.machine.StoredRows.{StoresAt}

-- a value of a row that is kept for one of the operators
abbrev pub IsKeptValue : List OperatorState → Value → Type 0
IsKeptValue operators value = (r : KeptRow) × StoresAt operators r × Contains r.row value

-- a constant of one of the formulas
abbrev pub IsConstantOf : List Formula → Value → Type 0
IsConstantOf fs value = (f : Formula) × Contains fs f × IsFormulaConstant value f

-- each value of the tables is one of the events, of the constants of the guards, or of a row that is kept
abbrev pub AreKnown : Past → List Event → PastTables → Type 0
AreKnown past events tables = (value : Value) → IsTabled tables.stack value → IsArgument events value
    ⊎ (IsConstantOf (formulas_of_guards past.guards) value ⊎ IsKeptValue past.operators value)

-- each value of the guard's rows is one of the events, of its tables, of its constants, or of its bound variables
abbrev pub IsKnownOfGuard : PastTables → ℕ → List Event → Valuation → Relation → Type 0
IsKnownOfGuard tables number events v t = (g : PlacedGuard) → IsGuard tables.guards number g
    → HasKnownValues events (tables_of g tables) (guard_formula g) g.guard.bound v t

-- each value of the tables that are made at a step is known
abbrev pub TablesAreKnown : Type 0
TablesAreKnown = (past : Past) (time : ℕ) (events : List Event) (tables : PastTables) → IsPast past
    → AreMadeOf past time events tables → AreKnown past events tables
