-- Past states, and their tables at a step.
use Rattle.enf_data.specs.declared.events.Event.{Event}
use Rattle.enf_data.specs.declared.events.NameId.{NameId}
use Rattle.enf_data.specs.declared.steps.Step.{Step}
use Rattle.enf_data.specs.declared.terms.VarId.{VarId}
use Rattle.enf_data.specs.meaning.Valuations.{Valuation, value_at, BindsColumns}
use Rattle.std.specs.Prelude.{List, map, ◌⊎◌, IsTrue, Contains, ◌≡◌, ℕ, ◌+◌, [], ◌∷◌, length}
use Rattle.std.specs.Prelude.{reverse, All, ◌++◌, ◌≤◌, Some, slice_get, drop, ◌↔◌, IsSome, Bool}
use Rattle.enf_formula.specs.machine.Agreement.{HaveSameEvents}
use Rattle.enf_formula.specs.machine.FormulaViews.{tree_of}
use Rattle.enf_formula.specs.machine.FormulaShape.{is_past, BindsFresh}
use Rattle.enf_formula.specs.meaning.Satisfaction.{Formula, IsFree, Sat}
use Rattle.valuations.specs.machine.Tables.{Relation, HasValuation, AgreeOnColumns}
use Rattle.monitorable_guard.specs.machine.Evaluation.{FitOperators, AreOpen, AreHoldingRows, AreHoldingRowsIn}
use Rattle.monitorable_guard.specs.machine.Evaluation.{IsOpenIn}
use Rattle.monitorable_guard.specs.machine.PresentMeaning.{outermost, TablesStandFor, HoldsNow}
use Rattle.trace_meaning.specs.meaning.Traces.{last_time}
use Rattle.past_state.specs.declared.guards.PlacedGuard.{PlacedGuard}
use Rattle.past_state.specs.declared.memories.StepTables.{StepTables}
use Rattle.past_state.specs.declared.operators.OperatorState.{OperatorState}
use Rattle.past_state.specs.machine.InnerOperators.{all_outermost, names_in_all}
use Rattle.past_state.specs.machine.OperatorRuns.{AreFor, AllStand, Runs, AllCommitted}
use Rattle.past_state.specs.meaning.KeptRows.{all_operators}

-- the guards, and the operators on the past in them, from the last in pre-order to the first
pub record Past : Type 0 where
  pub guards : List PlacedGuard
  pub operators : List OperatorState

-- what a step brings to each operator, and the tables of the outermost operators of the guards, in order
pub record PastTables : Type 0 where
  pub guards : List PlacedGuard
  pub steps : List StepTables
  pub stack : List Relation

abbrev pub guard_formula : PlacedGuard → Formula
guard_formula g = tree_of g.guard.formula

abbrev pub formulas_of_guards : List PlacedGuard → List Formula
formulas_of_guards guards = map guard_formula guards

-- the guard does not look ahead, and no quantifier in it binds a variable in scope
abbrev pub IsSoundGuard : PlacedGuard → Type 0
IsSoundGuard g = IsTrue (is_past (guard_formula g)) × BindsFresh (guard_formula g) (λ x. Contains g.guard.bound x
    ⊎ IsFree x (guard_formula g))

-- each guard's tables begin after those of the guards before it
abbrev pub BeginAt : ℕ → List PlacedGuard → Type 0
BeginAt n [] = Unit {0}
BeginAt n (g ∷ guards) = (g.start ≡ n) × BeginAt (n + length (outermost (guard_formula g))) guards

-- what is kept is for the operators of the guards
pub record IsPast (past : Past) : Type 0 where
  pub sound : All IsSoundGuard past.guards
  pub begin : BeginAt 0 past.guards
  pub kept : AreFor (reverse (all_operators (formulas_of_guards past.guards))) past.operators

-- the past state stands for the trace: each window and slot does
abbrev pub PastStands : List Step → Past → Type 0
PastStands trace past = AllStand trace (reverse (all_operators (formulas_of_guards past.guards))) past.operators

-- the tables stand for the step that comes after the trace
abbrev pub TablesStand : List Step → Step → PastTables → Type 0
TablesStand trace step tables =
    TablesStandFor (trace ++ step ∷ []) (length trace) (all_outermost (formulas_of_guards tables.guards)) tables.stack

-- the names that the operators on the past in the guards look for
abbrev pub past_names : List PlacedGuard → List NameId
past_names guards = names_in_all (all_operators (formulas_of_guards guards))

-- the names that the guards look for, at a step or before it
abbrev pub guard_names : List PlacedGuard → List NameId
guard_names guards = names_in_all (formulas_of_guards guards)

-- the tables were made at this time by evaluation at these events
abbrev pub AreMadeOf : Past → ℕ → List Event → PastTables → Type 0
AreMadeOf past time events tables = (tables.guards ≡ past.guards)
    × Runs events time [] past.operators tables.steps tables.stack

-- they are those of a step at this time with these events: made at such as have the same events of the names that the
-- operators look for
abbrev pub AreTablesAtStep : Past → ℕ → List Event → PastTables → Type 0
AreTablesAtStep past time events tables = (made : List Event) × HaveSameEvents (past_names past.guards) made events
    × AreMadeOf past time made tables

-- the tables go on to be those of the step where its events of other names change
abbrev pub TablesStay : Type 0
TablesStay = (past : Past) (time : ℕ) (events others : List Event) (tables : PastTables)
    → HaveSameEvents (past_names past.guards) events others → AreTablesAtStep past time events tables
    → AreTablesAtStep past time others tables

-- the guards stay, and the step is committed to the operators
abbrev pub PastCommitted : Past → ℕ → List StepTables → Past → Type 0
PastCommitted past time steps after = (after.guards ≡ past.guards)
    × AllCommitted time past.operators steps after.operators

-- for each trace for which the past stands, and a step with these events at this time that is not earlier
abbrev pub TablesWillStand : Past → ℕ → List Event → PastTables → Type 0
TablesWillStand past time events tables = (trace : List Step) (step : Step) → step.time ≡ time
    → step.events ≡ events → last_time trace ≤ time → PastStands trace past → TablesStand trace step tables

abbrev pub CommittedWillStand : Past → ℕ → List Event → PastTables → Past → Type 0
CommittedWillStand past time events tables after = (trace : List Step) (step : Step) → step.time ≡ time
    → step.events ≡ events → last_time trace ≤ time → PastStands trace past
    → AreTablesAtStep past time events tables
    → PastStands (trace ++ step ∷ []) after

abbrev pub RunStands : Type 0
RunStands = (past : Past) (time : ℕ) (events : List Event) (tables : PastTables) → IsPast past
    → AreTablesAtStep past time events tables → TablesWillStand past time events tables

abbrev pub CommitStands : Type 0
CommitStands = (past : Past) (time : ℕ) (events : List Event) (tables : PastTables) (after : Past) → IsPast past
    → PastCommitted past time tables.steps after → CommittedWillStand past time events tables after

-- there are tables for the outermost operators of the guards, in order
pub record ArePastTables (tables : PastTables) : Type 0 where
  pub sound : All IsSoundGuard tables.guards
  pub begin : BeginAt 0 tables.guards
  pub fit : FitOperators (all_outermost (formulas_of_guards tables.guards)) tables.stack

-- this is the guard of this number
abbrev pub IsGuard : List PlacedGuard → ℕ → PlacedGuard → Type 0
IsGuard guards number g = slice_get guards number ≡ Some g

-- the tables of a guard
abbrev pub tables_of : PlacedGuard → PastTables → List Relation
tables_of g tables = drop g.start tables.stack

-- for each trace for which the past stands, and a step with these events at this time that is not earlier: a guard
-- holds by its tables, under a valuation of its free variables, where it is satisfied at the step
abbrev pub GuardsWillHold : Past → ℕ → List Event → PastTables → Type 0
GuardsWillHold past time events tables = (trace : List Step) (step : Step) → step.time ≡ time
    → step.events ≡ events → last_time trace ≤ time → PastStands trace past
    → (number : ℕ) (g : PlacedGuard)
    → IsGuard tables.guards number g → (v : Valuation)
    → ((x : VarId) → IsFree x (guard_formula g) → IsSome (value_at v x))
    → HoldsNow events (tables_of g tables) v (guard_formula g)
    ↔ Sat (trace ++ step ∷ []) (length trace) v (guard_formula g)

-- where the events of a step change of names alone that no guard looks for, its tables stay those of the step, and by
-- them the guards hold where they are satisfied
abbrev pub UnreadTablesStay : Type 0
UnreadTablesStay = (past : Past) (time : ℕ) (events others : List Event) (tables : PastTables)
    → HaveSameEvents (guard_names past.guards) events others → AreTablesAtStep past time events tables
    → AreTablesAtStep past time others tables

abbrev pub UnreadGuardsHold : Type 0
UnreadGuardsHold = (past : Past) (time : ℕ) (events others : List Event) (tables : PastTables)
    → HaveSameEvents (guard_names tables.guards) events others → GuardsWillHold past time events tables
    → GuardsWillHold past time others tables

-- v binds the guard's bound variables
abbrev pub BindsBound : List PlacedGuard → ℕ → Valuation → Type 0
BindsBound guards number v = (g : PlacedGuard) → IsGuard guards number g → BindsColumns v g.guard.bound

-- the columns are the guard's free variables that are not bound, in rising order
abbrev pub HasOpenColumns : PastTables → ℕ → Relation → Type 0
HasOpenColumns tables number t = (g : PlacedGuard) → IsGuard tables.guards number g
    → AreOpen (guard_formula g) g.guard.bound t.columns

-- the rows are those that evaluation gives over the tables
abbrev pub AreEvaluated : PastTables → ℕ → List Event → Valuation → Relation → Type 0
AreEvaluated tables number events v t = (g : PlacedGuard) → IsGuard tables.guards number g
    → AreHoldingRows events (tables_of g tables) (guard_formula g) g.guard.bound v t

-- and of these those alone that are in another table
abbrev pub AreEvaluatedIn : Relation → PastTables → ℕ → List Event → Valuation → Relation → Type 0
AreEvaluatedIn within tables number events v t = (g : PlacedGuard) → IsGuard tables.guards number g
    → AreHoldingRowsIn within events (tables_of g tables) (guard_formula g) g.guard.bound v t

-- the other table has some of the columns of the guard
abbrev pub HasColumnsOf : Relation → List PlacedGuard → ℕ → Type 0
HasColumnsOf within guards number = (g : PlacedGuard) → IsGuard guards number g → (x : VarId)
    → Contains within.columns x → IsOpenIn (guard_formula g) g.guard.bound x

-- for each trace and step for which the tables stand: of the valuations that have v's values of the bound variables and
-- bind the others, just those are in the table that satisfy the guard at the step
abbrev pub AreSatisfied : PastTables → ℕ → List Event → Valuation → Relation → Type 0
AreSatisfied tables number events v t = (g : PlacedGuard) → IsGuard tables.guards number g → (trace : List Step)
    → (step : Step) → step.events ≡ events → TablesStand trace step tables → (w : Valuation)
    → AgreeOnColumns g.guard.bound v w → BindsColumns w t.columns
    → HasValuation t w ↔ Sat (trace ++ step ∷ []) (length trace) w (guard_formula g)

-- all variables of the guard that are free are bound
abbrev pub IsTestOf : List PlacedGuard → ℕ → Type 0
IsTestOf guards number = (g : PlacedGuard) → IsGuard guards number g → (x : VarId) → IsFree x (guard_formula g)
    → Contains g.guard.bound x

-- the guard holds by the tables, or is satisfied on each trace and at each step for which they stand
abbrev pub IsEvaluated : PastTables → ℕ → List Event → Valuation → Bool → Type 0
IsEvaluated tables number events v holds = (g : PlacedGuard) → IsGuard tables.guards number g
    → IsTrue holds ↔ HoldsNow events (tables_of g tables) v (guard_formula g)

abbrev pub IsSatisfied : PastTables → ℕ → List Event → Valuation → Bool → Type 0
IsSatisfied tables number events v holds = (g : PlacedGuard) → IsGuard tables.guards number g → (trace : List Step)
    → (step : Step) → step.events ≡ events → TablesStand trace step tables
    → IsTrue holds ↔ Sat (trace ++ step ∷ []) (length trace) v (guard_formula g)
