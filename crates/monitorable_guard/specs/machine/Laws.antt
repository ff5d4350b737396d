-- What is known of safe formulas: what they decide, their rows, and what evaluation gives.
use Rattle.enf_data.specs.declared.events.Event.{Event}
use Rattle.enf_data.specs.declared.intervals.Interval.{Interval}
use Rattle.enf_data.specs.declared.steps.Step.{Step}
use Rattle.enf_data.specs.declared.terms.VarId.{VarId}
use Rattle.enf_data.specs.declared.values.Value.{Value}
use Rattle.enf_data.specs.meaning.Data.{step_at}
use Rattle.enf_data.specs.meaning.Valuations.{Valuation, BindsColumns, value_at}
use Rattle.std.specs.Prelude.{◌↔◌, ℕ, List, Contains, [], IsSome, IsTrue, ◌⊎◌, ◌≡◌, Some}
use Rattle.enf_formula.specs.machine.Agreement.{AgreeOnFreeVariables as AgreeOnFree}
use Rattle.enf_formula.specs.machine.FormulaShape.{is_past, BindsFresh}
use Rattle.enf_formula.specs.meaning.Satisfaction.{Formula, IsFree, Historically, Sat, Classically}
use Rattle.valuations.specs.machine.Tables.{Relation, HasValuation, AgreeOnColumns, IsTable}
use Rattle.monitorable_guard.specs.machine.Evaluation.{AreOpen, AreHoldingRows, FitOperators}
use Rattle.monitorable_guard.specs.machine.PresentMeaning.{TablesStandFor, outermost, HoldsNow}
use Rattle.monitorable_guard.specs.machine.SatisfyingRows.{AreRowsAt, AreTold}
use Rattle.monitorable_guard.specs.machine.ValueSources.{IsKnown}
use Rattle.monitorable_guard.specs.meaning.Safety.{Safe, NoneBound, BoundOrFreeIn, FreeWithin, denial}

-- where the tables stand for a position of a trace, evaluation gives just the valuations that satisfy the formula
-- there
abbrev pub EvaluatedIsSatisfied : Type 0
EvaluatedIsSatisfied = (trace : List Step) (i : ℕ) (tables : List Relation) (f : Formula) (bound : List VarId)
    (v : Valuation) (t : Relation)
    → Safe f (Contains bound)
    → BindsColumns v bound
    → TablesStandFor trace i (outermost f) tables
    → AreOpen f bound t.columns
    → AreHoldingRows (step_at trace i).events tables f bound v t
    → (w : Valuation) → AgreeOnColumns bound v w → BindsColumns w t.columns
    → HasValuation t w ↔ Sat trace i w f

-- what holds by tables speaks of the values of the free variables alone
abbrev pub FreeVariablesDecideNow : Type 0
FreeVariablesDecideNow = (events : List Event) (tables : List Relation) (v w : Valuation) (f : Formula)
    → FitOperators (outermost f) tables → AgreeOnFree f v w
    → HoldsNow events tables v f ↔ HoldsNow events tables w f

-- what can be evaluated by itself can be evaluated with none listed
abbrev pub SafeWithNoneListed : Type 0
SafeWithNoneListed = (f : Formula) → Safe f NoneBound → Safe f (Contains [])

-- what can be evaluated with the variables that are free in another formula can be evaluated with them listed
abbrev pub SafeWithFreeListed : Type 0
SafeWithFreeListed = (f g : Formula) (columns : List VarId) → ((x : VarId) → Contains columns x ↔ IsFree x g)
    → Safe f (BoundOrFreeIn NoneBound g) → Safe f (Contains columns)

-- where the tables stand for a position of a trace, what holds by them is what is satisfied there
abbrev pub PresentIsSatisfied : Type 0
PresentIsSatisfied = (trace : List Step) (i : ℕ) (tables : List Relation) (v : Valuation) (f : Formula)
    → IsTrue (is_past f)
    → TablesStandFor trace i (outermost f) tables
    → ((x : VarId) → IsFree x f → IsSome (value_at v x))
    → HoldsNow (step_at trace i).events tables v f ↔ Sat trace i v f

-- a safe formula is satisfied or it is not
abbrev pub SafeIsDecided : Type 0
SafeIsDecided = (trace : List Step) (i : ℕ) (v : Valuation) (f : Formula) (bound : List VarId)
    → Safe f (Contains bound) → BindsFresh f (λ x. Contains bound x ⊎ IsFree x f)
    → Sat trace i v f ⊎ (Sat trace i v f → ⊥)

-- under each valuation there is a list of the rows of a safe formula
abbrev pub SafeHasRows : Type 0
SafeHasRows = (trace : List Step) (i : ℕ) (v : Valuation) (f : Formula) (bound xs : List VarId)
    → Safe f (Contains bound) → BindsFresh f (λ x. Contains bound x ⊎ IsFree x f) → AreTold f bound xs
    → (rows : List (List Value)) × AreRowsAt trace i v xs f rows

-- where the tables stand for a position of a trace, the rows that evaluation gives are those
abbrev pub EvaluatedAreRows : Type 0
EvaluatedAreRows = (trace : List Step) (i : ℕ) (tables : List Relation) (f : Formula) (bound : List VarId)
    (v : Valuation) (t : Relation)
    → Safe f (Contains bound)
    → BindsColumns v bound
    → TablesStandFor trace i (outermost f) tables
    → IsTable t
    → AreOpen f bound t.columns
    → AreHoldingRows (step_at trace i).events tables f bound v t
    → AreRowsAt trace i v t.columns f t.rows

-- `historically g` can be evaluated where its variables are bound and the denial of g can be evaluated by itself
abbrev pub HistoricallyAsksDenial : Type 0
HistoricallyAsksDenial = (place : ℕ) (interval : Interval) (g : Formula) (bound : List VarId)
    → Safe (Historically place interval g) (Contains bound)
    ↔ (FreeWithin g (Contains bound) × Safe (denial g) NoneBound)

-- with the bound variables fixed, each value of a free variable under which a safe formula holds is known. As in
-- the definition of satisfaction, `or` and `some` are classical
abbrev pub SafeValuesAreKnown : Type 0
SafeValuesAreKnown = (trace : List Step) (i : ℕ) (f : Formula) (bound : List VarId) (v : Valuation)
    → Safe f (Contains bound)
    → BindsFresh f (λ x. Contains bound x ⊎ IsFree x f)
    → Sat trace i v f
    → (x : VarId) (value : Value) → IsFree x f → value_at v x ≡ Some value
    → Classically (IsKnown trace i f bound v value)
