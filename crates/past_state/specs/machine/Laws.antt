-- The statements of the laws by which windows and slots go on standing for a trace.
use Rattle.enf_data.specs.declared.intervals.Interval.{Interval}
use Rattle.enf_data.specs.declared.steps.Step.{Step}
use Rattle.enf_data.specs.meaning.Valuations.{Valuation, BindsColumns}
use Rattle.std.specs.Prelude.{◌≤◌, List, length, map, sum, ℕ, ◌≡◌, ◌↔◌, None, Some, IsTrue, [], ◌∷◌}
use Rattle.std.specs.Prelude.{◌++◌}
use Rattle.enf_formula.specs.machine.FormulaShape.{formula_size, is_past}
use Rattle.enf_formula.specs.meaning.Satisfaction.{Formula, Since, Once, Historically, Prev, Sat, HoldsAnywhere}
use Rattle.valuations.specs.machine.Tables.{Relation, HasValuation}
use Rattle.windows.specs.machine.Slots.{Slot, with_rows, GivesLast}
use Rattle.windows.specs.machine.Windows.{Window, WindowKeeps, AnswersBy, IsCommittedBy}
use Rattle.monitorable_guard.specs.meaning.Safety.{denial}
use Rattle.prev_rows.specs.machine.GrownSlots.{IsGrownBy}
use Rattle.trace_meaning.specs.meaning.Traces.{last_time}
use Rattle.past_state.specs.declared.survivors.Survivors.{Survivors}
use Rattle.past_state.specs.machine.Newcomers.{BeginsWith, GrowsBy}
use Rattle.past_state.specs.machine.OperatorMeaning.{WindowStands, SlotStands}
use Rattle.past_state.specs.machine.Survivors.{ValuationSurvives}
use Rattle.past_state.specs.meaning.KeptRows.{all_operators}

-- no more than nodes
abbrev pub NoMoreThanNodes : Type 0
NoMoreThanNodes = (fs : List Formula) → length (all_operators fs) ≤ sum (map formula_size fs)

-- a formula at a position
abbrev pub satisfied : List Step → Formula → Valuation → ℕ → Type 0
satisfied trace f v i = Sat trace i v f

-- each position
abbrev pub everywhere : Valuation → ℕ → Type 0
everywhere v = HoldsAnywhere

-- what a window is told at the step that comes after the trace: of the rows that are kept just those survive for
-- which F holds there, and just those are right for which G holds there
pub record AreTablesOf (trace : List Step) (window : Window) (F G : Valuation → ℕ → Type 0)
    (survivors : Survivors)
    (right : Relation) : Type 0 where
  pub right_columns : right.columns ≡ window.columns
  pub survives : (v : Valuation) → BindsColumns v window.columns → WindowKeeps window window.last v
      → ValuationSurvives survivors v ↔ F v (length trace)
  pub is_right : (v : Valuation) → BindsColumns v window.columns → HasValuation right v ↔ G v (length trace)

-- the slot with the step committed
abbrev pub with_last : Slot → ℕ → Relation → Slot
with_last slot time rows = record slot { last = Some (with_rows time rows) }

-- the windows of `since` and of `once`
abbrev pub SinceStands : List Step → Interval → Formula → Formula → Window → Type 0
SinceStands trace interval f g = WindowStands trace interval (satisfied trace f) (satisfied trace g) g

abbrev pub OnceStands : List Step → Interval → Formula → Window → Type 0
OnceStands trace interval g = WindowStands trace interval everywhere (satisfied trace g) g

-- with one step more that is not earlier, and its tables, a window answers at the step what is satisfied there, and
-- then stands for the longer trace
abbrev pub SinceAnswers : Type 0
SinceAnswers = (trace : List Step) (step : Step) (place : ℕ) (interval : Interval) (f g : Formula) (window : Window)
    (survivors : Survivors) (right : Relation) → IsTrue (is_past f) → IsTrue (is_past g)
    → last_time trace ≤ step.time
    → SinceStands trace interval f g window
    → AreTablesOf trace window (satisfied (trace ++ step ∷ []) f)
    (satisfied (trace ++ step ∷ []) g) survivors right
    → (v : Valuation) → BindsColumns v window.columns
    → AnswersBy window step.time (ValuationSurvives survivors) right v
    ↔ Sat (trace ++ step ∷ []) (length trace) v (Since place interval f g)

abbrev pub SinceGoesOn : Type 0
SinceGoesOn = (trace : List Step) (step : Step) (interval : Interval) (f g : Formula) (window : Window)
    (survivors : Survivors) (right : Relation) → IsTrue (is_past f) → IsTrue (is_past g)
    → last_time trace ≤ step.time
    → SinceStands trace interval f g window
    → AreTablesOf trace window (satisfied (trace ++ step ∷ []) f)
    (satisfied (trace ++ step ∷ []) g) survivors right
    → (after : Window) → IsCommittedBy window step.time (ValuationSurvives survivors) right after
    → SinceStands (trace ++ step ∷ []) interval f g after

-- with one step more, a window of `once` answers at the step what is satisfied there, and then stands for the longer
-- trace
abbrev pub OnceAnswers : Type 0
OnceAnswers = (trace : List Step) (step : Step) (place : ℕ) (interval : Interval) (g : Formula) (window : Window)
    (survivors : Survivors) (right : Relation) → IsTrue (is_past g) → last_time trace ≤ step.time
    → OnceStands trace interval g window
    → AreTablesOf trace window everywhere (satisfied (trace ++ step ∷ []) g) survivors right
    → (v : Valuation) → BindsColumns v window.columns
    → AnswersBy window step.time (ValuationSurvives survivors) right v
    ↔ Sat (trace ++ step ∷ []) (length trace) v (Once place interval g)

abbrev pub OnceGoesOn : Type 0
OnceGoesOn = (trace : List Step) (step : Step) (interval : Interval) (g : Formula) (window : Window)
    (survivors : Survivors) (right : Relation) → IsTrue (is_past g) → last_time trace ≤ step.time
    → OnceStands trace interval g window
    → AreTablesOf trace window everywhere (satisfied (trace ++ step ∷ []) g) survivors right
    → (after : Window) → IsCommittedBy window step.time (ValuationSurvives survivors) right after
    → OnceStands (trace ++ step ∷ []) interval g after

-- where the interval has no end, such a window that is told only with what its operand begins answers, and then stands,
-- all the same
abbrev pub BegunAnswers : Type 0
BegunAnswers = (trace : List Step) (step : Step) (place : ℕ) (interval : Interval) (g begun : Formula)
    (window : Window) (survivors : Survivors) (right : Relation) → IsTrue (is_past g) → last_time trace ≤ step.time
    → interval.high ≡ None → BeginsWith g begun → OnceStands trace interval g window
    → AreTablesOf trace window everywhere (satisfied (trace ++ step ∷ []) begun) survivors right
    → (v : Valuation) → BindsColumns v window.columns
    → AnswersBy window step.time (ValuationSurvives survivors) right v
    ↔ Sat (trace ++ step ∷ []) (length trace) v (Once place interval g)

abbrev pub BegunGoesOn : Type 0
BegunGoesOn = (trace : List Step) (step : Step) (interval : Interval) (g begun : Formula) (window : Window)
    (survivors : Survivors) (right : Relation) → IsTrue (is_past g) → last_time trace ≤ step.time
    → interval.high ≡ None → BeginsWith g begun → OnceStands trace interval g window
    → AreTablesOf trace window everywhere (satisfied (trace ++ step ∷ []) begun) survivors right
    → (after : Window) → IsCommittedBy window step.time (ValuationSurvives survivors) right after
    → OnceStands (trace ++ step ∷ []) interval g after

-- `historically g` fails where `once` of the denial of g holds, so that it has that window
abbrev pub HistoricallyIsDenied : Type 0
HistoricallyIsDenied = (trace : List Step) (i : ℕ) (v : Valuation) (place : ℕ) (interval : Interval) (g : Formula)
    → (Sat trace i v (Historically place interval g) → ⊥) ↔ Sat trace i v (Once place interval (denial g))

-- with one step more, a slot, which has the rows of the last step, answers what `prev` asks, and then stands for the
-- longer trace
abbrev pub PrevAnswers : Type 0
PrevAnswers = (trace : List Step) (step : Step) (place : ℕ) (interval : Interval) (g : Formula) (slot : Slot)
    → IsTrue (is_past g) → last_time trace ≤ step.time → SlotStands trace interval g slot
    → (v : Valuation) → BindsColumns v slot.columns
    → GivesLast slot.interval step.time slot.last v
    ↔ Sat (trace ++ step ∷ []) (length trace) v (Prev place interval g)

abbrev pub PrevGoesOn : Type 0
PrevGoesOn = (trace : List Step) (step : Step) (interval : Interval) (g : Formula) (slot : Slot) (rows : Relation)
    → SlotStands trace interval g slot → rows.columns ≡ slot.columns
    → ((v : Valuation) → BindsColumns v slot.columns → HasValuation rows v ↔ Sat (trace ++ step ∷ [])
    (length trace) v g)
    → SlotStands (trace ++ step ∷ []) interval g (with_last slot step.time rows)

-- with one step more a slot that grows by the rows that come stands for the longer trace
abbrev pub PrevGrows : Type 0
PrevGrows = (trace : List Step) (step : Step) (interval : Interval) (g begun : Formula) (slot after : Slot)
    (right : Relation) → IsTrue (is_past g) → GrowsBy g begun → SlotStands trace interval g slot
    → ((v : Valuation) → BindsColumns v slot.columns
    → HasValuation right v ↔ Sat (trace ++ step ∷ []) (length trace) v begun)
    → IsGrownBy slot step.time right after → SlotStands (trace ++ step ∷ []) interval g after
