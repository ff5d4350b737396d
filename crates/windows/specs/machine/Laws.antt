-- The statements of the laws of windows.
use Rattle.enf_data.specs.declared.intervals.Interval.{Interval}
use Rattle.enf_data.specs.meaning.Membership.{IsIn}
use Rattle.enf_data.specs.meaning.Valuations.{Valuation}
use Rattle.std.specs.Prelude.{ℕ, [], ◌-◌, ◌↔◌, ◌⊎◌, List, ◌∷◌, ◌++◌, ◌≤◌}
use Rattle.valuations.specs.machine.Tables.{HasValuation, Relation}
use Rattle.windows.specs.declared.surviving_rows.Surviving.{Surviving}
use Rattle.windows.specs.machine.CommittedSteps.{StepsAnswer, CommittedStep, HasColumns, committed_step}
use Rattle.windows.specs.machine.Windows.{Window, WindowRemembers, WindowKeeps, IsCommittedBy, StandsWithStep}
use Rattle.windows.specs.machine.Windows.{SurvivesFor, TellsFor, AnswersBy, IsWalkedNow, HasRow, KeepsLeast}
use Rattle.windows.specs.meaning.KeptPairs.{ChosenBy}

-- no step answers nothing
abbrev pub NothingAtFirst : Type 0
NothingAtFirst = (interval : Interval) (time : ℕ) (v : Valuation) → StepsAnswer interval time [] v → ⊥

-- with one step more: what is right at it, where its distance is in the interval, and what was held and survives it
abbrev pub OneStepMore : Type 0
OneStepMore = (interval : Interval) (time : ℕ) (steps : List CommittedStep) (step : CommittedStep) (v : Valuation)
    → StepsAnswer interval time (steps ++ step ∷ []) v
    ↔ ((IsIn interval (time - step.time) × HasValuation step.right v)
    ⊎ (StepsAnswer interval time steps v × HasValuation step.surviving v))

-- what a window remembers at a time from its last one on it kept at the last one
abbrev pub RememberedIsKept : Type 0
RememberedIsKept = (window : Window) (time : ℕ) (v : Valuation) → window.last ≤ time
    → WindowRemembers window time v
    → WindowKeeps window window.last v

-- with a step committed that is not earlier, and has tables of its columns, of which one tells which of the kept rows
-- survive, a window stands for the longer list
abbrev pub CommittedStands : Type 0
CommittedStands = (before : Window) (time : ℕ) (s : Surviving) (surviving right : Relation) (after : Window)
    → before.last ≤ time → HasColumns before.columns (committed_step time surviving right)
    → TellsFor before (SurvivesFor s) surviving → IsCommittedBy before time (SurvivesFor s) right after
    → StandsWithStep before time surviving right after

-- what a window answers at such a step is what the walk over the longer list answers
abbrev pub AnsweredIsWalked : Type 0
AnsweredIsWalked = (window : Window) (time : ℕ) (s : Surviving) (surviving right t : Relation)
    → window.last ≤ time → TellsFor window (SurvivesFor s) surviving
    → ((v : Valuation) → HasValuation t v ↔ AnswersBy window time (SurvivesFor s) right v)
    → IsWalkedNow window time surviving right t

-- each time that a row has is chosen among those that it has
abbrev pub LeastIsChosen : Type 0
LeastIsChosen = (window : Window) → KeepsLeast window → (v : Valuation) (time : ℕ) → HasRow window v time
    → ChosenBy window.interval.high window.interval.low window.last (HasRow window v) time
