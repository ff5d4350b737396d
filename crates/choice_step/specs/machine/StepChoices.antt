-- What the choice loop asks of a step, and what its choice is.
use Rattle.enf_data.specs.declared.events.Event.{Event}
use Rattle.std.specs.Prelude.{Bool, List, map, ◌≤◌, ◌^◌, length, ℕ}
use Rattle.plan_terms.specs.machine.StoredPlans.{plan_of}
use Rattle.plan_terms.specs.meaning.Plans.{NothingClashes, Plan}
use Rattle.past_state.specs.machine.OperatorRuns.{AreUpToTimeOf}
use Rattle.past_state.specs.machine.Past.{AreTablesAtStep, GuardsWillHold, Past}
use Rattle.pending.specs.machine.PendingLists.{IsPendingListOf, PendingList}
use Rattle.choice_step.specs.declared.choice_loop.Choice.{Choice}
use Rattle.choice_step.specs.machine.ActionChains.{ActsFrom, WillDecide}
use Rattle.choice_step.specs.machine.AskedLeaves.{AreAskedActions}
use Rattle.choice_step.specs.machine.JustificationLaws.{WillBeJustified}
use Rattle.choice_step.specs.machine.LoopActions.{AllCanBeAsked}
use Rattle.plan_terms.specs.declared.plans.Plan as stored

-- a step that is to be decided, whatever its events: the plans of the rules, what is pending and what is remembered of
-- the steps before it, its time and position, and whether it is inserted
pub record StepSituation : Type 0 where
  pub plans : List Plan
  pub pending : PendingList
  pub past : Past
  pub time : ℕ
  pub position : ℕ
  pub inserted : Bool

-- that of the plans of the program
abbrev pub step_situation : List stored.Plan → PendingList → Past → (time position : ℕ) → (inserted : Bool)
    → StepSituation
step_situation plans pending past time position inserted = record {
  plans = map plan_of plans;
  pending = pending;
  past = past;
  time = time;
  position = position;
  inserted = inserted;
}

-- the rules are few enough to be numbered and no name is both caused and suppressed; all that there is to ask can be
-- asked, what is pending was kept for the plans, and the step is not earlier than what is remembered
pub record CanDecide (situation : StepSituation) : Type 0 where
  pub few : length situation.plans ≤ 2 ^ 32
  pub roles : NothingClashes situation.plans
  pub all : AllCanBeAsked situation.plans situation.pending.instances situation.past
  pub kept : IsPendingListOf situation.plans situation.pending
  pub later : AreUpToTimeOf situation.time situation.past.operators

-- where the step begins with these events, the choice is what the loop decides, and its actions are justified, for each
-- trace for which the past state stands; whatever it stands for, the actions are for leaves that are asked for and lead
-- from the one list of events to the other, and the tables are those of the last, by which the guards hold
pub record IsChoice (situation : StepSituation) (events : List Event) (choice : Choice) : Type 0 where
  pub decided : WillDecide situation.plans situation.pending.instances situation.past situation.inserted situation.time
      situation.position events choice.actions choice.events
  pub justified : WillBeJustified situation.plans situation.pending.instances situation.past situation.inserted
      situation.time situation.position events choice.actions
  pub acted : ActsFrom situation.plans events choice.actions choice.events
  pub asked : AreAskedActions situation.plans situation.pending.instances events choice.actions
  pub tables : AreTablesAtStep situation.past situation.time choice.events choice.tables
  pub hold : GuardsWillHold situation.past situation.time choice.events choice.tables
