-- What is remembered of the steps that were emitted, and how one step more is emitted and remembered.
use Rattle.enf_data.specs.declared.events.Event.{Event}
use Rattle.enf_data.specs.declared.events.NameId.{NameId}
use Rattle.enf_data.specs.declared.steps.Step.{Step}
use Rattle.enf_data.specs.meaning.Data.{IsTrace}
use Rattle.enf_data.specs.meaning.Membership.{HasNoRepeats}
use Rattle.std.specs.List.{AllByRecursion}
use Rattle.std.specs.Prelude.{◌≡◌, List, IsTrue, map, ℕ, ◌+◌, ◌-◌, ◌^◌, ◌≤◌, length, Bool, ◌∷◌}
use Rattle.std.specs.Prelude.{[], ◌++◌, Option}
use Rattle.trace_meaning.specs.declared.kinds.StepKind.{StepKind}
use Rattle.trace_meaning.specs.meaning.Traces.{last_time}
use Rattle.plan_terms.specs.machine.WakingNames.{waking_names}
use Rattle.plan_terms.specs.meaning.Plans.{NothingClashes, Plan}
use Rattle.past_state.specs.machine.GuardPlaces.{placed_guard}
use Rattle.past_state.specs.machine.OperatorRuns.{AreUpToTimeOf}
use Rattle.past_state.specs.machine.Past.{PastStands}
use Rattle.past_state.specs.meaning.KeptRows.{IsLastTime}
use Rattle.obligations.specs.declared.instances.Instance.{Instance}
use Rattle.obligations.specs.machine.AskablePlans.{CanAskOf, CanAskRoots}
use Rattle.obligations.specs.machine.PlanClasses.{LooksAtNow, PlansStand}
use Rattle.obligations.specs.machine.Progress.{AreServed}
use Rattle.obligations.specs.machine.Successors.{LeadsAt}
use Rattle.obligations.specs.meaning.Pending.{Pend, PendingAfter}
use Rattle.past_state.specs.machine.UntouchedSteps.{AreUntouched}
use Rattle.pending.specs.machine.Moments.{step_moment}
use Rattle.pending.specs.machine.PendingLists.{IsPendingListOf}
use Rattle.pending.specs.machine.Waits.{SleepsNow}
use Rattle.sleepers.specs.machine.Entries.{AllButThose}
use Rattle.choice_step.specs.machine.ActionChains.{ActsFrom}
use Rattle.choice_step.specs.machine.AskedLeaves.{AreAskedActions}
use Rattle.choice_step.specs.machine.RuleTriggers.{AllSleep}
use Rattle.choice_step.specs.meaning.Follows.{is_inserted, GoesOut}
use Rattle.enforcer_core.specs.declared.step_memory.Remembered.{Remembered}
use Rattle.enforcer_core.specs.machine.MadeSteps.{acted_step}
use Rattle.enforcer_core.specs.declared.plan_facts.PlanFacts as kept
use Rattle.enforcer_core.specs.declared.steps.OutStep as made

-- what wakes each of them and what they suppress that can be taken out at once, and, where it says that they look at
-- nothing but now, that no node is of the future
pub record AreFactsOf (plans : List Plan) (facts : kept.PlanFacts) : Type 0 where
  pub wakes : facts.wakes ≡ map waking_names plans
  pub present : IsTrue facts.looks_at_now → AllByRecursion LooksAtNow plans

-- the greatest number of steps that are emitted
abbrev pub most_positions : ℕ
most_positions = 2 ^ 63 + 2 ^ 62

-- the greatest number of steps that one call inserts: no memory holds a longer list
abbrev pub most_inserted : ℕ
most_inserted = 2 ^ 62 - 2

-- the plans can be asked over the guards, and what is pending as well, with its deadlines
pub record CanAskRemembered (plans : List Plan) (r : Remembered) : Type 0 where
  pub few : length plans ≤ 2 ^ 32
  pub roles : NothingClashes plans
  pub named : PlansStand plans
  pub roots : CanAskRoots (map placed_guard r.past.guards) plans
  pub instances : AllByRecursion (CanAskOf (map placed_guard r.past.guards) plans) r.pending.instances
  pub deadlines : IsPendingListOf plans r.pending

-- the plans can be asked over what is remembered, at a step at a time that is not earlier than the steps before it
pub record CanDecideAt (plans : List Plan) (r : Remembered) (time : ℕ) : Type 0 where
  pub asked : CanAskRemembered plans r
  pub up_to : AreUpToTimeOf time r.past.operators

-- it is a trace that is remembered: its length and last time, what its guards' operators need of it, and what it leaves
-- pending
pub record RemembersTrace (plans : List Plan) (r : Remembered) (trace : List Step) : Type 0 where
  pub is_trace : IsTrace trace
  pub position : r.position ≡ length trace
  pub past : PastStands trace r.past
  pub last : IsLastTime trace r.last
  pub pending : Pend plans trace r.pending.instances

-- for each trace that is remembered, what is pending goes where a step with these events at a time leads it, if those
-- of it that are forced are served there
abbrev pub PendingLeadsTo : List Plan → Remembered → (inserted : Bool) → (time : ℕ) → List Event
    → (after : List Instance)
    → Type 0
PendingLeadsTo plans before inserted time events after = (trace : List Step) → RemembersTrace plans before trace
    → last_time trace ≤ time
    → AreServed plans inserted (trace ++ record { time = time; events = events } ∷ []) before.pending.instances
    → PendingAfter plans (trace ++ record { time = time; events = events } ∷ []) before.pending.instances after

-- a step is emitted that begins with these events, and is remembered
pub record IsDecided (plans : List Plan) (before : Remembered) (kind : StepKind) (time : ℕ) (events : List Event)
    (o : made.OutStep) (after : Remembered) : Type 0 where
  pub kind_is : o.kind ≡ kind
  pub time_is : o.time ≡ time
  pub distinct : HasNoRepeats o.events
  pub acts : ActsFrom plans events o.actions o.events
  pub asked : AreAskedActions plans before.pending.instances events o.actions
  pub leads : LeadsAt o.events time before.position plans (is_inserted kind) before.pending.instances
      after.pending.instances
  pub guards : after.past.guards ≡ before.past.guards
  pub position : after.position ≡ before.position + 1
  pub deadlines : IsPendingListOf plans after.pending
  pub goes_out : (trace : List Step) → RemembersTrace plans before trace → last_time trace ≤ time
      → GoesOut plans trace kind time events (acted_step o)
  pub goes : (trace : List Step) → RemembersTrace plans before trace → last_time trace ≤ time
      → PendingAfter plans (trace ++ (acted_step o).step ∷ []) before.pending.instances after.pending.instances
  pub remembers : (trace : List Step) → RemembersTrace plans before trace → last_time trace ≤ time
      → RemembersTrace plans after (trace ++ (acted_step o).step ∷ [])

-- no rule is woken by these events, they touch nothing that is remembered of the past, and all that is pending sleeps
pub record IsIdle (wakes : List (Option (List NameId))) (r : Remembered) (inserted : Bool) (time : ℕ)
    (events : List Event) : Type 0 where
  pub asleep : AllSleep wakes events
  pub untouched : AreUntouched events r.past.operators
  pub sleep : AllButThose (SleepsNow events (step_moment inserted time)) r.pending.listed []
