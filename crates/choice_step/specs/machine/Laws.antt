-- The statements of laws on what is done at a step and on what is emitted.
use Rattle.enf_data.specs.declared.events.Event.{Event}
use Rattle.enf_data.specs.declared.events.NameId.{NameId}
use Rattle.enf_data.specs.declared.steps.Step.{Step}
use Rattle.enf_data.specs.declared.terms.VarId.{VarId}
use Rattle.enf_data.specs.meaning.Membership.{HasNoRepeats}
use Rattle.std.specs.List.{AllByRecursion}
use Rattle.std.specs.Prelude.{ℕ, Bool, List, [], map, ◌≡◌, ◌<◌, ◌≤◌, ◌∷◌, ◌++◌, ◌⊎◌, length}
use Rattle.std.specs.Prelude.{Option, IsTrue, All}
use Rattle.enf_formula.specs.meaning.Satisfaction.{Formula}
use Rattle.trace_meaning.specs.declared.kinds.StepKind.TheVariants.{Inserted}
use Rattle.trace_meaning.specs.meaning.Traces.{Leads, IsCause, event_of, Record, last_time, recorded}
use Rattle.plan_terms.specs.meaning.Plans.{NothingClashes, IsCaused, IsSuppressed, Plan}
use Rattle.plan_terms.specs.machine.WakingNames.{waking_names}
use Rattle.obligations.specs.declared.actions.Action.{Action}
use Rattle.obligations.specs.declared.instances.Instance.{Instance}
use Rattle.obligations.specs.machine.AskablePlans.{CanAskOf, CanAskRoots}
use Rattle.obligations.specs.machine.PlanClasses.{PlansStand}
use Rattle.obligations.specs.machine.Successors.{LeadsAt}
use Rattle.obligations.specs.machine.UnmetGoals.{AreUnmet}
use Rattle.obligations.specs.meaning.Pending.{PendingAfter, Pend}
use Rattle.pending.specs.machine.Moments.{step_moment}
use Rattle.pending.specs.machine.PendingLists.{IsPendingListOf, PendingList}
use Rattle.pending.specs.machine.Waits.{SleepsNow}
use Rattle.sleepers.specs.machine.Entries.{AllButThose}
use Rattle.choice_step.specs.machine.ActionChains.{ActsFrom}
use Rattle.choice_step.specs.machine.RuleTriggers.{AllSleep}
use Rattle.choice_step.specs.meaning.ActedSteps.{ActedStep, change_of}
use Rattle.choice_step.specs.meaning.Choice.{Decides, trace_with_step, MissesNothing, all_asked}
use Rattle.choice_step.specs.meaning.Follows.{Follows, FollowsDrain, GoesOut, IsLeastDeadline, InsertsSteps}

-- all that is pending sleeps at a step, and no event wakes a rule; what is pending and the rules can be asked
pub record AllAreAsleep (guards : List (Formula × List VarId)) (plans : List Plan) (inserted : Bool) (time : ℕ)
    (events : List Event) (pending : PendingList) : Type 0 where
  pub roots : CanAskRoots guards plans
  pub instances : AllByRecursion (CanAskOf guards plans) pending.instances
  pub kept : IsPendingListOf plans pending
  pub sleep : AllButThose (SleepsNow events (step_moment inserted time)) pending.listed []
  pub rules : AllSleep (map waking_names plans) events

-- then nothing is done there
abbrev pub AsleepDecidesNothing : Type 0
AsleepDecidesNothing = (guards : List (Formula × List VarId)) (plans : List Plan) (trace : List Step)
    (inserted : Bool) (time : ℕ) (events : List Event) (pending : PendingList)
    → AllAreAsleep guards plans inserted time events pending
    → Decides plans trace pending.instances inserted time events [] events

-- what is pending stays as it is, where its goals were not met before, and nothing is begun
abbrev pub AsleepChangesNothing : Type 0
AsleepChangesNothing = (guards : List (Formula × List VarId)) (plans : List Plan) (trace : List Step)
    (inserted : Bool) (time : ℕ) (events : List Event) (pending : PendingList)
    → AllAreAsleep guards plans inserted time events pending
    → PlansStand plans → last_time trace ≤ time → AreUnmet plans trace pending.instances
    → PendingAfter plans (trace_with_step trace time events) pending.instances pending.instances

-- each comes of itself
abbrev pub AsleepComeOfThemselves : Type 0
AsleepComeOfThemselves = (guards : List (Formula × List VarId)) (plans : List Plan) (inserted : Bool)
    (time position : ℕ) (events : List Event) (pending : PendingList)
    → AllAreAsleep guards plans inserted time events pending
    → LeadsAt events time position plans inserted pending.instances pending.instances

-- at most one decision fits the rules at a step without repeats
abbrev pub DecidesIsOne : Type 0
DecidesIsOne = (plans : List Plan) (trace : List Step) (pending : List Instance) (inserted : Bool) (time : ℕ)
    (before : List Event) (actions others : List Action) (after rest : List Event) → HasNoRepeats before
    → Decides plans trace pending inserted time before actions after
    → Decides plans trace pending inserted time before others rest
    → (actions ≡ others) × (after ≡ rest)

-- some decision fits the rules, where plans and pending instances can be asked and no name is both caused and
-- suppressed
abbrev pub SomeDecision : Type 0
SomeDecision = (guards : List (Formula × List VarId)) (plans : List Plan) (trace : List Step)
    (pending : List Instance) (inserted : Bool) (time : ℕ) (before : List Event) → NothingClashes plans
    → CanAskRoots guards plans → AllByRecursion (CanAskOf guards plans) pending → HasNoRepeats before
    → (actions : List Action) × (after : List Event)
    × Decides plans trace pending inserted time before actions after

-- a step as it is decided has no repeats, where it had none before
abbrev pub DecidedIsDistinct : Type 0
DecidedIsDistinct = (plans : List Plan) (trace : List Step) (pending : List Instance) (inserted : Bool) (time : ℕ)
    (before : List Event) (actions : List Action) (after : List Event) → HasNoRepeats before
    → Decides plans trace pending inserted time before actions after → HasNoRepeats after

-- a step as it is decided misses nothing
abbrev pub DecidedMissesNothing : Type 0
DecidedMissesNothing = (plans : List Plan) (trace : List Step) (pending : List Instance) (inserted : Bool) (time : ℕ)
    (before : List Event) (actions : List Action) (after : List Event)
    → Decides plans trace pending inserted time before actions after
    → AllByRecursion (MissesNothing plans inserted (trace_with_step trace time after)) (all_asked plans pending)

-- the steps of the records have no repeats
abbrev pub AreDistinct : List Record → Type 0
AreDistinct records = AllByRecursion (λ step. HasNoRepeats step.events) (recorded records)

-- at most one list of steps is emitted for the records of a log
abbrev pub FollowsIsOne : Type 0
FollowsIsOne = (plans : List Plan) (trace : List Step) (records : List Record) (out others : List ActedStep)
    → AreDistinct records → Follows plans trace records out
    → Follows plans trace records others → out ≡ others

abbrev pub DrainIsOne : Type 0
DrainIsOne = (plans : List Plan) (trace : List Step) (out others : List ActedStep)
    → FollowsDrain plans trace out → FollowsDrain plans trace others → out ≡ others

-- of two lists of numbers the second is below the first: the first entries that differ fall
abbrev pub EntriesFall : (before after : List ℕ) → Type 0
EntriesFall [] after = ⊥
EntriesFall (n ∷ before) [] = ⊥
EntriesFall (n ∷ before) (m ∷ after) = (m < n) ⊎ ((m ≡ n) × EntriesFall before after)

-- as many numbers for whatever is pending, which fall so where the least deadline is served
pub record IsMeasure (plans : List Plan) (width : ℕ) (measure : List Instance → List ℕ) : Type 0 where
  pub wide : (pending : List Instance) → length (measure pending) ≡ width
  pub falls : (trace : List Step) (pending after : List Instance) (deadline : ℕ) (o : ActedStep)
      → Pend plans trace pending → IsLeastDeadline plans pending deadline
      → GoesOut plans trace Inserted deadline [] o → Pend plans (trace ++ o.step ∷ []) after
      → EntriesFall (measure pending) (measure after)

-- where such numbers are there, inserted steps come to an end after each trace, at a drain too, so that a list of them
-- is there
abbrev pub SomeInserts : Type 0
SomeInserts = (guards : List (Formula × List VarId)) (plans : List Plan) (width : ℕ)
    (measure : List Instance → List ℕ) (trace : List Step) (until : Option ℕ) → NothingClashes plans
    → PlansStand plans → CanAskRoots guards plans → IsMeasure plans width measure
    → (out : List ActedStep) × InsertsSteps plans trace until out

-- where such numbers are there, some list of steps is emitted for the records of a log
abbrev pub SomeFollows : Type 0
SomeFollows = (guards : List (Formula × List VarId)) (plans : List Plan) (width : ℕ)
    (measure : List Instance → List ℕ) (trace : List Step) (records : List Record) → NothingClashes plans
    → PlansStand plans → CanAskRoots guards plans → IsMeasure plans width measure → AreDistinct records
    → (out : List ActedStep) × Follows plans trace records out

-- actions are lawful changes where the names that plans cause can be caused, and those that they suppress can be
-- suppressed
abbrev pub ActionsAreLawful : Type 0
ActionsAreLawful = (plans : List Plan) (causable suppressible : NameId → Bool) (before : List Event)
    (actions : List Action) (after : List Event)
    → ((name : NameId) → IsCaused plans name → IsTrue (causable name))
    → ((name : NameId) → IsSuppressed plans name → IsTrue (suppressible name))
    → ActsFrom plans before actions after → Leads causable suppressible (map change_of actions) before after

-- where no name is both caused and suppressed, no event is acted on twice
abbrev pub EventsAreActedOnOnce : Type 0
EventsAreActedOnOnce = (plans : List Plan) (before : List Event) (actions : List Action) (after : List Event)
    → NothingClashes plans → HasNoRepeats before → ActsFrom plans before actions after
    → HasNoRepeats (map event_of (map change_of actions))

-- where no name is both caused and suppressed, a step that begins without events has causes alone
abbrev pub CausesAlone : Type 0
CausesAlone = (plans : List Plan) (actions : List Action) (after : List Event) → NothingClashes plans
    → ActsFrom plans [] actions after → All IsCause (map change_of actions)
