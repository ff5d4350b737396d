-- That inserted steps end: what can be owed never grows at the steps that serve it.
use Rattle.enf_data.specs.declared.events.Event.{Event}
use Rattle.enf_data.specs.declared.steps.Step.{Step}
use Rattle.enf_data.specs.declared.terms.VarId.{VarId}
use Rattle.enf_data.specs.meaning.Data.{IsTrace}
use Rattle.std.specs.Prelude.{ℕ, ◌≤◌, List, Contains, ◌+◌, [], ◌∷◌, ◌++◌, true, All, Bool}
use Rattle.enf_formula.specs.meaning.Satisfaction.{Formula}
use Rattle.trace_meaning.specs.declared.kinds.StepKind.TheVariants.{Inserted, System}
use Rattle.trace_meaning.specs.meaning.Traces.{last_time, most_time}
use Rattle.plan_terms.specs.meaning.Plans.{Plan}
use Rattle.plan_terms.specs.machine.WellFormed.{AreWellFormed}
use Rattle.obligations.specs.declared.actions.Action.{Action}
use Rattle.obligations.specs.declared.instances.Instance.{Instance}
use Rattle.obligations.specs.machine.Successors.{LeadsAt}
use Rattle.obligations.specs.meaning.Pending.{HasDeadline, NoneIsOver, Pend, PendingAfter}
use Rattle.choice_step.specs.machine.ActionChains.{ActsFrom}
use Rattle.choice_step.specs.machine.AskedLeaves.{AreAskedActions}
use Rattle.choice_step.specs.machine.Laws.{EntriesFall}
use Rattle.choice_step.specs.meaning.ActedSteps.{ActedStep}
use Rattle.choice_step.specs.meaning.Choice.{Decides, trace_with_step}
use Rattle.choice_step.specs.meaning.Follows.{GoesOut, IsLeastDeadline}
use Rattle.rank_check.specs.meaning.AcceptedPlans.{AreAccepted}
use Rattle.rank_check.specs.meaning.Ranked.{AreRanked}
use Rattle.enforce_types.specs.machine.TypedPolicies.{WorkTogether}
use Rattle.enforce_types.specs.meaning.PolicyRefusals.{Typed}
use Rattle.enforcer_core.specs.machine.Reach.{reach_of, WindowsAreOrdered, CountsFall, class_counts}

-- no pending deadline is after the time up to which something can be owed
abbrev pub DeadlinesAreWithinReach : Type 0
DeadlinesAreWithinReach =
    (ranks : List ℕ) (plans : List Plan) (pending : List Instance) (i : Instance) (deadline : ℕ)
    → Contains pending i → HasDeadline plans i deadline → deadline ≤ reach_of ranks plans pending

-- where the least deadline is served, each deadline after that step is later, and nothing is owed for longer than it
-- was
abbrev pub ServedDeadlinesFall : Type 0
ServedDeadlinesFall = (typed : Typed) (trace : List Step) (pending after : List Instance) (deadline : ℕ)
    (o : ActedStep) → WorkTogether typed → Pend typed.plans trace pending
    → IsLeastDeadline typed.plans pending deadline → GoesOut typed.plans trace Inserted deadline [] o
    → Pend typed.plans (trace ++ o.step ∷ []) after
    → NoneIsOver typed.plans after (deadline + 1)
    × (reach_of typed.ranked.ranks typed.plans after ≤ reach_of typed.ranked.ranks typed.plans pending)

-- where the least deadline is served after any trace, with whatever is pending in windows that are in order, each
-- deadline after that step is later, and nothing is owed for longer than it was
abbrev pub AnyDeadlinesFall : Type 0
AnyDeadlinesFall = (typed : Typed) (trace : List Step) (pending after : List Instance) (deadline : ℕ)
    (actions : List Action) (events : List Event) → WorkTogether typed → WindowsAreOrdered pending
    → IsLeastDeadline typed.plans pending deadline
    → Decides typed.plans trace pending true deadline [] actions events
    → PendingAfter typed.plans (trace_with_step trace deadline events) pending after
    → NoneIsOver typed.plans after (deadline + 1)
    × (reach_of typed.ranked.ranks typed.plans after ≤ reach_of typed.ranked.ranks typed.plans pending)

-- where the least deadline is served so, the counts of what is pending by class fall, even where intervals end at
-- once
abbrev pub AnyCountsFall : Type 0
AnyCountsFall = (typed : Typed) (trace : List Step) (pending after : List Instance) (deadline : ℕ)
    (actions : List Action) (events : List Event) → AreWellFormed typed.plans typed.guards
    → AreAccepted typed.plans → AreRanked typed.plans typed.ranked → WindowsAreOrdered pending
    → IsLeastDeadline typed.plans pending deadline
    → Decides typed.plans trace pending true deadline [] actions events
    → PendingAfter typed.plans (trace_with_step trace deadline events) pending after
    → CountsFall typed.ranked.ranks typed.plans pending after

-- where the least deadline is served after a trace, no deadline after that step is earlier, and the counts of what is
-- pending by class are lower, compared from the greatest class down
abbrev pub ServedCountsFall : Type 0
ServedCountsFall = (typed : Typed) (trace : List Step) (pending after : List Instance) (deadline : ℕ)
    (o : ActedStep) → WorkTogether typed → Pend typed.plans trace pending
    → IsLeastDeadline typed.plans pending deadline → GoesOut typed.plans trace Inserted deadline [] o
    → Pend typed.plans (trace ++ o.step ∷ []) after
    → NoneIsOver typed.plans after deadline
    × EntriesFall (class_counts typed.ranked.ranks typed.plans pending)
    (class_counts typed.ranked.ranks typed.plans after)

-- ---- the horizon

-- what is pending after a trace is owed within the horizon of its last time
abbrev pub ReachIsWithinHorizon : Type 0
ReachIsWithinHorizon =
    (typed : Typed) (trace : List Step) (pending : List Instance) (clock : ℕ) → WorkTogether typed
    → IsTrace trace → Pend typed.plans trace pending → last_time trace ≤ clock
    → reach_of typed.ranked.ranks typed.plans pending ≤ clock + typed.ranked.horizon

-- no window of what is pending after a trace ends too late
abbrev pub HighsAreNear : Type 0
HighsAreNear = (plans : List Plan) (guards : List (Formula × List VarId)) (trace : List Step)
    (pending : List Instance) (clock : ℕ) → AreWellFormed plans guards
    → IsTrace trace → Pend plans trace pending → last_time trace ≤ clock → clock ≤ most_time System
    → All (λ i. i.high ≤ most_time Inserted) pending

-- a step that no deadline is earlier than leaves none that is
abbrev pub NoneGoesOver : Type 0
NoneGoesOver = (typed : Typed) (trace : List Step) (step : Step) (before after : List Instance) → WorkTogether typed
    → PendingAfter typed.plans (trace ++ step ∷ []) before after → NoneIsOver typed.plans before step.time
    → NoneIsOver typed.plans after step.time

-- the windows of what is pending after a trace are in order
abbrev pub WindowsAreInOrder : Type 0
WindowsAreInOrder = (typed : Typed) (trace : List Step) (pending : List Instance) → WorkTogether typed
    → Pend typed.plans trace pending → WindowsAreOrdered pending

-- ---- whatever the guards say

-- where actions from no events serve the least deadline, each deadline of what the step leads on to is later, and
-- nothing is owed for longer than it was
abbrev pub LedDeadlinesFall : Type 0
LedDeadlinesFall = (typed : Typed) (pending after : List Instance) (deadline position : ℕ) (actions : List Action)
    (events : List Event) → WorkTogether typed → NoneIsOver typed.plans pending deadline
    → ActsFrom typed.plans [] actions events → AreAskedActions typed.plans pending [] actions
    → LeadsAt events deadline position typed.plans true pending after
    → NoneIsOver typed.plans after (deadline + 1)
    × (reach_of typed.ranked.ranks typed.plans after ≤ reach_of typed.ranked.ranks typed.plans pending)

-- a step that no deadline is earlier than leads on to none that is, and nothing is owed for longer than it was and than
-- the horizon of the step
abbrev pub LedStaysInReach : Type 0
LedStaysInReach = (typed : Typed) (pending after : List Instance) (time position : ℕ) (events : List Event)
    (inserted : Bool) → WorkTogether typed → NoneIsOver typed.plans pending time
    → LeadsAt events time position typed.plans inserted pending after
    → NoneIsOver typed.plans after time
    × ((most : ℕ) → reach_of typed.ranked.ranks typed.plans pending ≤ most
    → time + typed.ranked.horizon ≤ most
    → reach_of typed.ranked.ranks typed.plans after ≤ most)
