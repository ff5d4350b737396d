-- Who is still to be asked at a step, and what is known of the others.
use Rattle.enf_data.specs.declared.events.Event.{Event}
use Rattle.enf_data.specs.declared.events.NameId.{NameId}
use Rattle.enf_data.specs.declared.steps.Step.{Step}
use Rattle.enf_data.specs.meaning.Valuations.{no_values}
use Rattle.std.specs.List.{AllByRecursion}
use Rattle.std.specs.Prelude.{◌≡◌, ◌⊎◌, ◌<◌, ◌≤◌, ℕ, Bool, List, [], None, Some, Contains, drop, length, map, slice_get}
use Rattle.std.specs.Prelude.{take}
use Rattle.trace_meaning.specs.meaning.Traces.{last_time}
use Rattle.sleepers.specs.declared.entries.Entry.{Entry}
use Rattle.plan_terms.specs.meaning.Plans.{nodes, Plan}
use Rattle.past_state.specs.machine.Past.{AreTablesAtStep, GuardsWillHold, PastStands, guard_names}
use Rattle.past_state.specs.machine.ValueSources.{AreKnown}
use Rattle.obligations.specs.declared.actions.Action.{Action}
use Rattle.obligations.specs.declared.instances.Instance.{Instance}
use Rattle.obligations.specs.declared.literals.Literal.{Literal}
use Rattle.obligations.specs.declared.literals.LiteralKind.{LiteralKind}
use Rattle.obligations.specs.declared.literals.LiteralKind.TheVariants.{Cause}
use Rattle.obligations.specs.declared.present_step.Now.{Now}
use Rattle.obligations.specs.machine.FreshGuards.{HaveSameFreshEvents}
use Rattle.obligations.specs.machine.Leaves.{ChangesEvents}
use Rattle.obligations.specs.machine.MovedPlans.{IgnoresIn, IsUnmovedIn, IsUnmovedOf, LeavesRestIn}
use Rattle.obligations.specs.machine.PlanClasses.{IsPlain}
use Rattle.obligations.specs.machine.UnreadNames.{AreThoseWith, IsStillWanted}
use Rattle.obligations.specs.meaning.Obligations.{Missing}
use Rattle.pending.specs.machine.AskedEntries.{AskingList, IsAskingAt}
use Rattle.pending.specs.machine.Moments.{step_moment}
use Rattle.pending.specs.machine.PendingEntries.{all_listed}
use Rattle.choice_step.specs.declared.first_missing.Missed.{Missed}
use Rattle.choice_step.specs.declared.first_missing.Next.{Next}
use Rattle.choice_step.specs.declared.first_missing.Next.TheVariants as next
use Rattle.choice_step.specs.declared.situation.Situation.{Situation}
use Rattle.choice_step.specs.declared.unasked.Unasked.{Unasked}
use Rattle.choice_step.specs.machine.Situations.{SituationFinds, situation_plans}
use Rattle.choice_step.specs.machine.WantedActions.{AreLiteralsBehind, IsWantedFrom}
use Rattle.choice_step.specs.meaning.Choice.{MissesNothing, Root, Waiting, roots_from, trace_with_step}

-- it holds at a step with these events after each trace for which the past state stands
abbrev pub WillHold : Situation → List Event → (List Step → Type 0) → Type 0
WillHold situation events P = (trace : List Step) → PastStands trace situation.past.now
    → length trace ≡ situation.position → last_time trace ≤ situation.time
    → P (trace_with_step trace situation.time events)

-- ---- who is still to be asked

-- each pending instance is still to be asked, or misses nothing, and sleeps where the step has the events that were
-- told, or was asked
abbrev pub InstancesAreMetBut : Situation → (told : List Event) → AskingList → List Step → Type 0
InstancesAreMetBut situation told asking trace =
    IsAskingAt (λ i. MissesNothing (situation_plans situation) situation.inserted trace (Waiting i)) told
    (step_moment situation.inserted situation.time) asking

-- the events of a step are such as were told, and those that later actions added
abbrev pub AreToldBut : (events told : List Event) → (later : List Action) → Type 0
AreToldBut events told later = (event : Event) → Contains events event
    → Contains told event ⊎ ((action : Action) × Contains later action × (action.kind ≡ Cause) × (action.event ≡ event))

pub record IsAskingIn (situation : Situation) (events told : List Event) (asking : AskingList) : Type 0 where
  pub all : all_listed asking.all ≡ situation.pending.now.listed
  pub but : WillHold situation events (InstancesAreMetBut situation told asking)

-- so many of the first roots miss nothing
abbrev pub RootsAreMet : List Plan → (inserted : Bool) → List Step → (rules : ℕ) → Type 0
RootsAreMet plans inserted trace rules =
    AllByRecursion (MissesNothing plans inserted trace) (roots_from 0 (take rules plans))

-- so they do in a situation
abbrev pub FirstRootsAreMet : Situation → (rules : ℕ) → List Step → Type 0
FirstRootsAreMet situation rules trace = RootsAreMet (situation_plans situation) situation.inserted trace rules

-- and no pending instance misses anything
abbrev pub InstancesAreMet : Situation → List Step → Type 0
InstancesAreMet situation trace = AllByRecursion (MissesNothing (situation_plans situation) situation.inserted trace)
    (map Waiting situation.pending.now.instances)

-- each root below one misses nothing, but those that are to be asked again
abbrev pub RootsAreMetBut : Situation → (from : ℕ) → (again : List ℕ) → List Step → Type 0
RootsAreMetBut situation from again trace = (rule : ℕ) (plan : Plan)
    → slice_get (situation_plans situation) rule ≡ Some plan → rule < from
    → Contains again rule ⊎ MissesNothing (situation_plans situation) situation.inserted trace (Root rule plan)

-- at a step with these events none misses anything but those still to be asked; those that sleep know of those events
pub record IsUnasked (situation : Situation) (events told : List Event) (unasked : Unasked) : Type 0 where
  pub asking : IsAskingIn situation events told unasked.asking
  pub roots : WillHold situation events (RootsAreMetBut situation unasked.from unasked.again.items)

-- so it is after these actions, of which the later ones are still to be told
pub record IsUnaskedAt (situation : Situation) (events : List Event) (actions : List Action) (unasked : Unasked)
    : Type 0 where
  pub told : List Event
  pub are : AreToldBut events told (drop unasked.roused actions)
  pub within : unasked.roused ≤ length actions
  pub is : IsUnasked situation events told unasked

-- ---- what is done next

-- a step with the order and the tables of one that has the same events, but for stale names and such as no guard looks
-- for
pub record IsNowOfSituation (situation : Situation) (now : Now) : Type 0 where
  pub time : now.time ≡ situation.time
  pub position : now.position ≡ situation.position
  pub are : AreTablesAtStep situation.past.now situation.time now.ordered.now now.tables.now
  pub hold : GuardsWillHold situation.past.now situation.time now.ordered.now now.tables.now
  pub known : AreKnown situation.past.now now.ordered.now now.tables.now
  pub same : HaveSameFreshEvents now.stale.now (guard_names situation.past.now.guards) now.ordered.now now.events.now

-- the action is for the first that misses something, with values that were known where the step had the given events
pub record IsFoundIn (situation : Situation) (given events : List Event) (action : Action) : Type 0 where
  pub finds : SituationFinds situation events (Some action)
  pub wanted : IsWantedFrom (situation_plans situation) situation.pending.now.instances situation.past.now given events
      action

-- of some literals those are missing at the root of a plan that are still wanted
abbrev pub IsLeftOf : Plan → List Literal → List Step → Type 0
IsLeftOf plan literals trace = (left : List Literal) × AreThoseWith (IsStillWanted trace) literals left
    × Missing trace plan no_values left

-- nobody before the root of the rule misses anything, and the root those of the literals that are still wanted, where
-- the values of these were known where the step had the given events
pub record IsMissedAtRoot (situation : Situation) (given events : List Event) (rule : ℕ)
    (literals : List Literal) : Type 0 where
  pub plan : Plan
  pub there : slice_get (situation_plans situation) rule ≡ Some plan
  pub plain : AllByRecursion IsPlain (nodes plan)
  pub are : AreLiteralsBehind (situation_plans situation) situation.pending.now.instances situation.past.now given
      literals
  pub instances : WillHold situation events (InstancesAreMet situation)
  pub roots : WillHold situation events (FirstRootsAreMet situation rule)
  pub left : WillHold situation events (IsLeftOf plan literals)

-- an event that is to be caused is absent, and one that is to be suppressed there
abbrev pub AreWanted : List Event → List Literal → Type 0
AreWanted events = AllByRecursion (λ literal. ChangesEvents literal.kind literal.event events)

-- it is for the first that misses something; or some name is stale; or this holds
abbrev pub IsNextFor : Situation → (given events : List Event) → (stale : List NameId) → (done : Type 0) → Next → Type 0
IsNextFor situation given events stale done (next.Act action) = IsFoundIn situation given events action.value
IsNextFor situation given events stale done (next.ActFor missed) =
    (0 < length missed.literals.items) × AreWanted events missed.literals.items
    × IsMissedAtRoot situation given events missed.rule missed.literals.items
IsNextFor situation given events stale done next.Renew = 0 < length stale
IsNextFor situation given events stale done next.Done = done

-- there is something to be done
abbrev pub IsForSome : Next → Type 0
IsForSome next.Renew = ⊥
IsForSome next.Done = ⊥
IsForSome found = Unit {0}

-- it is for the first that misses something, as the step is asked
abbrev pub IsNextAt : Situation → Now → (done : Type 0) → Next → Type 0
IsNextAt situation now done found = IsNextFor situation now.ordered.now now.events.now now.stale.now done found

-- where it is for a root without choices, it is that of the rule
abbrev pub IsNextOf : (rule : ℕ) → Next → Type 0
IsNextOf rule (next.ActFor missed) = missed.rule ≡ rule
IsNextOf rule found = Unit {0}

-- and there none that is pending is to be asked, and no rule before it
abbrev pub IsFirstNext : Unasked → Next → Type 0
IsFirstNext unasked (next.ActFor missed) = (unasked.asking.ahead ≡ []) × (missed.rule ≤ unasked.from)
IsFirstNext unasked found = Unit {0}

-- it is not for a root without choices
abbrev pub IsOfInstance : Next → Type 0
IsOfInstance (next.ActFor missed) = ⊥
IsOfInstance found = Unit {0}

-- the root of the rule misses nothing
abbrev pub RootIsMet : Situation → List Event → (rule : ℕ) → Type 0
RootIsMet situation events rule = (plan : Plan) → slice_get (situation_plans situation) rule ≡ Some plan
    → WillHold situation events (λ trace. Missing trace plan no_values [])

-- nothing is missing, and no name is stale
abbrev pub IsDecidedAt : Situation → (events : List Event) → (stale : List NameId) → Type 0
IsDecidedAt situation events stale = (stale ≡ []) × SituationFinds situation events None

-- ---- roots that are asked again

-- no guard or test of the plan of the rule looks for one of the names
abbrev pub RootIgnoresAll : Situation → (rule : ℕ) → List NameId → Type 0
RootIgnoresAll situation rule names = (plan : Plan) → slice_get (situation_plans situation) rule ≡ Some plan
    → (name : NameId) → Contains names name → IgnoresIn name plan

-- nobody before the root of the rule misses anything, and it misses these, which are some
pub record IsMissedFirst (situation : Situation) (events : List Event) (rule : ℕ) (literals : List Literal) : Type 0
  where
    pub some : 0 < length literals
    pub wanted : AreWanted events literals
    pub missed : IsMissedAtRoot situation events events rule literals

-- the root of the rule misses nothing; or what it misses is told; or it was not asked
abbrev pub IsAskedAlone : Situation → List Event → (rule : ℕ) → Next → Type 0
IsAskedAlone situation events rule (next.ActFor missed) =
    (missed.rule ≡ rule) × IsMissedFirst situation events missed.rule missed.literals.items
IsAskedAlone situation events rule next.Done = RootIsMet situation events rule
IsAskedAlone situation events rule found = Unit {0}

-- it is so of the root that is the first to be asked, where nobody is pending to be asked
pub record IsMissedAgain (situation : Situation) (events : List Event) (unasked : Unasked) (missed : Missed) : Type 0
  where
    pub first : IsMissedFirst situation events missed.rule missed.literals.items
    pub none : unasked.asking.ahead ≡ []
    pub within : missed.rule ≤ unasked.from

-- ---- what an action moves

-- of the roots below one those are to be asked again that an action on the name may move
abbrev pub AsksMovedAgain : Situation → LiteralKind → NameId → (from : ℕ) → (again : List ℕ) → Type 0
AsksMovedAgain situation kind name from again = (rule : ℕ) (plan : Plan)
    → slice_get (situation_plans situation) rule ≡ Some plan → rule < from
    → Contains again rule ⊎ IsUnmovedIn kind name plan

-- after an action on the name the root of the rule misses the rest of what it missed
abbrev pub RootLeavesRest : Situation → LiteralKind → NameId → (rule : ℕ) → Type 0
RootLeavesRest situation kind name rule = (plan : Plan) → slice_get (situation_plans situation) rule ≡ Some plan
    → LeavesRestIn kind name plan

-- the first of those that were to be asked are such as an action on the name does not move, and count as asked
pub record PassesUnmoved (plans : List Plan) (kind : LiteralKind) (name : NameId) (before after : AskingList) : Type 0
  where
    pub all : after.all ≡ before.all
    pub ahead : (x : Entry Instance) → Contains before.ahead x
        → Contains after.ahead x ⊎ (Contains after.asked x × IsUnmovedOf plans kind name x.item)
    pub asked : (x : Entry Instance) → Contains before.asked x → Contains after.asked x

-- no guard looks for the name; or the root of the rule misses the rest of what it missed, nobody is pending to be
-- asked, and no root before it
abbrev pub LeavesOthers : Situation → LiteralKind → NameId → (rule : ℕ) → Unasked → Type 0
LeavesOthers situation kind name rule unasked =
    (Contains (guard_names situation.past.now.guards) name → ⊥)
    ⊎ (RootLeavesRest situation kind name rule × (unasked.asking.ahead ≡ [])
    × ((other : ℕ) → Contains unasked.again.items other → rule ≤ other))

-- the name is stale too, if it is one of those
pub record Spoils (names : List NameId) (name : NameId) (before after : List NameId) : Type 0 where
  pub kept : (other : NameId) → Contains before other → Contains after other
  pub has : Contains names name → Contains after name
