-- Rounds of the choice loop, in which the tables of the past are made once.
use Rattle.enf_data.specs.declared.events.Event.{Event}
use Rattle.enf_data.specs.declared.events.NameId.{NameId}
use Rattle.std.specs.Prelude.{◌≡◌, ◌<◌, ◌+◌, ℕ, List, [], ◌∷◌, None, length, slice_get}
use Rattle.obligations.specs.declared.actions.Action.{Action}
use Rattle.obligations.specs.declared.literals.LiteralKind.{LiteralKind}
use Rattle.obligations.specs.declared.literals.LiteralKind.TheVariants.{Cause, Suppress}
use Rattle.obligations.specs.machine.FreshGuards.{HaveSameFreshEvents}
use Rattle.pending.specs.machine.AskedEntries.{AskingList, RousesAsking}
use Rattle.past_state.specs.machine.Past.{AreTablesAtStep, GuardsWillHold, PastTables}
use Rattle.choice_step.specs.declared.first_missing.Next.{Next}
use Rattle.choice_step.specs.declared.first_missing.Next.TheVariants as next
use Rattle.choice_step.specs.declared.situation.Situation.{Situation}
use Rattle.choice_step.specs.machine.RuleTriggers.{HasNoneOf}
use Rattle.choice_step.specs.machine.Situations.{SituationFinds}
use Rattle.choice_step.specs.machine.StillToAsk.{FirstRootsAreMet, InstancesAreMet, WillHold}

-- nothing is missing, and the tables are those of the events
pub record EndsWith (situation : Situation) (events : List Event) (tables : PastTables) : Type 0 where
  pub nothing : SituationFinds situation events None
  pub are : AreTablesAtStep situation.past.now situation.time events tables
  pub hold : GuardsWillHold situation.past.now situation.time events tables

-- the events wake none of the rules after one
abbrev pub NoneIsWoken : Situation → List Event → (rule : ℕ) → Type 0
NoneIsWoken situation events rule = (other : ℕ) → rule < other → other < length situation.plans.now
    → HasNoneOf (slice_get situation.wakes.now other) events

-- it is for the root that was asked last, and the step wakes no rule after it
abbrev pub IsForLast : Situation → List Event → (from : ℕ) → Next → Type 0
IsForLast situation events from (next.ActFor missed) = (missed.rule ≡ from) × NoneIsWoken situation events from
IsForLast situation events from found = ⊥

-- ---- what a round changes

-- where a step has the same events as the given ones but for stale names, it has them after it
abbrev pub GoesStale : (names stale : List NameId) → (events : List Event) → (more : List NameId) → (after : List Event)
    → Type 0
GoesStale names stale events more after = (given : List Event) → HaveSameFreshEvents stale names given events
    → HaveSameFreshEvents more names given after

-- no pending instance misses anything, and no root up to that of the rule
abbrev pub IsMetAfter : Situation → List Event → (rule : ℕ) → Type 0
IsMetAfter situation events rule = WillHold situation events (InstancesAreMet situation)
    × WillHold situation events (FirstRootsAreMet situation (rule + 1))

-- the events that actions added, in their order
abbrev pub caused_first : LiteralKind → Event → List Event → List Event
caused_first Cause event events = event ∷ events
caused_first Suppress event events = events

abbrev pub events_caused : List Action → List Event
events_caused [] = []
events_caused (action ∷ actions) = caused_first action.kind action.event (events_caused actions)

-- those are to be asked, one event after another, whom they wake
abbrev pub RousesEach : List Event → (before after : AskingList) → Type 0
RousesEach [] before after = after ≡ before
RousesEach (event ∷ events) before after = (between : AskingList) × RousesAsking event before between
    × RousesEach events between after
