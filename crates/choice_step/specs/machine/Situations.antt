-- What is said of a situation: a step at which it is asked who misses something.
use Rattle.enf_data.specs.declared.events.Event.{Event}
use Rattle.std.specs.Prelude.{List, map, ◌≡◌, Option}
use Rattle.plan_terms.specs.machine.StoredPlans.{plan_of}
use Rattle.plan_terms.specs.machine.WakingNames.{waking_names}
use Rattle.plan_terms.specs.meaning.Plans.{Plan}
use Rattle.obligations.specs.declared.actions.Action.{Action}
use Rattle.choice_step.specs.declared.situation.Situation.{Situation}
use Rattle.choice_step.specs.machine.FirstActions.{WillFind}
use Rattle.choice_step.specs.machine.LoopActions.{GoesFrom}
use Rattle.choice_step.specs.machine.StepChoices.{CanDecide, StepSituation, step_situation}

abbrev pub situation_plans : Situation → List Plan
situation_plans situation = map plan_of situation.plans.now

-- a situation as a step that is to be decided
abbrev pub step_of_situation : Situation → StepSituation
step_of_situation situation = step_situation situation.plans.now situation.pending.now situation.past.now situation.time
    situation.position situation.inserted

-- the step can be decided, and what wakes the rules is that of their plans
pub record CanDecideSituation (situation : Situation) : Type 0 where
  pub wakes : situation.wakes.now ≡ map waking_names (situation_plans situation)
  pub step : CanDecide (step_of_situation situation)

abbrev pub SituationFinds : Situation → List Event → Option Action → Type 0
SituationFinds situation events found = WillFind (situation_plans situation) situation.pending.now.instances
    situation.past.now
    situation.inserted situation.time situation.position events found

abbrev pub SituationLeads : Situation → (given before : List Event) → List Action → (after : List Event)
    → List Action
    → Type 0
SituationLeads situation given before actions after all = GoesFrom (situation_plans situation)
    situation.pending.now.instances
    situation.past.now situation.inserted situation.time situation.position given before actions after all
