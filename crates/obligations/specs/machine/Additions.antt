-- What is put last in a list of what is missing or begun, whatever trace the step stands for.
use Rattle.enf_data.specs.declared.steps.Step.{Step}
use Rattle.std.specs.List.{AllByRecursion}
use Rattle.std.specs.Prelude.{◌≡◌, ◌+◌, List, ◌++◌, ◌⊎◌, Contains, ℕ}
use Rattle.plan_terms.specs.machine.NamedNodes.{StandsIn}
use Rattle.plan_terms.specs.meaning.Plans.{Plan}
use Rattle.obligations.specs.machine.FreshGuards.{guards_now}
use Rattle.obligations.specs.declared.instances.Instance.{Instance}
use Rattle.obligations.specs.declared.present_step.Now.{Now}
use Rattle.obligations.specs.machine.AskablePlans.{CanAskOf}
use Rattle.obligations.specs.machine.PresentStep.{IsNowOf}
use Rattle.obligations.specs.machine.TriggeredNodes.{IsBegunUnder}

-- just a list that has the property of each trace for which the step stands was put last
pub record AddsList {X : Type 0} (now : Now) (P : List Step → List X → Type 0) (before after : List X) : Type 0
  where
    pub more : List X
    pub grown : after ≡ before ++ more
    pub are : (trace : List Step) → IsNowOf now trace → P trace more

-- each item that was put last has the property
abbrev pub AddsOf : {X : Type 0} → (X → Type 0) → (before after : List X) → Type 0
AddsOf {X} P before after = (x : X) → Contains after x → Contains before x ⊎ P x

-- the plan of a rule begins the instance at the step, by an operator below guards that are triggered there
abbrev pub IsBegunHere : Now → (rule : ℕ) → Plan → Instance → Type 0
IsBegunHere now = IsBegunUnder now.ordered.now now.time now.position

-- instances that the plan begins were put last, which can be asked where the plan stands in that of its rule
pub record AddsAsked (now : Now) (rule : ℕ) (plan : Plan) (P : List Step → List Instance → Type 0)
    (before after : List Instance) : Type 0 where
  pub adds : AddsList now P before after
  pub asked : (plans : List Plan) → StandsIn plans rule plan
      → AllByRecursion (CanAskOf (guards_now now) plans) adds.more
  pub begun : AllByRecursion (IsBegunHere now rule plan) adds.more
