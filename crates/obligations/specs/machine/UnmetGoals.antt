-- Goals that were not met where their window was open from the beginning.
use Rattle.enf_data.specs.declared.steps.Step.{Step}
use Rattle.enf_data.specs.meaning.Data.{IsTrace}
use Rattle.std.specs.List.{AllByRecursion}
use Rattle.std.specs.Prelude.{◌≡◌, ◌<◌, ◌≤◌, List, Some, length, zero}
use Rattle.trace_meaning.specs.meaning.Traces.{last_time}
use Rattle.plan_terms.specs.meaning.Plans.{EventuallyPlan, Plan, UntilPlan}
use Rattle.obligations.specs.declared.instances.Instance.{Instance}
use Rattle.obligations.specs.machine.PlanClasses.{PlansStand}
use Rattle.obligations.specs.meaning.Obligations.{LacksSome}
use Rattle.obligations.specs.meaning.Pending.{Pend, node_of}

-- at the last position, up to the end of its window, an instance lacked something of its goal
pub record IsUnmetGoal (trace : List Step) (goal : Plan) (i : Instance) : Type 0 where
  pub some : 0 < length trace
  pub lacks : last_time trace ≤ i.high → LacksSome trace goal i.valuation

-- so did one of the node, where that has a goal and a window that begins with it
abbrev pub IsUnmetAt : List Step → Plan → Instance → Type 0
IsUnmetAt trace (EventuallyPlan node place zero high body) i = IsUnmetGoal trace body i
IsUnmetAt trace (UntilPlan node place zero high left right) i = IsUnmetGoal trace right i
IsUnmetAt trace node i = Unit {0}

abbrev pub IsUnmetOf : List Plan → List Step → Instance → Type 0
IsUnmetOf plans trace i = (node : Plan) → node_of plans i ≡ Some node → IsUnmetAt trace node i

abbrev pub AreUnmet : List Plan → List Step → List Instance → Type 0
AreUnmet plans trace = AllByRecursion (IsUnmetOf plans trace)

-- the goals of what is pending after a trace were not met at its last position: else nothing waited for them
abbrev pub PendAreUnmet : Type 0
PendAreUnmet = (plans : List Plan) (trace : List Step) (pending : List Instance) → PlansStand plans → IsTrace trace
    → Pend plans trace pending → AreUnmet plans trace pending
