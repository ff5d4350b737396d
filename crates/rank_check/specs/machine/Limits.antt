-- The limits within which plans are checked.
use Rattle.enf_data.specs.declared.events.NameId.{NameId}
use Rattle.enf_data.specs.declared.limits.TheConstants.{MOST_NAMES}
use Rattle.std.specs.List.{flat_map, AllByRecursion}
use Rattle.std.specs.Prelude.{◌≡◌, ℕ, ◌<◌, List, Some, Contains, ◌≤◌}
use Rattle.plan_terms.specs.meaning.Plans.{nodes, Plan, guard_triggers}
use Rattle.plan_terms.specs.machine.WellFormed.{EndsInTime, IsSmallPlan}
use Rattle.rank_check.specs.machine.Roles.{AreNamesBelow}

-- the names that trigger guards are among the first so many
abbrev pub AreTriggersBelow : ℕ → List Plan → Type 0
AreTriggersBelow most plans = (node : Plan) (names : List NameId) (name : NameId)
    → Contains (flat_map nodes plans) node → guard_triggers node ≡ Some names
    → Contains names name → name.0 < most

-- plans over the first so many names, within the limits of policies: no plan has too many nodes, and each interval ends
-- in time
pub record ArePlansWithinLimits (names : ℕ) (plans : List Plan) : Type 0 where
  pub few_names : names ≤ MOST_NAMES
  pub small : AllByRecursion IsSmallPlan plans
  pub ends : AllByRecursion EndsInTime (flat_map nodes plans)
  pub changed : AreNamesBelow names plans
  pub triggers : AreTriggersBelow names plans
