-- Which plans are refused, and why.
use Rattle.enf_data.specs.declared.events.NameId.{NameId}
use Rattle.std.specs.Prelude.{◌≤◌, ◌≡◌, ◌⊎◌, ℕ, ◌<◌, List}
use Rattle.plan_terms.specs.meaning.Plans.{Clashes, NothingClashes, Plan, CausePlan, EventuallyPlan, UntilPlan}
use Rattle.plan_terms.specs.meaning.Plans.{NextPlan}
use Rattle.rank_check.specs.declared.rank_answers.RankRefusal.{RankRefusal}
use Rattle.rank_check.specs.declared.rank_answers.RankRefusal.TheVariants.{RoleClash, Untriggered, Cyclic, NoMemory}
use Rattle.rank_check.specs.meaning.AcceptedPlans.{IsUntriggeredAt, AllIsTriggered, IsOnCycle, Edge}

-- the first name in the order of declaration that has the property
pub record IsFirstName (P : NameId → Type 0) (name : NameId) : Type 0 where
  pub has : P name
  pub first : (other : NameId) → P other → name.0 ≤ other.0

-- the node is the first, by plans and then by nodes, that is met before any trigger
pub record IsFirstUntriggered (plans : List Plan) (rule number : ℕ) (node : Plan) : Type 0 where
  pub untriggered : IsUntriggeredAt plans rule number node
  pub first : (other place : ℕ) (late : Plan) → IsUntriggeredAt plans other place late
      → (rule < other) ⊎ ((rule ≡ other) × (number ≤ place))

-- the place that a node keeps
abbrev pub IsPlaceOf : ℕ → Plan → Type 0
IsPlaceOf at (CausePlan node place name terms) = at ≡ place
IsPlaceOf at (EventuallyPlan node place low high body) = at ≡ place
IsPlaceOf at (UntilPlan node place low high left right) = at ≡ place
IsPlaceOf at (NextPlan node place high body) = at ≡ place
IsPlaceOf at plan = ⊥

-- the place of the first node that is met before any trigger
abbrev pub IsFirstPlace : List Plan → ℕ → Type 0
IsFirstPlace plans at = (rule : ℕ) × (number : ℕ) × (node : Plan) × IsFirstUntriggered plans rule number node
    × IsPlaceOf at node

-- when plans are refused with this answer; each comes where those before it do not. Running out of memory refuses any
abbrev pub RefusesPlans : List Plan → RankRefusal → Type 0
RefusesPlans plans (RoleClash name) = IsFirstName (Clashes plans) name
RefusesPlans plans (Untriggered at) = NothingClashes plans × IsFirstPlace plans at
RefusesPlans plans (Cyclic name) = NothingClashes plans × AllIsTriggered plans
    × IsFirstName (IsOnCycle (Edge plans)) name
RefusesPlans plans NoMemory = Unit {0}
