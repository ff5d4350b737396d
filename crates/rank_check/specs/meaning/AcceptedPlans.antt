-- Which plans are accepted: chains between names, paths down a plan, and the transparent mark.
use Rattle.enf_data.specs.declared.events.NameId.{NameId}
use Rattle.std.specs.Prelude.{◌≡◌, ℕ, zero, suc, List, [], ◌∷◌, Contains, ◌⊎◌, Option, None, Bool, true, false, IsTrue}
use Rattle.std.specs.Prelude.{Some, slice_get, ◌&&◌, not}
use Rattle.std.specs.Option.{option_or}
use Rattle.plan_terms.specs.meaning.Plans.{nodes, has_future, Plan, CausePlan, Both, Either, TestOr, Guarded}
use Rattle.plan_terms.specs.meaning.Plans.{EventuallyPlan, AlwaysPlan, UntilPlan, NextPlan, guard_triggers}
use Rattle.plan_terms.specs.meaning.Plans.{NothingClashes}
use Rattle.std.specs.List.{list_all}

-- so many edges lead from the one name to the other
abbrev pub EdgesLead : (NameId → NameId → Type 0) → ℕ → NameId → NameId → Type 0
EdgesLead E zero from to = from ≡ to
EdgesLead E (suc k) from to = (before : NameId) × EdgesLead E k from before × E before to

-- a chain of at least one edge leads from the one name to the other
abbrev pub Reaches : (NameId → NameId → Type 0) → NameId → NameId → Type 0
Reaches E from to = (k : ℕ) × EdgesLead E (suc k) from to

-- a chain of edges returns to the name
abbrev pub IsOnCycle : (NameId → NameId → Type 0) → NameId → Type 0
IsOnCycle E name = Reaches E name name

-- ---- Paths down a plan, and from which events what is met on them follows.

-- the nodes directly below a node
abbrev pub below : Plan → List Plan
below (Both node left right) = left ∷ right ∷ []
below (Either node left right) = left ∷ right ∷ []
below (TestOr node guard test body) = body ∷ []
below (Guarded node xs guard test body) = body ∷ []
below (EventuallyPlan node place low high body) = body ∷ []
below (AlwaysPlan node place low high body) = body ∷ []
below (UntilPlan node place low high left right) = left ∷ right ∷ []
below (NextPlan node place high body) = body ∷ []
below plan = []

-- these nodes, each directly below the one before it, lead from the first node down to the last, which is not among
-- them
abbrev pub IsPath : Plan → List Plan → Plan → Type 0
IsPath start [] end = start ≡ end
IsPath start (node ∷ path) end = (start ≡ node) × (next : Plan) × Contains (below node) next × IsPath next path end

-- what a node begins anew at later positions: the body of `always`, and the left side of `until`
abbrev pub begun_later : Plan → List Plan
begun_later (AlwaysPlan node place low high body) = body ∷ []
begun_later (UntilPlan node place low high left right) = left ∷ []
begun_later plan = []

-- a path down a plan can start at the node: at the root, or where something begins anew
abbrev pub IsStart : Plan → Plan → Type 0
IsStart plan start = (plan ≡ start) ⊎ ((node : Plan) × Contains (nodes plan) node × Contains (begun_later node) start)

-- the triggers of the first guard on a path that has some
abbrev pub path_triggers : List Plan → Option (List NameId)
path_triggers [] = None
path_triggers (node ∷ path) = option_or (guard_triggers node) (path_triggers path)

-- whether a node needs a trigger: it causes an event, or owes something later
abbrev pub needs_trigger : Plan → Bool
needs_trigger (CausePlan node place name terms) = true
needs_trigger (EventuallyPlan node place low high body) = true
needs_trigger (UntilPlan node place low high left right) = true
needs_trigger (NextPlan node place high body) = true
needs_trigger plan = false

-- the node is met from some start of the plan before any trigger
abbrev pub IsUntriggered : Plan → Plan → Type 0
IsUntriggered plan node = IsTrue (needs_trigger node) × (start : Plan) × IsStart plan start
    × (path : List Plan) × IsPath start path node × (path_triggers path ≡ None)

-- the node causes an event of the name
abbrev pub IsCauseNode : Plan → NameId → Type 0
IsCauseNode (CausePlan node place name terms) caused = name ≡ caused
IsCauseNode plan caused = ⊥

-- an event of the second name is caused below a trigger of the first
abbrev pub Edge : List Plan → NameId → NameId → Type 0
Edge plans trigger caused = (plan : Plan) × Contains plans plan × (start : Plan) × IsStart plan start
    × (path : List Plan) × (node : Plan) × IsPath start path node × IsCauseNode node caused
    × (names : List NameId) × (path_triggers path ≡ Some names) × Contains names trigger

-- ---- Plans that are accepted, and the transparent mark.

-- the node with this number in the plan with this number is met before any trigger
pub record IsUntriggeredAt (plans : List Plan) (rule number : ℕ) (node : Plan) : Type 0 where
  pub plan : Plan
  pub plan_is : slice_get plans rule ≡ Some plan
  pub node_is : slice_get (nodes plan) number ≡ Some node
  pub untriggered : IsUntriggered plan node

-- no node that needs a trigger is met before any
abbrev pub AllIsTriggered : List Plan → Type 0
AllIsTriggered plans = (rule number : ℕ) (node : Plan) → IsUntriggeredAt plans rule number node → ⊥

abbrev pub IsAcyclic : List Plan → Type 0
IsAcyclic plans = (name : NameId) → IsOnCycle (Edge plans) name → ⊥

-- plans are accepted: no name is both caused and suppressed, each node that needs a trigger has one, and no name is
-- on a cycle
pub record AreAccepted (plans : List Plan) : Type 0 where
  pub roles : NothingClashes plans
  pub triggered : AllIsTriggered plans
  pub acyclic : IsAcyclic plans

-- at a node of transparent plans: not both sides of an Either look ahead, nor does the body of an Eventually or the
-- right side of an Until
abbrev pub is_transparent_at : Plan → Bool
is_transparent_at (Either node left right) = not (has_future left && has_future right)
is_transparent_at (EventuallyPlan node place low high body) = not (has_future body)
is_transparent_at (UntilPlan node place low high left right) = not (has_future right)
is_transparent_at plan = true

-- whether each node of each plan is one of transparent plans
abbrev pub is_transparent : List Plan → Bool
is_transparent plans = list_all (λ plan. list_all is_transparent_at (nodes plan)) plans
