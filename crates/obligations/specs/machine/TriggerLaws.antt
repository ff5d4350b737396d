-- That what is missed and begun at a step is below guards that are triggered there, and nothing is of a plan that no
-- event wakes.
use Rattle.enf_data.specs.declared.events.Event.{Event}
use Rattle.enf_data.specs.declared.steps.Step.{Step}
use Rattle.enf_data.specs.declared.terms.VarId.{VarId}
use Rattle.enf_data.specs.meaning.Valuations.{Valuation}
use Rattle.std.specs.Prelude.{List, [], Contains, ℕ, ◌≡◌, Some}
use Rattle.enf_formula.specs.meaning.Satisfaction.{Formula}
use Rattle.plan_terms.specs.machine.NamedNodes.{StandsIn}
use Rattle.plan_terms.specs.machine.WakingNames.{waking_names}
use Rattle.plan_terms.specs.meaning.Plans.{nodes, Plan}
use Rattle.obligations.specs.declared.instances.Instance.{Instance}
use Rattle.obligations.specs.declared.literals.Literal.{Literal}
use Rattle.obligations.specs.machine.AskablePlans.{CanAskPlan}
use Rattle.obligations.specs.machine.TriggeredNodes.{IsMissedIn, IsBegunIn, IsReachedBy, IsBegunAt, AreMetBy}
use Rattle.obligations.specs.machine.TriggeredNodes.{last_events}
use Rattle.obligations.specs.meaning.Obligations.{Begun, Missing}
use Rattle.obligations.specs.meaning.Pending.{node_of}

-- ---- laws

-- what a plan misses is that of a leaf that is reached
abbrev pub MissedIsReached : Type 0
MissedIsReached = (trace : List Step) (plan : Plan) (v : Valuation) (literals : List Literal) (literal : Literal)
    → Missing trace plan v literals → Contains literals literal → IsMissedIn trace plan literal

-- what a plan begins is that of an operator that is reached
abbrev pub BegunIsReached : Type 0
BegunIsReached = (trace : List Step) (rule : ℕ) (plan : Plan) (v : Valuation) (begun : List Instance) (i : Instance)
    → Begun trace rule plan v begun → Contains begun i → IsBegunIn trace rule plan i

-- a node that is reached is one of the plan's, and the instance that it begins names it
abbrev pub ReachedIsInside : Type 0
ReachedIsInside =
    (events : List Event) (plan node : Plan) → IsReachedBy events plan node → Contains (nodes plan) node

abbrev pub BegunIsNamed : Type 0
BegunIsNamed = (plans : List Plan) (events : List Event) (time position rule : ℕ) (plan node : Plan) (i : Instance)
    → StandsIn plans rule plan → IsReachedBy events plan node → IsBegunAt time position rule node i
    → (i.rule ≡ rule) × (node_of plans i ≡ Some node)

-- where no event wakes it, a plan that can be asked misses nothing
abbrev pub UnwokenMissesNothing : Type 0
UnwokenMissesNothing = (guards : List (Formula × List VarId)) (trace : List Step) (plan : Plan) (v : Valuation)
    → CanAskPlan guards plan v → (AreMetBy (last_events trace) (waking_names plan) → ⊥) → Missing trace plan v []

-- and it begins nothing
abbrev pub UnwokenBeginsNothing : Type 0
UnwokenBeginsNothing = (guards : List (Formula × List VarId)) (trace : List Step) (rule : ℕ) (plan : Plan)
    (v : Valuation) → CanAskPlan guards plan v → (AreMetBy (last_events trace) (waking_names plan) → ⊥)
    → Begun trace rule plan v []
