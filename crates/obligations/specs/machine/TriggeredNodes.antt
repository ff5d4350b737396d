-- Which nodes of a plan are reached at a step: those below guards that its events trigger.
use Rattle.enf_data.specs.declared.events.Event.{Event}
use Rattle.enf_data.specs.declared.events.NameId.{NameId}
use Rattle.enf_data.specs.declared.steps.Step.{Step}
use Rattle.enf_data.specs.meaning.Data.{step_at}
use Rattle.enf_data.specs.meaning.Valuations.{Valuation}
use Rattle.std.specs.Prelude.{Option, None, Some, List, Contains, ◌≡◌, ◌⊎◌, ℕ, ◌+◌}
use Rattle.enf_formula.specs.meaning.Satisfaction.{Formula, Sat}
use Rattle.plan_terms.specs.meaning.Plans.{Plan, CausePlan, SuppressPlan, Both, Either, TestOr, Guarded, EventuallyPlan}
use Rattle.plan_terms.specs.meaning.Plans.{AlwaysPlan, UntilPlan, NextPlan, triggers}
use Rattle.obligations.specs.declared.instances.Instance.{Instance}
use Rattle.obligations.specs.declared.literals.Literal.{Literal}
use Rattle.obligations.specs.machine.Leaves.{ChangesEvents, IsLeaf}
use Rattle.obligations.specs.meaning.Obligations.{time_now, last_position}

-- the formula holds nowhere at a step with these events, whatever the values and the steps before and after it
abbrev pub HoldsNowhere : List Event → Formula → Type 0
HoldsNowhere events f = (trace : List Step) (i : ℕ) (v : Valuation) → (step_at trace i).events ≡ events
    → Sat trace i v f → ⊥

-- the events of the last step
abbrev pub last_events : List Step → List Event
last_events trace = (step_at trace (last_position trace)).events

-- where there are names, one of the events has one of them
abbrev pub AreMetBy : List Event → Option (List NameId) → Type 0
AreMetBy events None = Unit {0}
AreMetBy events (Some names) = (event : Event) × Contains events event × Contains names event.name

-- the plan has the node, and the triggers of each guard above it are met
abbrev pub IsReachedBy : List Event → (plan end : Plan) → Type 0
IsReachedBy events (CausePlan node place name terms) end = CausePlan node place name terms ≡ end
IsReachedBy events (SuppressPlan node place name terms) end = SuppressPlan node place name terms ≡ end
IsReachedBy events (Both node left right) end =
    (Both node left right ≡ end) ⊎ (IsReachedBy events left end ⊎ IsReachedBy events right end)
IsReachedBy events (Either node left right) end =
    (Either node left right ≡ end) ⊎ (IsReachedBy events left end ⊎ IsReachedBy events right end)
IsReachedBy events (TestOr node guard test body) end =
    (TestOr node guard test body ≡ end) ⊎ IsReachedBy events body end
IsReachedBy events (Guarded node xs guard test body) end =
    (Guarded node xs guard test body ≡ end) ⊎ (AreMetBy events (triggers test) × IsReachedBy events body end)
IsReachedBy events (EventuallyPlan node place low high body) end =
    (EventuallyPlan node place low high body ≡ end) ⊎ IsReachedBy events body end
IsReachedBy events (AlwaysPlan node place low high body) end =
    (AlwaysPlan node place low high body ≡ end) ⊎ IsReachedBy events body end
IsReachedBy events (UntilPlan node place low high left right) end =
    (UntilPlan node place low high left right ≡ end) ⊎ (IsReachedBy events left end
    ⊎ IsReachedBy events right end)
IsReachedBy events (NextPlan node place high body) end =
    (NextPlan node place high body ≡ end) ⊎ IsReachedBy events body end

-- the plan has the node, and the triggers of each guard above it are met
abbrev pub IsReached : List Step → (plan end : Plan) → Type 0
IsReached trace = IsReachedBy (last_events trace)

-- the literal is that of a leaf that is reached, and it changes the events
abbrev pub IsMissedIn : List Step → Plan → Literal → Type 0
IsMissedIn trace plan literal = (leaf : Plan) × IsReached trace plan leaf
    × IsLeaf leaf literal.kind literal.leaf literal.event
    × ChangesEvents literal.kind literal.event (last_events trace)

-- an instance of the node that is begun at a position at a time, with a window that begins and ends so much later
abbrev pub begun_at : (time position rule node low high : ℕ) → Valuation → Instance
begun_at time position rule node low high v = record {
  rule = rule;
  node = node;
  valuation = v;
  origin = position;
  low = time + low;
  high = time + high;
}

-- the instance is one that an operator on the future itself begins there
abbrev pub IsBegunAt : (time position rule : ℕ) → Plan → Instance → Type 0
IsBegunAt time position rule (EventuallyPlan node place low high body) i =
    (v : Valuation) × (begun_at time position rule node low high v ≡ i)
IsBegunAt time position rule (AlwaysPlan node place low high body) i =
    (v : Valuation) × (begun_at time position rule node low high v ≡ i)
IsBegunAt time position rule (UntilPlan node place low high left right) i =
    (v : Valuation) × (begun_at time position rule node low high v ≡ i)
IsBegunAt time position rule (NextPlan node place high body) i =
    (v : Valuation) × (begun_at time position rule node 0 high v ≡ i)
IsBegunAt time position rule plan i = ⊥

-- the instance is one that an operator on the future itself begins at the last position
abbrev pub IsBegunBy : List Step → (rule : ℕ) → Plan → Instance → Type 0
IsBegunBy trace = IsBegunAt (time_now trace) (last_position trace)

-- the instance is begun by an operator of the plan that is reached at the last position
abbrev pub IsBegunIn : List Step → (rule : ℕ) → Plan → Instance → Type 0
IsBegunIn trace rule plan i = (node : Plan) × IsReached trace plan node × IsBegunBy trace rule node i

-- the instance is begun by an operator of the plan that is reached at a step with these events
abbrev pub IsBegunUnder : List Event → (time position rule : ℕ) → Plan → Instance → Type 0
IsBegunUnder events time position rule plan i =
    (node : Plan) × IsReachedBy events plan node × IsBegunAt time position rule node i
