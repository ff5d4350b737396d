-- What a step leaves pending of what was pending, whatever the guards say.
use Rattle.enf_data.specs.declared.events.Event.{Event}
use Rattle.std.specs.Prelude.{◌≡◌, ◌⊎◌, ℕ, Bool, true, false, List, Some, slice_get, Contains}
use Rattle.plan_terms.specs.meaning.Plans.{has_deadline, Plan}
use Rattle.obligations.specs.declared.instances.Instance.{Instance}
use Rattle.obligations.specs.declared.present_step.Now.{Now}
use Rattle.obligations.specs.machine.Parts.{HasPart}
use Rattle.obligations.specs.machine.TriggeredNodes.{IsBegunUnder}
use Rattle.obligations.specs.meaning.Pending.{AtNode, node_of}
use Rattle.obligations.specs.meaning.PendingBounds.{is_forced}

-- at a step at a time and a position, with these events: the instance is the one that waits, or is begun for it,
-- whatever the guards say
abbrev pub ComesAt : List Event → (time position : ℕ) → List Plan → (inserted : Bool)
    → Instance → Instance → Type 0
ComesAt events time position plans inserted i j = AtNode (node_of plans i) (λ node.
    ((i ≡ j) × (has_deadline node ≡ true → is_forced inserted time i ≡ false))
    ⊎ ((part : Plan) × HasPart node part × IsBegunUnder events time position i.rule part j))

-- the root of a rule begins the instance at the step, whatever the guards say
abbrev pub RootComesAt : List Event → (time position : ℕ) → List Plan → Instance → Type 0
RootComesAt events time position plans j = (rule : ℕ) × (plan : Plan) × (slice_get plans rule ≡ Some plan)
    × IsBegunUnder events time position rule plan j

-- what a step leaves pending of what was pending, whatever the guards say
abbrev pub LeadsAt : List Event → (time position : ℕ) → List Plan → (inserted : Bool)
    → (before after : List Instance)
    → Type 0
LeadsAt events time position plans inserted before after = (j : Instance) → Contains after j
    → ((i : Instance) × Contains before i × ComesAt events time position plans inserted i j)
    ⊎ RootComesAt events time position plans j

abbrev pub ComesOf : Now → List Plan → (inserted : Bool) → Instance → Instance → Type 0
ComesOf now = ComesAt now.ordered.now now.time now.position

abbrev pub ComesOfRoot : Now → List Plan → Instance → Type 0
ComesOfRoot now = RootComesAt now.ordered.now now.time now.position

abbrev pub NowLeads : Now → List Plan → (inserted : Bool) → (before after : List Instance) → Type 0
NowLeads now = LeadsAt now.ordered.now now.time now.position
