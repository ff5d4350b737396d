-- One walk over a plan: which nodes it meets without a trigger, and which events below which triggers.
use Rattle.enf_data.specs.declared.events.NameId.{NameId}
use Rattle.std.specs.Option.{option_or}
use Rattle.std.specs.Prelude.{Bool, false, List, Option, None, Some, true, ◌++◌, [], ◌∷◌, ℕ, ◌≡◌}
use Rattle.std.specs.Prelude.{◌⊎◌, Contains}
use Rattle.plan_terms.specs.meaning.Plans.{Plan, CausePlan, SuppressPlan, Both, Either, TestOr, Guarded, EventuallyPlan}
use Rattle.plan_terms.specs.meaning.Plans.{AlwaysPlan, UntilPlan, NextPlan, triggers}

-- whether the last start is still without triggers after a guard with these
abbrev pub bare_behind : Bool → Option (List NameId) → Bool
bare_behind bare None = bare
bare_behind bare (Some names) = false

-- the triggers of all starts after it
abbrev pub met_behind : Bool → List NameId → Option (List NameId) → List NameId
met_behind bare met None = met
met_behind true met (Some names) = met ++ names
met_behind false met (Some names) = met

-- the nodes of a plan in pre-order, each with whether the last start before it is without triggers there; it is so at
-- the root of the plan, or not
abbrev pub visits : (bare : Bool) → Plan → List (Plan × Bool)
visits bare (CausePlan node place name terms) = (CausePlan node place name terms, bare) ∷ []
visits bare (SuppressPlan node place name terms) = (SuppressPlan node place name terms, bare) ∷ []
visits bare (Both node left right) = (Both node left right, bare) ∷ visits bare left ++ visits bare right
visits bare (Either node left right) = (Either node left right, bare) ∷ visits bare left ++ visits bare right
visits bare (TestOr node guard test body) = (TestOr node guard test body, bare) ∷ visits bare body
visits bare (Guarded node xs guard test body) =
    (Guarded node xs guard test body, bare) ∷ visits (bare_behind bare (triggers test)) body
visits bare (EventuallyPlan node place low high body) = (EventuallyPlan node place low high body, bare) ∷ visits bare
    body
visits bare (AlwaysPlan node place low high body) = (AlwaysPlan node place low high body, bare) ∷ visits true body
visits bare (UntilPlan node place low high left right) =
    (UntilPlan node place low high left right, bare) ∷ visits true left ++ visits bare right
visits bare (NextPlan node place high body) = (NextPlan node place high body, bare) ∷ visits bare body

-- the place of a node that needs a trigger
abbrev pub place_needing : Plan → Option ℕ
place_needing (CausePlan node place name terms) = Some place
place_needing (EventuallyPlan node place low high body) = Some place
place_needing (UntilPlan node place low high left right) = Some place
place_needing (NextPlan node place high body) = Some place
place_needing plan = None

-- the place of a node that needs a trigger and has none
abbrev pub bare_place : Plan × Bool → Option ℕ
bare_place (node, true) = place_needing node
bare_place (node, false) = None

-- the first of these places
abbrev pub first_place : List (Plan × Bool) → Option ℕ
first_place [] = None
first_place (visit ∷ visits) = option_or (bare_place visit) (first_place visits)

-- where the last start before a plan is without triggers or not, and the starts before it have met these: an event of
-- the second name is caused in the plan below a trigger of the first
abbrev pub Causes : (bare : Bool) → (met : List NameId) → Plan → NameId → NameId → Type 0
Causes bare met (CausePlan node place name terms) from to = Contains met from × (name ≡ to)
Causes bare met (SuppressPlan node place name terms) from to = ⊥
Causes bare met (Both node left right) from to = Causes bare met left from to ⊎ Causes bare met right from to
Causes bare met (Either node left right) from to = Causes bare met left from to ⊎ Causes bare met right from to
Causes bare met (TestOr node guard test body) from to = Causes bare met body from to
Causes bare met (Guarded node xs guard test body) from to =
    Causes (bare_behind bare (triggers test)) (met_behind bare met (triggers test)) body from to
Causes bare met (EventuallyPlan node place low high body) from to = Causes bare met body from to
Causes bare met (AlwaysPlan node place low high body) from to = Causes true met body from to
Causes bare met (UntilPlan node place low high left right) from to =
    Causes true met left from to ⊎ Causes bare met right from to
Causes bare met (NextPlan node place high body) from to = Causes bare met body from to
