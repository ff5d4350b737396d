-- The nodes of a plan.
use Rattle.plan_terms.proofs.Vocabulary.{[], ◌++◌, Contains, ◌≡◌, Some, refl, ℕ, List, length, get_or, map, ◌<◌, ap, ◌∙◌, ◌∷◌, subst, ⊎_elim, slice_get-map, slice_get_read, Contains-append_left}
use Rattle.plan_terms.proofs.Vocabulary.{Contains-append_right, nodes, Plan, CausePlan, SuppressPlan, Both, Either, TestOr, Guarded, EventuallyPlan, AlwaysPlan, UntilPlan, NextPlan, plan_of, here}
use Rattle.plan_terms.proofs.Vocabulary.{first_or_later, none_in_nil, later}
use Rattle.std.proofs.Common.{slice_get, option_map}
use Rattle.plan_terms.specs.declared.plans.Plan.{Plan as Stored}

-- a plan is the first of its nodes
pub itself : (plan : Plan) → Contains (nodes plan) plan
itself (CausePlan node place name terms) = here (CausePlan node place name terms) []
itself (SuppressPlan node place name terms) = here (SuppressPlan node place name terms) []
itself (Both node left right) = here (Both node left right) (nodes left ++ nodes right)
itself (Either node left right) = here (Either node left right) (nodes left ++ nodes right)
itself (TestOr node guard test body) = here (TestOr node guard test body) (nodes body)
itself (Guarded node xs guard test body) = here (Guarded node xs guard test body) (nodes body)
itself (EventuallyPlan node place low high body) = here (EventuallyPlan node place low high body) (nodes body)
itself (AlwaysPlan node place low high body) = here (AlwaysPlan node place low high body) (nodes body)
itself (UntilPlan node place low high left right) = here (UntilPlan node place low high left right) (nodes left ++ nodes right)
itself (NextPlan node place high body) = here (NextPlan node place high body) (nodes body)

pub first_node : (plan : Plan) → slice_get (nodes plan) 0 ≡ Some plan
first_node (CausePlan node place name terms) = refl
first_node (SuppressPlan node place name terms) = refl
first_node (Both node left right) = refl
first_node (Either node left right) = refl
first_node (TestOr node guard test body) = refl
first_node (Guarded node xs guard test body) = refl
first_node (EventuallyPlan node place low high body) = refl
first_node (AlwaysPlan node place low high body) = refl
first_node (UntilPlan node place low high left right) = refl
first_node (NextPlan node place high body) = refl

-- the tree of the plan at a place
pub plan_at : (plans : List Stored) (i : ℕ) (plan : Stored) → i < length plans → plan ≡ get_or plans i plan → slice_get (map plan_of plans) i ≡ Some (plan_of plan)
plan_at plans i plan inside is = slice_get-map plan_of plans i ∙ ap (option_map plan_of) (slice_get_read plans _ i plan refl inside is)

pub in_one : (P : Plan → Type 0) (body : Plan) → P body → (next : Plan) → Contains (body ∷ []) next → P next
in_one P body is next there = ⊎_elim (λ same. subst P same is) (λ none. absurd (none_in_nil next none)) (first_or_later next body [] there)

pub in_two : (P : Plan → Type 0) (left right : Plan) → P left → P right → (next : Plan) → Contains (left ∷ right ∷ []) next → P next
in_two P left right is also next there =
    ⊎_elim (λ same. subst P same is) (λ more. in_one P right also next more) (first_or_later next left (right ∷ []) there)

pub from_one : (plan body next node : Plan) → Contains (body ∷ []) next → Contains (nodes next) node → Contains (plan ∷ nodes body) node
from_one plan body next node at there = later node plan (nodes body) (in_one (λ p. Contains (nodes p) node → Contains (nodes body) node) body (λ is. is) next at there)

pub from_two : (plan left right next node : Plan) → Contains (left ∷ right ∷ []) next → Contains (nodes next) node → Contains (plan ∷ nodes left ++ nodes right) node
from_two plan left right next node at there =
    later node plan (nodes left ++ nodes right) (in_two (λ p. Contains (nodes p) node → Contains (nodes left ++ nodes right) node) left right
    (λ is. Contains-append_left (nodes left) (nodes right) node is) (λ is. Contains-append_right (nodes left) (nodes right) node is) next at there)
