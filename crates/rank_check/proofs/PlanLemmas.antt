-- Induction over plans by what stands directly below a node, and what that says of nodes and paths.
use Rattle.rank_check.proofs.Vocabulary.{◌≡◌, ◌⊎◌, List, [], ◌∷◌, ◌++◌, Option, None, Some, Contains, refl, sym, subst, ◌∙◌, inl, inr, ⊎_elim, Contains-append_cases, option_or, here, later}
use Rattle.rank_check.proofs.Vocabulary.{first_or_later, none_in_nil, NameId, nodes, Plan, CausePlan, SuppressPlan, Both, Either, TestOr, Guarded, EventuallyPlan, AlwaysPlan, UntilPlan, NextPlan}
use Rattle.rank_check.proofs.Vocabulary.{guard_triggers, below, path_triggers, IsPath, itself as root, in_one, in_two, from_one, from_two}

-- what holds of a plan where it holds of each plan directly below
pub by_below : (P : Plan → Type 0) → ((plan : Plan) → ((next : Plan) → Contains (below plan) next → P next) → P plan) → (plan : Plan) → P plan
by_below P step (CausePlan node place name terms) = step (CausePlan node place name terms) (λ next there. absurd (none_in_nil next there))
by_below P step (SuppressPlan node place name terms) = step (SuppressPlan node place name terms) (λ next there. absurd (none_in_nil next there))
by_below P step (Both node left right) = step (Both node left right) (in_two P left right (by_below P step left) (by_below P step right))
by_below P step (Either node left right) = step (Either node left right) (in_two P left right (by_below P step left) (by_below P step right))
by_below P step (TestOr node guard test body) = step (TestOr node guard test body) (in_one P body (by_below P step body))
by_below P step (Guarded node xs guard test body) = step (Guarded node xs guard test body) (in_one P body (by_below P step body))
by_below P step (EventuallyPlan node place low high body) = step (EventuallyPlan node place low high body) (in_one P body (by_below P step body))
by_below P step (AlwaysPlan node place low high body) = step (AlwaysPlan node place low high body) (in_one P body (by_below P step body))
by_below P step (UntilPlan node place low high left right) = step (UntilPlan node place low high left right) (in_two P left right (by_below P step left) (by_below P step right))
by_below P step (NextPlan node place high body) = step (NextPlan node place high body) (in_one P body (by_below P step body))

-- a node of a plan is the plan or stands in one directly below
abbrev pub Within : Plan → Plan → Type 0
Within plan node = (plan ≡ node) ⊎ ((next : Plan) × Contains (below plan) next × Contains (nodes next) node)

at_one : (plan body node : Plan) → Contains (plan ∷ nodes body) node → (plan ≡ node) ⊎ ((next : Plan) × Contains (body ∷ []) next × Contains (nodes next) node)
at_one plan body node there = ⊎_elim (λ same. inl same) (λ more. inr (body, here body [], more)) (first_or_later node plan (nodes body) there)

at_two : (plan left right node : Plan) → Contains (plan ∷ nodes left ++ nodes right) node → (plan ≡ node) ⊎ ((next : Plan) × Contains (left ∷ right ∷ []) next × Contains (nodes next) node)
at_two plan left right node there =
    ⊎_elim (λ same. inl same) (λ more.
    ⊎_elim (λ is. inr (left, here left (right ∷ []), is)) (λ is. inr (right, later right left (right ∷ []) (here right []), is)) (Contains-append_cases (nodes left) (nodes right) node more))
    (first_or_later node plan (nodes left ++ nodes right) there)

pub within : (plan node : Plan) → Contains (nodes plan) node → Within plan node
within (CausePlan n place name terms) node there = ⊎_elim (λ same. inl same) (λ none. absurd (none_in_nil node none)) (first_or_later node (CausePlan n place name terms) [] there)
within (SuppressPlan n place name terms) node there = ⊎_elim (λ same. inl same) (λ none. absurd (none_in_nil node none)) (first_or_later node (SuppressPlan n place name terms) [] there)
within (Both n left right) node there = at_two (Both n left right) left right node there
within (Either n left right) node there = at_two (Either n left right) left right node there
within (TestOr n guard test body) node there = at_one (TestOr n guard test body) body node there
within (Guarded n xs guard test body) node there = at_one (Guarded n xs guard test body) body node there
within (EventuallyPlan n place low high body) node there = at_one (EventuallyPlan n place low high body) body node there
within (AlwaysPlan n place low high body) node there = at_one (AlwaysPlan n place low high body) body node there
within (UntilPlan n place low high left right) node there = at_two (UntilPlan n place low high left right) left right node there
within (NextPlan n place high body) node there = at_one (NextPlan n place high body) body node there

-- what stands in a plan directly below stands in the plan
pub deeper : (plan next node : Plan) → Contains (below plan) next → Contains (nodes next) node → Contains (nodes plan) node
deeper (CausePlan n place name terms) next node at there = absurd (none_in_nil next at)
deeper (SuppressPlan n place name terms) next node at there = absurd (none_in_nil next at)
deeper (Both n left right) next node at there = from_two (Both n left right) left right next node at there
deeper (Either n left right) next node at there = from_two (Either n left right) left right next node at there
deeper (TestOr n guard test body) next node at there = from_one (TestOr n guard test body) body next node at there
deeper (Guarded n xs guard test body) next node at there = from_one (Guarded n xs guard test body) body next node at there
deeper (EventuallyPlan n place low high body) next node at there = from_one (EventuallyPlan n place low high body) body next node at there
deeper (AlwaysPlan n place low high body) next node at there = from_one (AlwaysPlan n place low high body) body next node at there
deeper (UntilPlan n place low high left right) next node at there = from_two (UntilPlan n place low high left right) left right next node at there
deeper (NextPlan n place high body) next node at there = from_one (NextPlan n place high body) body next node at there

-- nodes of nodes, starts and the ends of paths are nodes
pub nodes_in : (node plan end : Plan) → Contains (nodes plan) node → Contains (nodes node) end → Contains (nodes plan) end
nodes_in node plan end there inside = by_below (λ p. Contains (nodes p) node → Contains (nodes p) end) (λ p each at.
    ⊎_elim (λ (same : p ≡ node). subst (λ q. Contains (nodes q) end) (sym same) inside) (λ deep. deeper p deep.0 end deep.1 (each deep.0 deep.1 deep.2)) (within p node at)) plan there

pub end_in : (path : List Plan) (start end : Plan) → IsPath start path end → Contains (nodes start) end
end_in [] start end is = subst (λ p. Contains (nodes start) p) is (root start)
end_in (node ∷ path) start end is =
    subst (λ p. Contains (nodes p) end) (sym is.0) (deeper node is.1 end is.2 (end_in path is.1 end is.3))

pub guard_in : (path : List Plan) (start end : Plan) (names : List NameId) → IsPath start path end → path_triggers path ≡ Some names → (node : Plan) × Contains (nodes start) node
    × (guard_triggers node ≡ Some names)
guard_in [] start end names is has = absurd (cc)
guard_in (node ∷ path) start end names is has = by (guard_triggers node) refl has (guard_in path is.1 end names is.3)
  where
    by : (g : Option (List NameId)) → guard_triggers node ≡ g → option_or g (path_triggers path) ≡ Some names
        → (path_triggers path ≡ Some names → (n : Plan) × Contains (nodes is.1) n × (guard_triggers n ≡ Some names)) → (n : Plan) × Contains (nodes start) n
        × (guard_triggers n ≡ Some names)
    by (Some xs) own first rest = (node, subst (λ p. Contains (nodes p) node) (sym is.0) (root node), own ∙ first)
    by None own first rest =
        let below_it = rest first in
        (below_it.0, subst (λ p. Contains (nodes p) below_it.0) (sym is.0) (deeper node is.1 below_it.0 is.2 below_it.1), below_it.2)
