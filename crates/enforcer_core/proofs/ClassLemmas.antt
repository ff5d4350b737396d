-- Classes fall below a node, and after an event that triggers it.
use Rattle.enforcer_core.proofs.Vocabulary.{◌≡◌, ℕ, zero, suc, ◌+◌, ◌-◌, ◌*◌, ◌<◌, ◌≤◌, List, [], ◌∷◌, ◌++◌, length, map, get_or, Contains, Option, None, Some, length-append, refl, sym, ap, subst}
use Rattle.enforcer_core.proofs.Vocabulary.{arith, ⊎_elim, flat_map, option_or, Contains-append_left, Contains-append_right, mul-add-lt, mul-le, Contains-append, first_or_later, here, later}
use Rattle.enforcer_core.proofs.Vocabulary.{none_in_nil, Contains-from_map, Contains-map, NameId, caused_at, caused_below, nodes, Plan, CausePlan, SuppressPlan, Both, Either, TestOr, Guarded}
use Rattle.enforcer_core.proofs.Vocabulary.{EventuallyPlan, AlwaysPlan, UntilPlan, NextPlan, guard_triggers, IsRank, class_of, greatest, least_rank, least_with, rank_in, plan_size, EdgesRise, Edge}
use Rattle.enforcer_core.proofs.Vocabulary.{IsCauseNode, IsPath, IsStart, below, path_triggers}

-- ---- the greatest and the least of a list

pub greatest_is : (ns : List ℕ) (n : ℕ) → Contains ns n → n ≤ greatest ns
greatest_is [] n there = absurd (none_in_nil n there)
greatest_is (m ∷ ns) n there =
    ⊎_elim (λ (same : m ≡ n). omega (arith, same)) (λ more. let rest = greatest_is ns n more in omega (arith, rest)) (first_or_later n m ns there)

pub greatest_within : (ns : List ℕ) (most : ℕ) → ((n : ℕ) → Contains ns n → n ≤ most) → greatest ns ≤ most
greatest_within [] most each = omega arith
greatest_within (m ∷ ns) most each =
    let first = each m (here m ns) in
    let rest = greatest_within ns most (λ n there. each n (later n m ns there)) in omega (arith, first, rest)

greatest_at : (ns : List ℕ) (k : ℕ) → get_or ns k 0 ≤ greatest ns
greatest_at [] k = omega arith
greatest_at (n ∷ ns) zero = omega arith
greatest_at (n ∷ ns) (suc k) = let rest = greatest_at ns k in omega (arith, rest)

least_is : (above : ℕ) (ns : List ℕ) (n : ℕ) → Contains ns n → least_with above ns ≤ n
least_is above [] n there = absurd (none_in_nil n there)
least_is above (m ∷ ns) n there =
    ⊎_elim (λ (same : m ≡ n). omega (arith, same)) (λ more. let rest = least_is above ns n more in omega (arith, rest)) (first_or_later n m ns there)

least_within : (above : ℕ) (ns : List ℕ) → least_with above ns ≤ above
least_within above [] = omega arith
least_within above (m ∷ ns) = let rest = least_within above ns in omega (arith, rest)

least_from : (above least : ℕ) (ns : List ℕ) → least ≤ above → ((n : ℕ) → Contains ns n → least ≤ n)
    → least ≤ least_with above ns
least_from above least [] le each = le
least_from above least (m ∷ ns) le each =
    let first = each m (here m ns) in
    let rest = least_from above least ns le (λ n there. each n (later n m ns there)) in omega (arith, first, rest)

-- ---- what stands in a plan

-- what is in all lists joined is in one of them
pub from_flat : {X Y : Type 0} (f : X → List Y) (xs : List X) (y : Y) → Contains (flat_map f xs) y
    → (x : X) × Contains xs x × Contains (f x) y
from_flat f [] y there = absurd (none_in_nil y there)
from_flat f (x ∷ xs) y there =
    ⊎_elim (λ front. (x, here x xs, front)) (λ back. let o = from_flat f xs y back in (o.0, later o.0 x xs o.1, o.2))
    (Contains-append (f x) (flat_map f xs) y there)

pub in_flat : {X Y : Type 0} (f : X → List Y) (xs : List X) (x : X) (y : Y) → Contains xs x → Contains (f x) y
    → Contains (flat_map f xs) y
in_flat f [] x y there inside = absurd (none_in_nil x there)
in_flat f (z ∷ xs) x y there inside =
    ⊎_elim (λ (same : z ≡ x). Contains-append_left (f z) (flat_map f xs) y (subst (λ w. Contains (f w) y) (sym same) inside))
    (λ more. Contains-append_right (f z) (flat_map f xs) y (in_flat f xs x y more inside)) (first_or_later x z xs there)

in_one : (P : Plan → Type 0) (body : Plan) → P body → (next : Plan) → Contains (body ∷ []) next → P next
in_one P body is next there = ⊎_elim (λ same. subst P same is) (λ none. absurd (none_in_nil next none)) (first_or_later next body [] there)

in_two : (P : Plan → Type 0) (left right : Plan) → P left → P right → (next : Plan) → Contains (left ∷ right ∷ []) next → P next
in_two P left right is also next there =
    ⊎_elim (λ same. subst P same is) (λ more. in_one P right also next more) (first_or_later next left (right ∷ []) there)

-- what holds of a node, and of a plan where it holds of one directly below, holds of each plan with the node
module _ (P : Plan → Type 0) (end : Plan) (is : P end) (up : (plan next : Plan) → Contains (below plan) next → P next → P plan) where
  self : (plan : Plan) (rest : List Plan) → (Contains rest end → P plan) → Contains (plan ∷ rest) end → P plan
  self plan rest more there = ⊎_elim (λ same. subst P (sym same) is) more (first_or_later end plan rest there)

  sides : (plan left right : Plan) → Contains (below plan) left → Contains (below plan) right
      → (Contains (nodes left) end → P left) → (Contains (nodes right) end → P right)
      → Contains (plan ∷ nodes left ++ nodes right) end → P plan
  sides plan left right l r on_left on_right there = self plan (nodes left ++ nodes right) (λ more.
      ⊎_elim (λ front. up plan left l (on_left front)) (λ back. up plan right r (on_right back)) (Contains-append (nodes left) (nodes right) end more)) there

  one : (plan body : Plan) → Contains (below plan) body → (Contains (nodes body) end → P body)
      → Contains (plan ∷ nodes body) end → P plan
  one plan body b on_body there = self plan (nodes body) (λ more. up plan body b (on_body more)) there

  pub upward : (plan : Plan) → Contains (nodes plan) end → P plan
  upward (CausePlan n place name terms) there = self (CausePlan n place name terms) [] (λ none. absurd (none_in_nil end none)) there
  upward (SuppressPlan n place name terms) there = self (SuppressPlan n place name terms) [] (λ none. absurd (none_in_nil end none)) there
  upward (Both n l r) there = sides (Both n l r) l r (here l (r ∷ [])) (later r l (r ∷ []) (here r [])) (upward l) (upward r) there
  upward (Either n l r) there = sides (Either n l r) l r (here l (r ∷ [])) (later r l (r ∷ []) (here r [])) (upward l) (upward r) there
  upward (TestOr n guard test body) there = one (TestOr n guard test body) body (here body []) (upward body) there
  upward (Guarded n xs guard test body) there = one (Guarded n xs guard test body) body (here body []) (upward body) there
  upward (EventuallyPlan n place low high body) there = one (EventuallyPlan n place low high body) body (here body []) (upward body) there
  upward (AlwaysPlan n place low high body) there = one (AlwaysPlan n place low high body) body (here body []) (upward body) there
  upward (UntilPlan n place low high l r) there = sides (UntilPlan n place low high l r) l r (here l (r ∷ [])) (later r l (r ∷ []) (here r [])) (upward l) (upward r) there
  upward (NextPlan n place high body) there = one (NextPlan n place high body) body (here body []) (upward body) there

-- the nodes of a plan begin with it, and have those of each plan directly below
record Larger (plan next : Plan) : Type 0 where
  longer : plan_size next < plan_size plan
  has : (end : Plan) → Contains (nodes next) end → Contains (nodes plan) end

larger_one : (plan body : Plan) (next : Plan) → nodes plan ≡ plan ∷ nodes body → Contains (body ∷ []) next → Larger plan next
larger_one plan body next are at = in_one (Larger plan) body (record {
  longer = omega (arith, ap length are);
  has = λ end there. subst (λ (l : List Plan). Contains l end) (sym are) (later end plan (nodes body) there);
}) next at

larger_two : (plan left right : Plan) (next : Plan) → nodes plan ≡ plan ∷ nodes left ++ nodes right
    → Contains (left ∷ right ∷ []) next → Larger plan next
larger_two plan left right next are at = in_two (Larger plan) left right
    (record {
      longer = omega (arith, ap length are, length-append (nodes left) (nodes right));
      has = λ end there. subst (λ (l : List Plan). Contains l end) (sym are)
          (later end plan (nodes left ++ nodes right) (Contains-append_left (nodes left) (nodes right) end there));
    })
    (record {
      longer = omega (arith, ap length are, length-append (nodes left) (nodes right));
      has = λ end there. subst (λ (l : List Plan). Contains l end) (sym are)
          (later end plan (nodes left ++ nodes right) (Contains-append_right (nodes left) (nodes right) end there));
    }) next at

larger : (plan next : Plan) → Contains (below plan) next → Larger plan next
larger (CausePlan n place name terms) next at = absurd (none_in_nil next at)
larger (SuppressPlan n place name terms) next at = absurd (none_in_nil next at)
larger (Both n l r) next at = larger_two (Both n l r) l r next refl at
larger (Either n l r) next at = larger_two (Either n l r) l r next refl at
larger (TestOr n guard test body) next at = larger_one (TestOr n guard test body) body next refl at
larger (Guarded n xs guard test body) next at = larger_one (Guarded n xs guard test body) body next refl at
larger (EventuallyPlan n place low high body) next at = larger_one (EventuallyPlan n place low high body) body next refl at
larger (AlwaysPlan n place low high body) next at = larger_one (AlwaysPlan n place low high body) body next refl at
larger (UntilPlan n place low high l r) next at = larger_two (UntilPlan n place low high l r) l r next refl at
larger (NextPlan n place high body) next at = larger_one (NextPlan n place high body) body next refl at

pub self_in : (plan : Plan) → Contains (nodes plan) plan
self_in (CausePlan n place name terms) = here (CausePlan n place name terms) []
self_in (SuppressPlan n place name terms) = here (SuppressPlan n place name terms) []
self_in (Both n l r) = here (Both n l r) (nodes l ++ nodes r)
self_in (Either n l r) = here (Either n l r) (nodes l ++ nodes r)
self_in (TestOr n guard test body) = here (TestOr n guard test body) (nodes body)
self_in (Guarded n xs guard test body) = here (Guarded n xs guard test body) (nodes body)
self_in (EventuallyPlan n place low high body) = here (EventuallyPlan n place low high body) (nodes body)
self_in (AlwaysPlan n place low high body) = here (AlwaysPlan n place low high body) (nodes body)
self_in (UntilPlan n place low high l r) = here (UntilPlan n place low high l r) (nodes l ++ nodes r)
self_in (NextPlan n place high body) = here (NextPlan n place high body) (nodes body)

pub below_in : (plan next end : Plan) → Contains (below plan) next → Contains (nodes next) end → Contains (nodes plan) end
below_in plan next end at there = (larger plan next at).has end there

pub nodes_in : (plan node end : Plan) → Contains (nodes plan) node → Contains (nodes node) end → Contains (nodes plan) end
nodes_in plan node end there inside =
    upward (λ p. Contains (nodes p) end) node inside (λ p next at holds. (larger p next at).has end holds) plan there

size_in : (plan node : Plan) → Contains (nodes plan) node → plan_size node ≤ plan_size plan
size_in plan node there =
    upward (λ p. plan_size node ≤ plan_size p) node (omega arith) (λ p next at holds. let l = (larger p next at).longer in omega (arith, l, holds)) plan there

pub caused_in : (plan node : Plan) (name : NameId) → Contains (nodes plan) node → Contains (caused_below node) name
    → Contains (caused_below plan) name
caused_in plan node name there caused =
    let leaf = from_flat caused_at (nodes node) name caused in
    in_flat caused_at (nodes plan) leaf.0 name (nodes_in plan node leaf.0 there leaf.1) leaf.2

-- ---- paths

pub path_to : (plan end : Plan) → Contains (nodes plan) end → (path : List Plan) × IsPath plan path end
path_to plan end there =
    upward (λ p. (path : List Plan) × IsPath p path end) end ([], refl) (λ p next at rest. (p ∷ rest.0, (refl, next, at, rest.1))) plan there

paths_join : (path more : List Plan) (start node end : Plan) → IsPath start path node → IsPath node more end
    → IsPath start (path ++ more) end
paths_join [] more start node end same rest = subst (λ p. IsPath p more end) (sym same) rest
paths_join (p ∷ path) more start node end (same, next, at, first) rest = (same, next, at, paths_join path more next node end first rest)

triggers_stay : (path more : List Plan) (names : List NameId) → path_triggers path ≡ Some names
    → path_triggers (path ++ more) ≡ Some names
triggers_stay [] more names is = absurd (cc)
triggers_stay (node ∷ path) more names is = by (λ rest. triggers_stay path more names rest) (guard_triggers node) is
  where
    by : (path_triggers path ≡ Some names → path_triggers (path ++ more) ≡ Some names)
        → (g : Option (List NameId)) → option_or g (path_triggers path) ≡ Some names
        → option_or g (path_triggers (path ++ more)) ≡ Some names
    by again None rest = again rest
    by again (Some own) rest = rest

cause_is : (node : Plan) (name : NameId) → Contains (caused_at node) name → IsCauseNode node name
cause_is (CausePlan n place name terms) other there =
    ⊎_elim (λ same. same) (λ none. absurd (none_in_nil other none)) (first_or_later other name [] there)
cause_is (SuppressPlan n place name terms) other there = absurd (none_in_nil other there)
cause_is (Both n l r) other there = absurd (none_in_nil other there)
cause_is (Either n l r) other there = absurd (none_in_nil other there)
cause_is (TestOr n guard test body) other there = absurd (none_in_nil other there)
cause_is (Guarded n xs guard test body) other there = absurd (none_in_nil other there)
cause_is (EventuallyPlan n place low high body) other there = absurd (none_in_nil other there)
cause_is (AlwaysPlan n place low high body) other there = absurd (none_in_nil other there)
cause_is (UntilPlan n place low high l r) other there = absurd (none_in_nil other there)
cause_is (NextPlan n place high body) other there = absurd (none_in_nil other there)

-- ---- classes

-- a node after a trigger, in a plan of the policy
pub record IsBehind (plans : List Plan) (trigger : NameId) (node : Plan) : Type 0 where
  pub plan : Plan
  pub there : Contains plans plan
  pub start : Plan
  pub starts : IsStart plan start
  pub path : List Plan
  pub leads : IsPath start path node
  pub names : List NameId
  pub first : path_triggers path ≡ Some names
  pub has : Contains names trigger

edge_to : (plans : List Plan) (trigger : NameId) (node : Plan) (name : NameId) → IsBehind plans trigger node
    → Contains (caused_below node) name → Edge plans trigger name
edge_to plans trigger node name behind caused =
    let leaf = from_flat caused_at (nodes node) name caused in
    let rest = path_to node leaf.0 leaf.1 in (
      behind.plan,
      behind.there,
      behind.start,
      behind.starts,
      behind.path ++ rest.0,
      leaf.0,
      paths_join behind.path rest.0 behind.start node leaf.0 behind.leads rest.1,
      cause_is leaf.0 name leaf.2,
      behind.names,
      triggers_stay behind.path rest.0 behind.names behind.first,
      behind.has,
    )

lower_class : (above least other step plan_size size' : ℕ) → least < other → other ≤ above → size' < step
    → (above - other) * step + size' < (above - least) * step + plan_size
lower_class above least other step plan_size size' less within small =
    let apart : (above - other) * step + size' < step * (above - least) =
    mul-add-lt (above - other) step size' (above - least) (omega (arith, less, within)) small in
    omega (arith, apart)

smaller_class : (above least other step plan_size size' : ℕ) → least ≤ other → size' < plan_size
    → (above - other) * step + size' < (above - least) * step + plan_size
smaller_class above least other step plan_size size' less small =
    let one : (above - other) * step ≤ (above - least) * step = mul-le (above - other) step (above - least) step (omega (arith, less)) (omega arith) in
    omega (arith, one, small)

module _ (ranks : List ℕ) (plans : List Plan) where
  abbrev above : ℕ
  above = greatest ranks + 1

  abbrev pub least : Plan → ℕ
  least node = least_rank above ranks node

  rank_within : (name : NameId) → rank_in ranks name ≤ greatest ranks
  rank_within name = greatest_at ranks name.0

  -- an event of a name that is caused below a node is not ranked below it
  pub least_caused : (node : Plan) (name : NameId) → Contains (caused_below node) name → least node ≤ rank_in ranks name
  least_caused node name there =
      least_is above (map (rank_in ranks) (caused_below node)) (rank_in ranks name) (Contains-map (rank_in ranks) (caused_below node) name there)

  pub least_in : (plan node : Plan) → Contains (nodes plan) node → least plan ≤ least node
  least_in plan node there =
      least_from above (least plan) (map (rank_in ranks) (caused_below node)) (least_within above (map (rank_in ranks) (caused_below plan)))
      (λ rank among. let name = Contains-from_map (rank_in ranks) (caused_below node) rank among in
      subst (λ r. least plan ≤ r) name.2 (least_caused plan name.0 (caused_in plan node name.0 there name.1)))

  -- nor is what is caused after a trigger ranked as low as that
  pub least_behind : EdgesRise → ((name : NameId) → IsRank (Edge plans) name (rank_in ranks name)) → (trigger : NameId) (node : Plan)
      → IsBehind plans trigger node → rank_in ranks trigger < least node
  least_behind rise are trigger node behind =
      let from : suc (rank_in ranks trigger) ≤ least node =
      least_from above (suc (rank_in ranks trigger)) (map (rank_in ranks) (caused_below node)) (let r = rank_within trigger in omega (arith, r))
      (λ rank among. let name = Contains-from_map (rank_in ranks) (caused_below node) rank among in
      let less = rise plans trigger name.0 (rank_in ranks trigger) (rank_in ranks name.0) (edge_to plans trigger node name.0 behind name.1) (are trigger) (are name.0) in
      subst (λ r. suc (rank_in ranks trigger) ≤ r) name.2 (omega (arith, less))) in
      omega (arith, from)

  -- a node below another one
  pub class_below : (plan next node : Plan) → Contains (below plan) next → Contains (nodes next) node
      → class_of ranks plans node < class_of ranks plans plan
  class_below plan next node at there =
      let l = larger plan next at in
      let s = size_in next node there in
      smaller_class above (least plan) (least node) (greatest (map plan_size plans) + 1) (plan_size plan) (plan_size node)
      (least_in plan node (l.has node there)) (omega (arith, l.longer, s))

  -- and one whose causes are ranked higher
  pub class_higher : (node other plan : Plan) → least node < least other → Contains plans plan → Contains (nodes plan) other
      → class_of ranks plans other < class_of ranks plans node
  class_higher node other plan less among there =
      let s = size_in plan other there in
      let most = greatest_is (map plan_size plans) (plan_size plan) (Contains-map plan_size plans plan among) in
      lower_class above (least node) (least other) (greatest (map plan_size plans) + 1) (plan_size node) (plan_size other) less
      (least_within above (map (rank_in ranks) (caused_below other))) (omega (arith, s, most))
