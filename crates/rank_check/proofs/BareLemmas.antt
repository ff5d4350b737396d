-- The first place that a walk finds is that of the first node that is met before any trigger.
use Rattle.rank_check.proofs.Vocabulary.{◌≡◌, ℕ, zero, suc, ◌+◌, ◌<◌, ◌≤◌, Bool, true, false, IsTrue, List, [], ◌∷◌, ◌++◌, Option, None, Some, length, map, refl, sym, ap, subst, inl, inr, ⊎_elim}
use Rattle.rank_check.proofs.Vocabulary.{arith, ◌∙◌, slice_get, AllByRecursion, option_or, option_map, cases_lt, map-append, slice_get-map, slice_get_read, slice_get_within, there_from_get, nodes}
use Rattle.rank_check.proofs.Vocabulary.{node_number, Plan, CausePlan, SuppressPlan, Both, Either, TestOr, Guarded, EventuallyPlan, AlwaysPlan, UntilPlan, NextPlan, triggers, IsNumberedPlan}
use Rattle.rank_check.proofs.Vocabulary.{needs_trigger, IsUntriggered, AllIsTriggered, IsPlaceOf, IsFirstPlace, bare_behind, visits, place_needing, bare_place, first_place}
use Rattle.rank_check.proofs.VisitLemmas.{untriggered_if_bare, bare_if_untriggered}

abbrev Visit : Type 0
Visit = Plan × Bool

-- the first of two lists
pub first_of_both : (xs ys : List Visit) → first_place (xs ++ ys) ≡ option_or (first_place xs) (first_place ys)
first_of_both [] ys = refl
first_of_both (x ∷ xs) ys = by (bare_place x) (first_place (xs ++ ys)) (first_place xs) (first_place ys) (first_of_both xs ys)
  where
    by : (o a b c : Option ℕ) → a ≡ option_or b c → option_or o a ≡ option_or (option_or o b) c
    by None a b c is = is
    by (Some n) a b c is = refl

needs : (node : Plan) (at : ℕ) → place_needing node ≡ Some at → IsTrue (needs_trigger node) × IsPlaceOf at node
needs (CausePlan n place name terms) at is = (refl, cc)
needs (EventuallyPlan n place low high body) at is = (refl, cc)
needs (UntilPlan n place low high l r) at is = (refl, cc)
needs (NextPlan n place high body) at is = (refl, cc)
needs plan at is = absurd (cc)

needing : (node : Plan) → IsTrue (needs_trigger node) → place_needing node ≡ None → ⊥
needing (CausePlan n place name terms) is none = cc
needing (EventuallyPlan n place low high body) is none = cc
needing (UntilPlan n place low high l r) is none = cc
needing (NextPlan n place high body) is none = cc
needing plan is none = cc

-- a bare node that needs a trigger stands so far on
abbrev IsBareAt : List Visit → ℕ → Plan → Type 0
IsBareAt vs k node = (slice_get vs k ≡ Some (node, true)) × IsTrue (needs_trigger node)

record First (vs : List Visit) (at : ℕ) : Type 0 where
  place : ℕ
  node : Plan
  bare : IsBareAt vs place node
  keeps : IsPlaceOf at node
  first : (k : ℕ) (late : Plan) → IsBareAt vs k late → place ≤ k

no_bare : (vs : List Visit) → first_place vs ≡ None → (k : ℕ) (node : Plan) → IsBareAt vs k node → ⊥
no_bare [] none k node bare = cc
no_bare (v ∷ vs) none zero node bare =
    let is : v ≡ (node, true) = cc in
    needing node bare.1 (subst (λ (w : Visit). bare_place w ≡ None) is (by (bare_place v) (first_place vs) none))
  where
    by : (a b : Option ℕ) → option_or a b ≡ None → a ≡ None
    by None b e = refl
    by (Some n) b e = absurd (cc)
no_bare (v ∷ vs) none (suc k) node bare = no_bare vs (by (bare_place v) (first_place vs) none) k node bare
  where
    by : (a b : Option ℕ) → option_or a b ≡ None → b ≡ None
    by None b e = e
    by (Some n) b e = absurd (cc)

-- after a visit that is not the first bare one
behind : (v : Visit) (vs : List Visit) (at : ℕ) → bare_place v ≡ None → First vs at → First (v ∷ vs) at
behind v vs at none rest = record {
  place = suc rest.place;
  node = rest.node;
  bare = rest.bare;
  keeps = rest.keeps;
  first = later;
}
  where
    later : (k : ℕ) (late : Plan) → IsBareAt (v ∷ vs) k late → suc rest.place ≤ k
    later zero late bare =
        let is : v ≡ (late, true) = cc in
        absurd (needing late bare.1 (subst (λ (w : Visit). bare_place w ≡ None) is none))
    later (suc k) late bare = omega (arith, rest.first k late bare)

at_first : (v : Visit) (vs : List Visit) (at : ℕ) → bare_place v ≡ Some at → First (v ∷ vs) at
at_first (node, true) vs at is = record {
  place = 0;
  node = node;
  bare = (refl, (needs node at is).0);
  keeps = (needs node at is).1;
  first = λ k late bare. omega arith;
}
at_first (node, false) vs at is = absurd (cc)

first_bare : (vs : List Visit) (at : ℕ) → first_place vs ≡ Some at → First vs at
first_bare [] at is = absurd (cc)
first_bare (v ∷ vs) at is = by (bare_place v) refl is (first_bare vs at)
  where
    by : (o : Option ℕ) → bare_place v ≡ o → option_or o (first_place vs) ≡ Some at → (first_place vs ≡ Some at → First vs at) → First (v ∷ vs) at
    by (Some n) here found rest = at_first v vs at (here ∙ found)
    by None here found rest = behind v vs at here (rest found)

-- the nodes visited are those of the plan
abbrev node_of : Visit → Plan
node_of v = v.0

visited : (bare : Bool) (plan : Plan) → map node_of (visits bare plan) ≡ nodes plan
visited bare (CausePlan n place name terms) = refl
visited bare (SuppressPlan n place name terms) = refl
visited bare (Both n l r) = let a = visited bare l in let b = visited bare r in let c = map-append node_of (visits bare l) (visits bare r) in cc
visited bare (Either n l r) = let a = visited bare l in let b = visited bare r in let c = map-append node_of (visits bare l) (visits bare r) in cc
visited bare (TestOr n guard test body) = ap (λ (l : List Plan). TestOr n guard test body ∷ l) (visited bare body)
visited bare (Guarded n xs guard test body) = ap (λ (l : List Plan). Guarded n xs guard test body ∷ l) (visited (bare_behind bare (triggers test)) body)
visited bare (EventuallyPlan n place low high body) = ap (λ (l : List Plan). EventuallyPlan n place low high body ∷ l) (visited bare body)
visited bare (AlwaysPlan n place low high body) = ap (λ (l : List Plan). AlwaysPlan n place low high body ∷ l) (visited true body)
visited bare (UntilPlan n place low high l r) = let a = visited true l in let b = visited bare r in let c = map-append node_of (visits true l) (visits bare r) in cc
visited bare (NextPlan n place high body) = ap (λ (l : List Plan). NextPlan n place high body ∷ l) (visited bare body)

node_at : (plan node : Plan) (k : ℕ) (o : Bool) → slice_get (visits true plan) k ≡ Some (node, o) → slice_get (nodes plan) k ≡ Some node
node_at plan node k o is =
    subst (λ (l : List Plan). slice_get l k ≡ Some node) (visited true plan) (slice_get-map node_of (visits true plan) k ∙ ap (option_map node_of) is)

-- an untriggered node is visited bare
visit_at : (plan node : Plan) → IsUntriggered plan node → (k : ℕ) × (slice_get (visits true plan) k ≡ Some (node, true))
visit_at plan node is =
    let there = bare_if_untriggered plan node is in
    (there.0, slice_get_read (visits true plan) _ there.0 (node, true) refl there.1 (sym there.2))

-- in a plan
pub none_in_plan : (plan : Plan) → first_place (visits true plan) ≡ None → (node : Plan) → IsUntriggered plan node → ⊥
none_in_plan plan none node is = let at = visit_at plan node is in no_bare (visits true plan) none at.0 node (at.1, is.0)

pub record FirstIn (plan : Plan) (at : ℕ) : Type 0 where
  pub number : ℕ
  pub node : Plan
  pub there : slice_get (nodes plan) number ≡ Some node
  pub untriggered : IsUntriggered plan node
  pub keeps : IsPlaceOf at node
  pub first : (place : ℕ) (late : Plan) → slice_get (nodes plan) place ≡ Some late → IsUntriggered plan late → number ≤ place

pub first_in_plan : (plan : Plan) (at : ℕ) → IsNumberedPlan plan → first_place (visits true plan) ≡ Some at → FirstIn plan at
first_in_plan plan at numbered is =
    let found = first_bare (visits true plan) at is in
    record {
      number = found.place;
      node = found.node;
      there = node_at plan found.node found.place true found.bare.0;
      untriggered = untriggered_if_bare plan found.node (there_from_get (visits true plan) found.place (found.node, true) found.bare.0) found.bare.1;
      keeps = found.keeps;
      first = λ place late there untriggered.
          let at = visit_at plan late untriggered in
          let one : node_number late ≡ at.0 = numbered at.0 late (node_at plan late at.0 true at.1) in
          let other : node_number late ≡ place = numbered place late there in
          omega (arith, found.first at.0 late (at.1, untriggered.0), one, other);
    }

-- over the plans of a policy
numbered_at : (plans : List Plan) (rule : ℕ) (plan : Plan) → AllByRecursion IsNumberedPlan plans → slice_get plans rule ≡ Some plan → IsNumberedPlan plan
numbered_at [] rule plan all is = absurd (cc)
numbered_at (p ∷ plans) zero plan all is = let same : p ≡ plan = cc in subst IsNumberedPlan same all.0
numbered_at (p ∷ plans) (suc rule) plan all is = numbered_at plans rule plan all.1 is

-- nothing is bare in the first so many
abbrev pub NoneBefore : List Plan → ℕ → Type 0
NoneBefore plans most =
    (rule : ℕ) (plan : Plan) → rule < most → slice_get plans rule ≡ Some plan → first_place (visits true plan) ≡ None

pub one_more : (plans : List Plan) (most : ℕ) (plan : Plan) → NoneBefore plans most → slice_get plans most ≡ Some plan → first_place (visits true plan) ≡ None → NoneBefore plans (most + 1)
one_more plans most plan none is here rule other below there =
    ⊎_elim (λ (before : rule < most). none rule other before there)
    (λ (behind : most ≤ rule).
    let same : rule ≡ most = omega (arith, below, behind) in
    let one : slice_get plans most ≡ Some other = subst (λ (k : ℕ). slice_get plans k ≡ Some other) same there in
    let plans_alike : plan ≡ other = cc in
    subst (λ (p : Plan). first_place (visits true p) ≡ None) plans_alike here)
    (cases_lt rule most)

pub none_bare : (plans : List Plan) → NoneBefore plans (length plans) → AllIsTriggered plans
none_bare plans none rule number node is =
    none_in_plan is.plan (none rule is.plan (slice_get_within plans rule is.plan is.plan_is) is.plan_is) node is.untriggered

pub first_of_plans : (plans : List Plan) (rule : ℕ) (plan : Plan) (at : ℕ) → AllByRecursion IsNumberedPlan plans → NoneBefore plans rule → slice_get plans rule ≡ Some plan
    → first_place (visits true plan) ≡ Some at → IsFirstPlace plans at
first_of_plans plans rule plan at numbered none is found =
    let inside = first_in_plan plan at (numbered_at plans rule plan numbered is) found in (
      rule,
      inside.number,
      inside.node,
      record {
        untriggered = record { plan = plan; plan_is = is; node_is = inside.there; untriggered = inside.untriggered };
        first = λ other place late met. ⊎_elim
            (λ (behind : rule < other). inl behind)
            (λ (upto : other ≤ rule). ⊎_elim
            (λ (before : other < rule). absurd (none_in_plan met.plan (none other met.plan before met.plan_is) late met.untriggered))
            (λ (from : rule ≤ other).
            let same : other ≡ rule = omega (arith, upto, from) in
            let one : slice_get plans rule ≡ Some met.plan = subst (λ (k : ℕ). slice_get plans k ≡ Some met.plan) same met.plan_is in
            let alike : met.plan ≡ plan = cc in
            inr (sym same, inside.first place late (subst (λ (p : Plan). slice_get (nodes p) place ≡ Some late) alike met.node_is) (subst (λ (p : Plan). IsUntriggered p late) alike met.untriggered)))
            (cases_lt other rule))
            (cases_lt rule other);
      },
      inside.keeps,
    )
