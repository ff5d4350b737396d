-- The walk meets a cause below a trigger exactly where an edge leads from the one to the other.
use Rattle.rank_check.proofs.Vocabulary.{◌≡◌, ◌⊎◌, ◌↔◌, ℕ, ◌+◌, ◌<◌, length, take, get_or, Bool, true, false, List, [], ◌∷◌, ◌++◌, Option, None, Some, Contains, refl, sym, subst, inl, inr, ⊎_elim}
use Rattle.rank_check.proofs.Vocabulary.{option_or, take_more, Contains-append_left, Contains-append_right, Contains-append_cases, Contains-push, Contains-push_cases, here, later, none_in_nil, NameId}
use Rattle.rank_check.proofs.Vocabulary.{Contains-flat_map, nodes, Plan, CausePlan, SuppressPlan, Both, Either, TestOr, Guarded, EventuallyPlan, AlwaysPlan, UntilPlan, NextPlan, guard_triggers}
use Rattle.rank_check.proofs.Vocabulary.{triggers, IsCaused, caused_below, caused_at, below, begun_later, path_triggers, IsCauseNode, IsStart, Edge, ArePlansWithinLimits, EdgeTable, HasEdge}
use Rattle.rank_check.proofs.Vocabulary.{AddsEdges, in_one, in_two, itself as root, bare_behind, met_behind, Causes}
use Rattle.rank_check.proofs.MatrixLemmas.{both, same}
use Rattle.rank_check.proofs.PlanLemmas.{by_below, deeper, nodes_in, end_in, guard_in}
use Rattle.rank_check.proofs.StartLemmas.{From, Begun, is_below, at_end, one_more, one_less, begun_here, begun_below, begun_cases}

-- a path to a cause, and one on which the first triggers have a name
abbrev pub Reaches : (to : NameId) → List Plan → Plan → Type 0
Reaches to path end = IsCauseNode end to

abbrev pub Follows : (from to : NameId) → List Plan → Plan → Type 0
Follows from to path end = IsCauseNode end to × (names : List NameId) × (path_triggers path ≡ Some names) × Contains names from

wider : (bare : Bool) (met : List NameId) (g : Option (List NameId)) (x : NameId) → Contains met x → Contains (met_behind bare met g) x
wider bare met None x is = is
wider true met (Some names) x is = Contains-append_left met names x is
wider false met (Some names) x is = is

module _ (from to : NameId) where
  abbrev Each : List NameId → Plan → Type 0
  Each met next = (o : Bool) (m : List NameId) → ((x : NameId) → Contains met x → Contains m x) → Causes o m next from to

  at_one : (met : List NameId) (body next : Plan) (bare : Bool) → Contains (body ∷ []) next → Each met next → Causes bare met body from to
  at_one met body next bare at each = in_one (λ p. Each met p → Causes bare met body from to) body (λ e. e bare met (λ x is. is)) next at each

  at_two : (met : List NameId) (l r next : Plan) (a b : Bool) → Contains (l ∷ r ∷ []) next → Each met next → Causes a met l from to ⊎ Causes b met r from to
  at_two met l r next a b at each =
      in_two (λ p. Each met p → Causes a met l from to ⊎ Causes b met r from to) l r (λ e. inl (e a met (λ x is. is))) (λ e. inr (e b met (λ x is. is))) next at each

  into_any : (bare : Bool) (met : List NameId) (plan next : Plan) → Contains (below plan) next → Each met next → Causes bare met plan from to
  into_any bare met (CausePlan n place name terms) next at each = absurd (none_in_nil next at)
  into_any bare met (SuppressPlan n place name terms) next at each = absurd (none_in_nil next at)
  into_any bare met (Both n l r) next at each = at_two met l r next bare bare at each
  into_any bare met (Either n l r) next at each = at_two met l r next bare bare at each
  into_any bare met (TestOr n guard test body) next at each = at_one met body next bare at each
  into_any bare met (Guarded n xs guard test body) next at each =
      in_one (λ p. Each met p → Causes (bare_behind bare (triggers test)) (met_behind bare met (triggers test)) body from to) body
      (λ e. e (bare_behind bare (triggers test)) (met_behind bare met (triggers test)) (wider bare met (triggers test))) next at each
  into_any bare met (EventuallyPlan n place low high body) next at each = at_one met body next bare at each
  into_any bare met (AlwaysPlan n place low high body) next at each = at_one met body next true at each
  into_any bare met (UntilPlan n place low high l r) next at each = at_two met l r next true bare at each
  into_any bare met (NextPlan n place high body) next at each = at_one met body next bare at each

  as_one : (met : List NameId) (body next : Plan) → Contains (body ∷ []) next → Causes true met next from to → Causes true met body from to
  as_one met body next at there = in_one (λ p. Causes true met p from to → Causes true met body from to) body (λ is. is) next at there

  as_two : (met : List NameId) (l r next : Plan) → Contains (l ∷ r ∷ []) next → Causes true met next from to → Causes true met l from to ⊎ Causes true met r from to
  as_two met l r next at there = in_two (λ p. Causes true met p from to → Causes true met l from to ⊎ Causes true met r from to) l r (λ is. inl is) (λ is. inr is) next at there

  into_bare : (met : List NameId) (plan next : Plan) → guard_triggers plan ≡ None → Contains (below plan) next → Causes true met next from to → Causes true met plan from to
  into_bare met (CausePlan n place name terms) next none at there = absurd (none_in_nil next at)
  into_bare met (SuppressPlan n place name terms) next none at there = absurd (none_in_nil next at)
  into_bare met (Both n l r) next none at there = as_two met l r next at there
  into_bare met (Either n l r) next none at there = as_two met l r next at there
  into_bare met (TestOr n guard test body) next none at there = as_one met body next at there
  into_bare met (Guarded n xs guard test body) next none at there =
      subst (λ (g : Option (List NameId)). Causes (bare_behind true g) (met_behind true met g) body from to) (sym none) (as_one met body next at there)
  into_bare met (EventuallyPlan n place low high body) next none at there = as_one met body next at there
  into_bare met (AlwaysPlan n place low high body) next none at there = as_one met body next at there
  into_bare met (UntilPlan n place low high l r) next none at there = as_two met l r next at there
  into_bare met (NextPlan n place high body) next none at there = as_one met body next at there

  into_closed : (met names : List NameId) (plan next : Plan) → guard_triggers plan ≡ Some names → Contains (below plan) next → Causes false (met ++ names) next from to → Causes true met plan from to
  into_closed met names (Guarded n xs guard test body) next is at there =
      subst (λ (g : Option (List NameId)). Causes (bare_behind true g) (met_behind true met g) body from to) (sym is)
      (in_one (λ p. Causes false (met ++ names) p from to → Causes false (met ++ names) body from to) body (λ found. found) next at there)
  into_closed met names plan next is at there = absurd (cc)

  into_begun : (bare : Bool) (met : List NameId) (plan start : Plan) → Contains (begun_later plan) start → Causes true met start from to → Causes bare met plan from to
  into_begun bare met (AlwaysPlan n place low high body) start at there = as_one met body start at there
  into_begun bare met (UntilPlan n place low high l r) start at there = inl (as_one met l start at there)
  into_begun bare met plan start at there = absurd (none_in_nil start at)

  at_cause : (bare : Bool) (met : List NameId) (plan : Plan) → IsCauseNode plan to → Contains met from → Causes bare met plan from to
  at_cause bare met (CausePlan n place name terms) is there = (there, is)
  at_cause bare met plan is there = absurd is

  abbrev Deeper : Bool → List NameId → Plan → Type 0
  Deeper bare met plan = ((next : Plan) × Contains (below plan) next × Causes (bare_behind bare (guard_triggers plan)) (met_behind bare met (guard_triggers plan)) next from to)
      ⊎ ((next : Plan) × Contains (begun_later plan) next × Causes true met next from to)

  cases : (bare : Bool) (met : List NameId) (plan : Plan) → Causes bare met plan from to → (IsCauseNode plan to × Contains met from) ⊎ Deeper bare met plan
  cases bare met (CausePlan n place name terms) there = inl (there.1, there.0)
  cases bare met (SuppressPlan n place name terms) there = absurd there
  cases bare met (Both n l r) there = ⊎_elim (λ is. inr (inl (l, here l (r ∷ []), is))) (λ is. inr (inl (r, later r l (r ∷ []) (here r []), is))) there
  cases bare met (Either n l r) there = ⊎_elim (λ is. inr (inl (l, here l (r ∷ []), is))) (λ is. inr (inl (r, later r l (r ∷ []) (here r []), is))) there
  cases bare met (TestOr n guard test body) there = inr (inl (body, here body [], there))
  cases bare met (Guarded n xs guard test body) there = inr (inl (body, here body [], there))
  cases bare met (EventuallyPlan n place low high body) there = inr (inl (body, here body [], there))
  cases bare met (AlwaysPlan n place low high body) there = inr (inr (body, here body [], there))
  cases bare met (UntilPlan n place low high l r) there = ⊎_elim (λ is. inr (inr (l, here l [], is))) (λ is. inr (inl (r, later r l (r ∷ []) (here r []), is))) there
  cases bare met (NextPlan n place high body) there = inr (inl (body, here body [], there))

  -- a cause below triggers that were met before the plan, below those of a guard on the path from the plan, or of one
  -- on a path from a start below
  abbrev Meets : Bool → List NameId → Plan → Type 0
  Meets bare met plan = (Contains met from × From (Reaches to) plan)
      ⊎ (((bare ≡ true) × From (Follows from to) plan) ⊎ Begun (Follows from to) plan)

  -- by the guard of the plan itself
  through : (bare : Bool) (met : List NameId) (plan next : Plan) (g : Option (List NameId)) → guard_triggers plan ≡ g → Contains (below plan) next
      → Meets (bare_behind bare g) (met_behind bare met g) next → Meets bare met plan
  through bare met plan next None is at meets =
      ⊎_elim (λ m. inl (m.0, one_more (Reaches to) plan next at (m.1.0, m.1.1, m.1.2, m.1.3))) (λ m.
      ⊎_elim (λ o. inr (inl (
        o.0,
        one_more (Follows from to) plan next at (
          o.1.0,
          o.1.1,
          o.1.2,
          (o.1.3.0, o.1.3.1, subst (λ (g : Option (List NameId)). option_or g (path_triggers o.1.0) ≡ Some o.1.3.1) (sym is) o.1.3.2, o.1.3.3),
        ),
      )))
      (λ b. inr (inr (begun_below (Follows from to) plan next at b))) m)
      meets
  through true met plan next (Some names) is at meets =
      ⊎_elim (λ m.
      ⊎_elim (λ old. inl (old, one_more (Reaches to) plan next at (m.1.0, m.1.1, m.1.2, m.1.3)))
      (λ new. inr (inl (
        refl,
        one_more (Follows from to) plan next at (
          m.1.0,
          m.1.1,
          m.1.2,
          (m.1.3, names, subst (λ (g : Option (List NameId)). option_or g (path_triggers m.1.0) ≡ Some names) (sym is) refl, new),
        ),
      )))
      (Contains-append_cases met names from m.0))
      (λ m. ⊎_elim (λ o. absurd (not_bare o.0)) (λ b. inr (inr (begun_below (Follows from to) plan next at b))) m) meets
    where
      not_bare : false ≡ true → ⊥
      not_bare e = cc
  through false met plan next (Some names) is at meets =
      ⊎_elim (λ m. inl (m.0, one_more (Reaches to) plan next at (m.1.0, m.1.1, m.1.2, m.1.3)))
      (λ m. ⊎_elim (λ o. absurd (not_bare o.0)) (λ b. inr (inr (begun_below (Follows from to) plan next at b))) m) meets
    where
      not_bare : false ≡ true → ⊥
      not_bare e = cc

  begins : (bare : Bool) (met : List NameId) (plan start : Plan) → Contains (begun_later plan) start → Meets true met start → Meets bare met plan
  begins bare met plan start at meets =
      let down : Contains (below plan) start = is_below plan start at in
      ⊎_elim (λ m. inl (m.0, one_more (Reaches to) plan start down (m.1.0, m.1.1, m.1.2, m.1.3))) (λ m.
      ⊎_elim (λ o. inr (inr (begun_here (Follows from to) plan start at o.1))) (λ b. inr (inr (begun_below (Follows from to) plan start down b))) m)
      meets

  pub sound : (plan : Plan) (bare : Bool) (met : List NameId) → Causes bare met plan from to → Meets bare met plan
  sound = by_below (λ plan. (bare : Bool) (met : List NameId) → Causes bare met plan from to → Meets bare met plan) (λ plan each bare met there.
      ⊎_elim (λ is. inl (is.1, at_end (Reaches to) plan is.0)) (λ deep.
      ⊎_elim (λ d. through bare met plan d.0 (guard_triggers plan) refl d.1 (each d.0 d.1 (bare_behind bare (guard_triggers plan)) (met_behind bare met (guard_triggers plan)) d.2))
      (λ d. begins bare met plan d.0 d.1 (each d.0 (is_below plan d.0 d.1) true met d.2)) deep)
      (cases bare met plan there))

  record Complete (plan : Plan) : Type 0 where
    reached : (bare : Bool) (met : List NameId) → Contains met from → From (Reaches to) plan → Causes bare met plan from to
    followed : (met : List NameId) → From (Follows from to) plan → Causes true met plan from to
    begun : (bare : Bool) (met : List NameId) → Begun (Follows from to) plan → Causes bare met plan from to

  abbrev Below : Plan → Type 0
  Below plan = (next : Plan) → Contains (below plan) next → Complete next

  when_reached : (plan : Plan) → Below plan → (bare : Bool) (met : List NameId) → Contains met from → From (Reaches to) plan → Causes bare met plan from to
  when_reached plan each bare met there path =
      ⊎_elim (λ is. at_cause bare met plan is there)
      (λ d. into_any bare met plan d.0 d.1 (λ o m more. (each d.0 d.1).reached o m (more from there) (d.2.0, d.2.1, d.2.2, d.2.3)))
      (one_less (Reaches to) plan path)

  -- the first triggers on the path are those of the plan's guard, or come later
  by_guard : (plan next : Plan) (met names : List NameId) (path : List Plan) (g : Option (List NameId)) → guard_triggers plan ≡ g → option_or g (path_triggers path) ≡ Some names
      → Contains names from → Contains (below plan) next → Complete next → (end : Plan) → From (Reaches to) next
      → ((path_triggers path ≡ Some names) → From (Follows from to) next) → Causes true met plan from to
  by_guard plan next met names path None is first there at each end reached follows =
      into_bare met plan next is at (each.followed met (follows first))
  by_guard plan next met names path (Some xs) is first there at each end reached follows =
      let same : names ≡ xs = cc in
      into_closed met xs plan next is at (each.reached false (met ++ xs) (Contains-append_right met xs from (subst (λ (l : List NameId). Contains l from) same there)) reached)

  when_followed : (plan : Plan) → Below plan → (met : List NameId) → From (Follows from to) plan → Causes true met plan from to
  when_followed plan each met path =
      ⊎_elim (λ is. absurd (no_triggers is.1 is.2))
      (λ d. by_guard plan d.0 met d.2.3.1 d.2.0 (guard_triggers plan) refl d.2.3.2 d.2.3.3 d.1 (each d.0 d.1) d.2.1 (d.2.0, d.2.1, d.2.2, d.2.3.0)
      (λ later. (d.2.0, d.2.1, d.2.2, (d.2.3.0, d.2.3.1, later, d.2.3.3))))
      (one_less (Follows from to) plan path)
    where
      no_triggers : (names : List NameId) → None ≡ Some names → ⊥
      no_triggers names e = cc

  when_begun : (plan : Plan) → Below plan → (bare : Bool) (met : List NameId) → Begun (Follows from to) plan → Causes bare met plan from to
  when_begun plan each bare met begun =
      ⊎_elim (λ d. into_begun bare met plan d.0 d.1 ((each d.0 (is_below plan d.0 d.1)).followed met d.2))
      (λ d. into_any bare met plan d.0 d.1 (λ o m more. (each d.0 d.1).begun o m d.2))
      (begun_cases (Follows from to) plan begun)

  complete : (plan : Plan) → Complete plan
  complete = by_below Complete (λ plan each. record {
    reached = when_reached plan each;
    followed = when_followed plan each;
    begun = when_begun plan each;
  })

  -- over a policy
  pub edge_if_caused : (plans : List Plan) (plan : Plan) → Contains plans plan → Causes true [] plan from to → Edge plans from to
  edge_if_caused plans plan there is =
      ⊎_elim (λ none. absurd (none_in_nil from none.0)) (λ m.
      ⊎_elim (λ o. let p = o.1 in (plan, there, plan, inl refl, p.0, p.1, p.2, p.3.0, p.3.1, p.3.2, p.3.3))
      (λ b. let p = b.4 in (plan, there, b.2, inr (b.0, b.1, b.3), p.0, p.1, p.2, p.3.0, p.3.1, p.3.2, p.3.3)) m)
      (sound plan true [] is)

  pub caused_if_edge : (plans : List Plan) → Edge plans from to → (plan : Plan) × Contains plans plan × Causes true [] plan from to
  caused_if_edge plans e =
      let path : From (Follows from to) e.2 = (e.4, e.5, e.6, (e.7, e.8, e.9, e.10)) in (
        e.0,
        e.1,
        ⊎_elim (λ same. (complete e.0).followed [] (subst (From (Follows from to)) (sym same) path))
            (λ b. (complete e.0).begun true [] (b.0, b.1, e.2, b.2, path)) e.3,
      )

-- over several plans
abbrev pub CausedIn : List Plan → NameId → NameId → Type 0
CausedIn plans from to = (plan : Plan) × Contains plans plan × Causes true [] plan from to

pub one_more_plan : (plans : List Plan) (i : ℕ) (none : Plan) (first second third : EdgeTable) → i < length plans → AddsEdges (CausedIn (take i plans)) first second
    → AddsEdges (Causes true [] (get_or plans i none)) second third → AddsEdges (CausedIn (take (i + 1) plans)) first third
one_more_plan plans i none first second third inside before one =
    let plan : Plan = get_or plans i none in
    let more : take (i + 1) plans ≡ take i plans ++ plan ∷ [] = take_more plans i none inside in
    same (λ a b. CausedIn (take i plans) a b ⊎ Causes true [] plan a b) (CausedIn (take (i + 1) plans)) first third
    (λ a b e. subst (λ (l : List Plan). CausedIn l a b) (sym more)
    (⊎_elim (λ (old : CausedIn (take i plans) a b). (old.0, Contains-append_left (take i plans) (plan ∷ []) old.0 old.1, old.2))
    (λ (new : Causes true [] plan a b). (plan, Contains-push (take i plans) plan, new)) e))
    (λ a b e. let there : CausedIn (take i plans ++ plan ∷ []) a b = subst (λ (l : List Plan). CausedIn l a b) more e in
    ⊎_elim (λ (old : Contains (take i plans) there.0). inl (there.0, old, there.2)) (λ (new : plan ≡ there.0). inr (subst (λ p. Causes true [] p a b) (sym new) there.2))
    (Contains-push_cases (take i plans) plan there.0 there.1))
    (both (CausedIn (take i plans)) (Causes true [] plan) first second third before one)

start_in : (plan start : Plan) → IsStart plan start → Contains (nodes plan) start
start_in plan start is =
    ⊎_elim (λ (same : plan ≡ start). subst (λ p. Contains (nodes plan) p) same (root plan))
    (λ begun. nodes_in begun.0 plan start begun.1 (deeper begun.0 start start (is_below begun.0 start begun.2) (root start))) is

cause_in : (node : Plan) (to : NameId) → IsCauseNode node to → Contains (caused_at node) to
cause_in (CausePlan n place name terms) to is = subst (λ (x : NameId). Contains (name ∷ []) x) is (here name [])
cause_in node to is = absurd is

-- both ends of an edge are among the names
pub edges_are_below : (names : ℕ) (plans : List Plan) (from to : NameId) → ArePlansWithinLimits names plans → Edge plans from to → (from.0 < names) × (to.0 < names)
edges_are_below names plans from to fit e =
    let end : Contains (nodes e.0) e.5 = nodes_in e.2 e.0 e.5 (start_in e.0 e.2 e.3) (end_in e.4 e.2 e.5 e.6) in
    let guard : (node : Plan) × Contains (nodes e.2) node × (guard_triggers node ≡ Some e.8) = guard_in e.4 e.2 e.5 e.8 e.6 e.9 in
    let caused : IsCaused plans to = Contains-flat_map caused_below plans e.0 to e.1 (Contains-flat_map caused_at (nodes e.0) e.5 to end (cause_in e.5 to e.7)) in
    let inside : Contains (nodes e.0) guard.0 = nodes_in e.2 e.0 guard.0 (start_in e.0 e.2 e.3) guard.1 in
    (fit.triggers guard.0 e.8 from (Contains-flat_map nodes plans e.0 guard.0 e.1 inside) guard.2 e.10, fit.changed to (inl caused))

-- the table has just the edges of the plans
pub just_edges : (names : ℕ) (plans : List Plan) (empty table : EdgeTable) → ArePlansWithinLimits names plans → empty.width ≡ names
    → ((a b : NameId) → HasEdge empty a b → ⊥) → AddsEdges (CausedIn plans) empty table → (from to : NameId) → HasEdge table from to ↔ Edge plans from to
just_edges names plans empty table fit wide none adds from to = (
  λ joins. ⊎_elim (λ (old : HasEdge empty from to). absurd (none from to old)) (λ (new : CausedIn plans from to). edge_if_caused from to plans new.0 new.1 new.2) (adds.only from to joins),
  λ edge. let within = edges_are_below names plans from to fit edge in
      adds.added from to (subst (λ (w : ℕ). from.0 < w) (sym wide) within.0) (subst (λ (w : ℕ). to.0 < w) (sym wide) within.1) (caused_if_edge from to plans edge),
)
