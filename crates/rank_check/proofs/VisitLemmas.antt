-- The walk meets a node without a trigger exactly where a path from a start leads to it on which no guard has triggers.
use Rattle.rank_check.proofs.Vocabulary.{◌≡◌, ◌⊎◌, Bool, true, IsTrue, List, [], ◌∷◌, ◌++◌, Option, None, Some, Contains, refl, sym, ap, subst, inl, inr, ⊎_elim, option_or, Contains-append_left}
use Rattle.rank_check.proofs.Vocabulary.{Contains-append_right, Contains-append_cases, here, later, first_or_later, none_in_nil, NameId, Plan, CausePlan, SuppressPlan, Both, Either, TestOr, Guarded}
use Rattle.rank_check.proofs.Vocabulary.{EventuallyPlan, AlwaysPlan, UntilPlan, NextPlan, guard_triggers, triggers, below, begun_later, path_triggers, needs_trigger, IsPath, IsUntriggered, in_one}
use Rattle.rank_check.proofs.Vocabulary.{in_two, bare_behind, visits}
use Rattle.rank_check.proofs.PlanLemmas.{by_below}
use Rattle.rank_check.proofs.StartLemmas.{From, Begun, Behind, is_below, at_end, one_more, one_less, begun_here, begun_below, begun_cases}

abbrev Visit : Type 0
Visit = Plan × Bool

-- a visit to a plan, to what stands directly below, or to what is begun there
abbrev Deeper : Bool → Plan → Visit → Type 0
Deeper bare plan v = ((next : Plan) × Contains (below plan) next × Contains (visits (bare_behind bare (guard_triggers plan)) next) v)
    ⊎ ((next : Plan) × Contains (begun_later plan) next × Contains (visits true next) v)

one : (root v : Visit) (rest : List Visit) (D : Type 0) → (Contains rest v → D) → Contains (root ∷ rest) v → (root ≡ v) ⊎ D
one root v rest D below there = ⊎_elim (λ same. inl same) (λ more. inr (below more)) (first_or_later v root rest there)

two : (root v : Visit) (first second : List Visit) (D : Type 0) → (Contains first v → D) → (Contains second v → D) → Contains (root ∷ first ++ second) v → (root ≡ v) ⊎ D
two root v first second D left right there =
    one root v (first ++ second) D (λ more. ⊎_elim left right (Contains-append_cases first second v more)) there

none : (D : Type 0) (v : Visit) → Contains [] v → D
none D v there = absurd (none_in_nil v there)

cases : (bare : Bool) (plan : Plan) (v : Visit) → Contains (visits bare plan) v → ((plan, bare) ≡ v) ⊎ Deeper bare plan v
cases bare (CausePlan n place name terms) v there = one (CausePlan n place name terms, bare) v [] (Deeper bare (CausePlan n place name terms) v)
    (none (Deeper bare (CausePlan n place name terms) v) v) there
cases bare (SuppressPlan n place name terms) v there = one (SuppressPlan n place name terms, bare) v [] (Deeper bare (SuppressPlan n place name terms) v)
    (none (Deeper bare (SuppressPlan n place name terms) v) v) there
cases bare (Both n l r) v there = two (Both n l r, bare) v (visits bare l) (visits bare r) (Deeper bare (Both n l r) v) (λ is. inl (l, here l (r ∷ []), is))
    (λ is. inl (r, later r l (r ∷ []) (here r []), is)) there
cases bare (Either n l r) v there = two (Either n l r, bare) v (visits bare l) (visits bare r) (Deeper bare (Either n l r) v) (λ is. inl (l, here l (r ∷ []), is))
    (λ is. inl (r, later r l (r ∷ []) (here r []), is)) there
cases bare (TestOr n guard test body) v there = one (TestOr n guard test body, bare) v (visits bare body) (Deeper bare (TestOr n guard test body) v) (λ is. inl (body, here body [], is)) there
cases bare (Guarded n xs guard test body) v there = one (Guarded n xs guard test body, bare) v (visits (bare_behind bare (triggers test)) body)
    (Deeper bare (Guarded n xs guard test body) v) (λ is. inl (body, here body [], is)) there
cases bare (EventuallyPlan n place low high body) v there = one (EventuallyPlan n place low high body, bare) v (visits bare body) (Deeper bare (EventuallyPlan n place low high body) v)
    (λ is. inl (body, here body [], is)) there
cases bare (AlwaysPlan n place low high body) v there = one (AlwaysPlan n place low high body, bare) v (visits true body) (Deeper bare (AlwaysPlan n place low high body) v)
    (λ is. inr (body, here body [], is)) there
cases bare (UntilPlan n place low high l r) v there = two (UntilPlan n place low high l r, bare) v (visits true l) (visits bare r) (Deeper bare (UntilPlan n place low high l r) v)
    (λ is. inr (l, here l [], is)) (λ is. inl (r, later r l (r ∷ []) (here r []), is)) there
cases bare (NextPlan n place high body) v there = one (NextPlan n place high body, bare) v (visits bare body) (Deeper bare (NextPlan n place high body) v) (λ is. inl (body, here body [], is)) there

into_one : (root v : Visit) (f : Plan → List Visit) (body next : Plan) → Contains (body ∷ []) next → Contains (f next) v → Contains (root ∷ f body) v
into_one root v f body next at there = later v root (f body) (in_one (λ p. Contains (f p) v → Contains (f body) v) body (λ is. is) next at there)

into_two : (root v : Visit) (f g : Plan → List Visit) (l r next : Plan) → Contains (l ∷ r ∷ []) next → Contains (f next) v × Contains (g next) v → Contains (root ∷ f l ++ g r) v
into_two root v f g l r next at there =
    later v root (f l ++ g r) (in_two (λ p. Contains (f p) v × Contains (g p) v → Contains (f l ++ g r) v) l r (λ is. Contains-append_left (f l) (g r) v is.0)
    (λ is. Contains-append_right (f l) (g r) v is.1) next at there)

-- what is met below, whether the start is bare there or not, is met from the plan
into_any : (bare : Bool) (plan next : Plan) (v : Visit) → Contains (below plan) next → ((o : Bool) → Contains (visits o next) v) → Contains (visits bare plan) v
into_any bare (CausePlan n place name terms) next v at each = absurd (none_in_nil next at)
into_any bare (SuppressPlan n place name terms) next v at each = absurd (none_in_nil next at)
into_any bare (Both n l r) next v at each = into_two (Both n l r, bare) v (visits bare) (visits bare) l r next at (each bare, each bare)
into_any bare (Either n l r) next v at each = into_two (Either n l r, bare) v (visits bare) (visits bare) l r next at (each bare, each bare)
into_any bare (TestOr n guard test body) next v at each = into_one (TestOr n guard test body, bare) v (visits bare) body next at (each bare)
into_any bare (Guarded n xs guard test body) next v at each = into_one (Guarded n xs guard test body, bare) v (visits (bare_behind bare (triggers test))) body next at
    (each (bare_behind bare (triggers test)))
into_any bare (EventuallyPlan n place low high body) next v at each = into_one (EventuallyPlan n place low high body, bare) v (visits bare) body next at (each bare)
into_any bare (AlwaysPlan n place low high body) next v at each = into_one (AlwaysPlan n place low high body, bare) v (visits true) body next at (each true)
into_any bare (UntilPlan n place low high l r) next v at each = into_two (UntilPlan n place low high l r, bare) v (visits true) (visits bare) l r next at (each true, each bare)
into_any bare (NextPlan n place high body) next v at each = into_one (NextPlan n place high body, bare) v (visits bare) body next at (each bare)

-- a bare start stays bare where no guard closes it
into_bare : (plan next : Plan) (v : Visit) → guard_triggers plan ≡ None → Contains (below plan) next → Contains (visits true next) v → Contains (visits true plan) v
into_bare (CausePlan n place name terms) next v none at there = absurd (none_in_nil next at)
into_bare (SuppressPlan n place name terms) next v none at there = absurd (none_in_nil next at)
into_bare (Both n l r) next v none at there = into_two (Both n l r, true) v (visits true) (visits true) l r next at (there, there)
into_bare (Either n l r) next v none at there = into_two (Either n l r, true) v (visits true) (visits true) l r next at (there, there)
into_bare (TestOr n guard test body) next v none at there = into_one (TestOr n guard test body, true) v (visits true) body next at there
into_bare (Guarded n xs guard test body) next v none at there =
    into_one (Guarded n xs guard test body, true) v (visits (bare_behind true (triggers test))) body next at
    (subst (λ (g : Option (List NameId)). Contains (visits (bare_behind true g) next) v) (sym none) there)
into_bare (EventuallyPlan n place low high body) next v none at there = into_one (EventuallyPlan n place low high body, true) v (visits true) body next at there
into_bare (AlwaysPlan n place low high body) next v none at there = into_one (AlwaysPlan n place low high body, true) v (visits true) body next at there
into_bare (UntilPlan n place low high l r) next v none at there = into_two (UntilPlan n place low high l r, true) v (visits true) (visits true) l r next at (there, there)
into_bare (NextPlan n place high body) next v none at there = into_one (NextPlan n place high body, true) v (visits true) body next at there

into_begun : (bare : Bool) (plan start : Plan) (v : Visit) → Contains (begun_later plan) start → Contains (visits true start) v → Contains (visits bare plan) v
into_begun bare (AlwaysPlan n place low high body) start v at there = into_one (AlwaysPlan n place low high body, bare) v (visits true) body start at there
into_begun bare (UntilPlan n place low high l r) start v at there =
    later v (UntilPlan n place low high l r, bare) (visits true l ++ visits bare r) (Contains-append_left (visits true l) (visits bare r) v
    (in_one (λ p. Contains (visits true p) v → Contains (visits true l) v) l (λ is. is) start at there))
into_begun bare plan start v at there = absurd (none_in_nil start at)

-- paths to a node with no triggers on them
abbrev pub Bare : Plan → List Plan → Plan → Type 0
Bare node path end = (end ≡ node) × (path_triggers path ≡ None)

no_first : (a b : Option (List NameId)) → option_or a b ≡ None → (a ≡ None) × (b ≡ None)
no_first None b is = (refl, is)
no_first (Some names) b is = absurd (cc)

no_trigger : (a b : Option (List NameId)) → a ≡ None → b ≡ None → option_or a b ≡ None
no_trigger a b is also = subst (λ (o : Option (List NameId)). option_or o b ≡ None) (sym is) also

stays : (bare : Bool) (g : Option (List NameId)) → bare_behind bare g ≡ true → (bare ≡ true) × (g ≡ None)
stays bare None is = (is, refl)
stays bare (Some names) is = absurd (cc)

at_root : (bare : Bool) (plan : Plan) → Contains (visits bare plan) (plan, bare)
at_root bare (CausePlan n place name terms) = here (CausePlan n place name terms, bare) []
at_root bare (SuppressPlan n place name terms) = here (SuppressPlan n place name terms, bare) []
at_root bare (Both n l r) = here (Both n l r, bare) (visits bare l ++ visits bare r)
at_root bare (Either n l r) = here (Either n l r, bare) (visits bare l ++ visits bare r)
at_root bare (TestOr n guard test body) = here (TestOr n guard test body, bare) (visits bare body)
at_root bare (Guarded n xs guard test body) = here (Guarded n xs guard test body, bare) (visits (bare_behind bare (triggers test)) body)
at_root bare (EventuallyPlan n place low high body) = here (EventuallyPlan n place low high body, bare) (visits bare body)
at_root bare (AlwaysPlan n place low high body) = here (AlwaysPlan n place low high body, bare) (visits true body)
at_root bare (UntilPlan n place low high l r) = here (UntilPlan n place low high l r, bare) (visits true l ++ visits bare r)
at_root bare (NextPlan n place high body) = here (NextPlan n place high body, bare) (visits bare body)

-- from the plan, where the start before it is bare, or from a start begun below
abbrev pub Met : (node : Plan) → (bare : Bool) → Plan → Type 0
Met node bare plan = ((bare ≡ true) × From (Bare node) plan) ⊎ Begun (Bare node) plan

lifted : (node plan next : Plan) → guard_triggers plan ≡ None → From (Bare node) next → From (Behind (Bare node) plan) next
lifted node plan next none from =
    (from.0, from.1, from.2, (from.3.0, no_trigger (guard_triggers plan) (path_triggers from.0) none from.3.1))

from_below : (node plan next : Plan) (bare : Bool) → Contains (below plan) next → Met node (bare_behind bare (guard_triggers plan)) next → Met node bare plan
from_below node plan next bare at met =
    ⊎_elim (λ is. let s = stays bare (guard_triggers plan) is.0 in inl (s.0, one_more (Bare node) plan next at (lifted node plan next s.1 is.1)))
    (λ begun. inr (begun_below (Bare node) plan next at begun)) met

from_begun : (node plan start : Plan) (bare : Bool) → Contains (begun_later plan) start → Met node true start → Met node bare plan
from_begun node plan start bare at met =
    ⊎_elim (λ is. inr (begun_here (Bare node) plan start at is.1))
    (λ begun. inr (begun_below (Bare node) plan start (is_below plan start at) begun)) met

pub sound : (node plan : Plan) (bare : Bool) → Contains (visits bare plan) (node, true) → Met node bare plan
sound node = by_below (λ plan. (bare : Bool) → Contains (visits bare plan) (node, true) → Met node bare plan) (λ plan each bare there.
    ⊎_elim (λ same. inl (ap (λ (v : Visit). v.1) same, at_end (Bare node) plan (ap (λ (v : Visit). v.0) same, refl)))
    (λ deep. ⊎_elim (λ d. from_below node plan d.0 bare d.1 (each d.0 d.1 (bare_behind bare (guard_triggers plan)) d.2))
    (λ d. from_begun node plan d.0 bare d.1 (each d.0 (is_below plan d.0 d.1) true d.2)) deep)
    (cases bare plan (node, true) there))

abbrev Complete : (node plan : Plan) → Type 0
Complete node plan =
    ((bare : Bool) → Begun (Bare node) plan → Contains (visits bare plan) (node, true))
    × (From (Bare node) plan → Contains (visits true plan) (node, true))

abbrev Below : (node plan : Plan) → Type 0
Below node plan = (next : Plan) → Contains (below plan) next → Complete node next

begun_is_met : (node plan : Plan) → Below node plan → (bare : Bool) → Begun (Bare node) plan → Contains (visits bare plan) (node, true)
begun_is_met node plan each bare begun =
    ⊎_elim (λ d. into_begun bare plan d.0 (node, true) d.1 ((each d.0 (is_below plan d.0 d.1)).1 d.2))
    (λ d. into_any bare plan d.0 (node, true) d.1 (λ o. (each d.0 d.1).0 o d.2))
    (begun_cases (Bare node) plan begun)

path_is_met : (node plan : Plan) → Below node plan → From (Bare node) plan → Contains (visits true plan) (node, true)
path_is_met node plan each from =
    ⊎_elim (λ is. subst (λ p. Contains (visits true plan) (p, true)) is.0 (at_root true plan))
    (λ d.
    let g = no_first (guard_triggers plan) (path_triggers d.2.0) d.2.3.1 in
    into_bare plan d.0 (node, true) g.0 d.1 ((each d.0 d.1).1 (d.2.0, d.2.1, d.2.2, (d.2.3.0, g.1))))
    (one_less (Bare node) plan from)

pub complete : (node plan : Plan) → Complete node plan
complete node = by_below (Complete node) (λ plan each. (begun_is_met node plan each, path_is_met node plan each))

pub untriggered_if_bare : (plan node : Plan) → Contains (visits true plan) (node, true) → IsTrue (needs_trigger node) → IsUntriggered plan node
untriggered_if_bare plan node there needs =
    ⊎_elim (λ is. (needs, plan, inl refl, is.1.0, subst (IsPath plan is.1.0) is.1.3.0 is.1.2, is.1.3.1))
    (λ is. (needs, is.2, inr (is.0, is.1, is.3), is.4.0, subst (IsPath is.2 is.4.0) is.4.3.0 is.4.2, is.4.3.1))
    (sound node plan true there)

pub bare_if_untriggered : (plan node : Plan) → IsUntriggered plan node → Contains (visits true plan) (node, true)
bare_if_untriggered plan node is =
    let from : From (Bare node) is.1 = (is.3, node, is.4, (refl, is.5)) in
    ⊎_elim (λ same. (complete node plan).1 (subst (From (Bare node)) (sym same) from))
    (λ begun. (complete node plan).0 true (begun.0, begun.1, is.1, begun.2, from)) is.2
