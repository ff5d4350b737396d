-- Paths from the starts of a plan, node by node.
use Rattle.rank_check.proofs.Vocabulary.{◌≡◌, ◌⊎◌, List, [], ◌∷◌, Contains, refl, sym, subst, inl, inr, ⊎_elim, here, first_or_later, none_in_nil, nodes, Plan, AlwaysPlan, UntilPlan, itself as root}
use Rattle.rank_check.proofs.Vocabulary.{below, begun_later, IsPath}
use Rattle.rank_check.proofs.PlanLemmas.{within, deeper}

-- a path with the property from the plan itself
abbrev pub From : (List Plan → Plan → Type 0) → Plan → Type 0
From Q plan = (path : List Plan) × (end : Plan) × IsPath plan path end × Q path end

-- and from a start that some node of the plan begins
abbrev pub Begun : (List Plan → Plan → Type 0) → Plan → Type 0
Begun Q plan = (node : Plan) × Contains (nodes plan) node × (start : Plan) × Contains (begun_later node) start × From Q start

abbrev pub Behind : (List Plan → Plan → Type 0) → Plan → List Plan → Plan → Type 0
Behind Q plan path end = Q (plan ∷ path) end

pub is_below : (plan next : Plan) → Contains (begun_later plan) next → Contains (below plan) next
is_below (AlwaysPlan node place low high body) next at = at
is_below (UntilPlan node place low high left right) next at =
    ⊎_elim (λ (same : left ≡ next). subst (λ p. Contains (left ∷ right ∷ []) p) same (here left (right ∷ []))) (λ (none : Contains [] next). absurd (none_in_nil next none))
    (first_or_later next left [] at)
is_below plan next at = absurd (none_in_nil next at)

module _ (Q : List Plan → Plan → Type 0) where
  pub at_end : (plan : Plan) → Q [] plan → From Q plan
  at_end plan holds = ([], plan, refl, holds)

  pub one_more : (plan next : Plan) → Contains (below plan) next → From (Behind Q plan) next → From Q plan
  one_more plan next at from = (plan ∷ from.0, from.1, (refl, next, at, from.2), from.3)

  pub one_less : (plan : Plan) → From Q plan → Q [] plan ⊎ ((next : Plan) × Contains (below plan) next × From (Behind Q plan) next)
  one_less plan ([], end, is, holds) = inl (subst (λ p. Q [] p) (sym is) holds)
  one_less plan (node ∷ path, end, is, holds) =
      let same : node ≡ plan = sym is.0 in
      inr (is.1, subst (λ p. Contains (below p) is.1) same is.2, (path, end, is.3, subst (λ p. Q (p ∷ path) end) same holds))

  pub begun_here : (plan start : Plan) → Contains (begun_later plan) start → From Q start → Begun Q plan
  begun_here plan start at from = (plan, root plan, start, at, from)

  pub begun_below : (plan next : Plan) → Contains (below plan) next → Begun Q next → Begun Q plan
  begun_below plan next at begun = (begun.0, deeper plan next begun.0 at begun.1, begun.2, begun.3, begun.4)

  pub begun_cases : (plan : Plan) → Begun Q plan → ((start : Plan) × Contains (begun_later plan) start × From Q start) ⊎ ((next : Plan) × Contains (below plan) next × Begun Q next)
  begun_cases plan begun =
      ⊎_elim (λ same. inl (begun.2, subst (λ p. Contains (begun_later p) begun.2) (sym same) begun.3, begun.4))
      (λ deep. inr (deep.0, deep.1, (begun.0, deep.2, begun.2, begun.3, begun.4)))
      (within plan begun.0 begun.1)
