-- Edges of the small policies in which names follow from each other.
use Rattle.rank_check.proofs.Vocabulary.{◌≡◌, ℕ, zero, suc, ◌+◌, ◌≤◌, true, List, [], ◌∷◌, Contains, refl, sym, ap, subst, inl, ⊎_elim, arith, name_p, name_q, NameId, Plan, CausePlan, EventuallyPlan}
use Rattle.rank_check.proofs.Vocabulary.{here, first_or_later, none_in_nil, name_r, soon_after, in_a_row, two_in_turn, EdgesLead, IsOnCycle, Edge, EndsIn, Causes}
use Rattle.rank_check.proofs.CauseLemmas.{caused_if_edge}

pub edge_of : (plans : List Plan) (from to : NameId) → Contains plans (soon_after from to) → Edge plans from to
edge_of plans from to there =
    let end : Plan = CausePlan 2 6 to [] in
    let soon : Plan = EventuallyPlan 1 4 1 5 end in
    let plan : Plan = soon_after from to in
    (plan, there, plan, inl refl, plan ∷ soon ∷ [], end, (refl, soon, here soon [], (refl, end, here end [], refl)), refl, from ∷ [], refl, here from [])

pub turn_of_two : IsOnCycle (Edge two_in_turn) name_p
turn_of_two = (
  1,
  (
    name_q,
    (name_p, refl, edge_of two_in_turn name_p name_q (0, omega arith, refl)),
    edge_of two_in_turn name_q name_p (1, omega arith, refl),
  ),
)

-- such a plan has no other edge
one_edge : (first second from to : NameId) → Causes true [] (soon_after first second) from to → (first ≡ from) × (second ≡ to)
one_edge first second from to causes = (⊎_elim (λ (is : first ≡ from). is) (λ (none : Contains [] from). absurd (none_in_nil from none)) (first_or_later from first [] causes.0), causes.1)

number_rises : (first second from to : NameId) → suc first.0 ≤ second.0 → (first ≡ from) × (second ≡ to) → suc from.0 ≤ to.0
number_rises first second from to rises is =
    let low : first.0 ≡ from.0 = ap (λ (n : NameId). n.0) is.0 in
    let high : second.0 ≡ to.0 = ap (λ (n : NameId). n.0) is.1 in
    omega arith

pub edge_rises : (from to : NameId) → Edge in_a_row from to → suc from.0 ≤ to.0
edge_rises from to edge =
    let caused = caused_if_edge from to in_a_row edge in
    let by : (first second : NameId) → suc first.0 ≤ second.0 → soon_after first second ≡ caused.0 → suc from.0 ≤ to.0 =
    λ first second rises same. number_rises first second from to rises (one_edge first second from to (subst (λ (p : Plan). Causes true [] p from to) (sym same) caused.2)) in
    ⊎_elim (by name_p name_q (omega arith))
    (λ (more : Contains (soon_after name_q name_r ∷ []) caused.0). ⊎_elim (by name_q name_r (omega arith)) (λ (none : Contains [] caused.0). absurd (none_in_nil caused.0 none))
    (first_or_later caused.0 (soon_after name_q name_r) [] more))
    (first_or_later caused.0 (soon_after name_p name_q) (soon_after name_q name_r ∷ []) caused.1)

-- where edges go to greater numbers alone, a chain has no more edges than the number of its last name
chain_rises : (k : ℕ) (from to : NameId) → EdgesLead (Edge in_a_row) k from to → from.0 + k ≤ to.0
chain_rises zero from to is = let same : from.0 ≡ to.0 = ap (λ (n : NameId). n.0) is in omega arith
chain_rises (suc k) from to leads = omega (arith, chain_rises k from leads.0 leads.1, edge_rises leads.0 to leads.2)

pub no_longer : (name : NameId) (k : ℕ) → EndsIn (Edge in_a_row) k name → k ≤ name.0
no_longer name k ends = omega (arith, chain_rises k ends.0 name ends.1)
