use Rattle.plan_terms.proofs.Vocabulary.{◌≡◌, ℕ, ap, arith, refl, lit<, lit≤, ⊎_elim, two_steps, node_number, IsAhead, Obligation}
use Rattle.plan_terms.proofs.OwedCases.{as_it_is}
use Rattle.plan_terms.proofs.worked_cases.moves_ahead.Goals as goal

-- both steps are ahead of the first one, within 5
first : IsAhead two_steps 0 5 0 0
first = record { not_before = lit≤ tt; there = lit< tt; distance = (lit≤ tt, lit≤ tt) }

second : IsAhead two_steps 0 5 0 1
second = record { not_before = lit≤ tt; there = lit< tt; distance = (lit≤ tt, lit≤ tt) }

pub returns-clause-eventually_was_met : goal.returns-clause-eventually_was_met
returns-clause-eventually_was_met c moves =
    let then : moves.0 ≡ 1 = ap (λ (o : Obligation). o.position) moves.3 in
    moves.2 0 first (omega (arith, then)) two_steps (as_it_is 3) (0, lit< tt, refl)

pub returns-clause-until_was_met : goal.returns-clause-until_was_met
returns-clause-until_was_met c moves =
    ⊎_elim
    (λ to_right. let then : to_right.0 ≡ 1 = ap (λ (o : Obligation). o.position) to_right.3 in
    to_right.2 0 first (omega (arith, then)) two_steps (as_it_is 3) (0, lit< tt, refl))
    (λ to_left. let other : ◌≡◌ {A = ℕ} 1 2 = ap (λ (o : Obligation). node_number o.node) to_left.3 in omega (arith, other))
    moves

pub returns-clause-left_side_no_longer : goal.returns-clause-left_side_no_longer
returns-clause-left_side_no_longer c moves =
    ⊎_elim
    (λ to_right. let other : ◌≡◌ {A = ℕ} 2 1 = ap (λ (o : Obligation). node_number o.node) to_right.3 in omega (arith, other))
    (λ to_left. let then : to_left.0 ≡ 1 = ap (λ (o : Obligation). o.position) to_left.3 in
    to_left.2 1 second (omega (arith, then)) two_steps (as_it_is 3) (0, lit< tt, refl))
    moves
