use Rattle.choice_step.proofs.Vocabulary.{rules, ◌≡◌, [], ◌∷◌, false, length, refl, ap, inl, inr, lit<, arith, none_in_nil, event_p, event_q, cause_literal, suppress_literal, event_r, for_root}
use Rattle.choice_step.proofs.Vocabulary.{p_is_there, p_where_no_q, q_is_not, Root}
use Rattle.choice_step.proofs.CaseLemmas.{no_q, no_q_left, no_r}
use Rattle.obligations.specs.declared.literals.LiteralKind.TheVariants as kind
use Rattle.choice_step.proofs.worked_cases.choices_of_events.Goals as goal

pub returns-clause-owed_twice : goal.returns-clause-owed_twice
returns-clause-owed_twice c = (
  Root 0 p_is_there,
  cause_literal event_p 0,
  event_p ∷ [],
  inl (refl, [], search rules),
  refl,
  refl,
  (refl, (search rules, (search rules, tt))),
)

pub returns-clause-order_is_kept : goal.returns-clause-order_is_kept
returns-clause-order_is_kept c = (
  Root 0 q_is_not,
  suppress_literal event_q 0,
  event_r ∷ event_p ∷ [],
  inl (refl, [], inr ((λ none. none (1, lit< tt, refl)), refl)),
  refl,
  record { front = event_r ∷ []; back = event_p ∷ []; was = refl; is = refl },
  (refl, (inl (no_q_left, refl), tt)),
)

pub returns-clause-no_neighbour_is_dropped : goal.returns-clause-no_neighbour_is_dropped
returns-clause-no_neighbour_is_dropped c dropped =
    let one =
    c.follows_is_one.ensures.step (q_is_not ∷ []) [] [] false 5 (event_r ∷ event_q ∷ event_p ∷ [])
    (for_root kind.Suppress event_q 0 ∷ []) (for_root kind.Suppress event_q 0 ∷ [])
    (event_r ∷ event_p ∷ []) (event_r ∷ [])
    (no_r, (no_q, (none_in_nil event_p, tt)))
    (returns-clause-order_is_kept c) dropped
    in
    let lengths : 2 ≡ 1 = ap length one.1 in omega (arith, lengths)

pub returns-clause-test_falls : goal.returns-clause-test_falls
returns-clause-test_falls c = (
  Root 0 q_is_not,
  suppress_literal event_q 0,
  [],
  inl (refl, [], search rules),
  refl,
  record { front = []; back = []; was = refl; is = refl },
  (
    Root 1 p_where_no_q,
    cause_literal event_p 1,
    event_p ∷ [],
    inr (search rules, inl (refl, [], inr (none_in_nil event_q, inr (none_in_nil event_p, refl)))),
    refl,
    refl,
    (refl, (inl (no_q, refl), (inr (no_q, inl ((0, lit< tt, refl), refl)), tt))),
  ),
)
