use Rattle.choice_step.proofs.Vocabulary.{rules, ◌≡◌, List, [], ◌∷◌, true, refl, ap, inl, inr, arith, slice_index_or, event_p, event_q, name_q, cause_literal, Action, due_at_5, for_due, for_second_at}
use Rattle.choice_step.proofs.Vocabulary.{p_by_5, q_by_5, second_due_at_5, Root, Waiting, CausePlan}
use Rattle.choice_step.proofs.worked_cases.forced_choices.Goals as goal

pub returns-clause-forced : goal.returns-clause-forced
returns-clause-forced c = (
  Waiting due_at_5,
  cause_literal event_p 1,
  event_p ∷ [],
  inl (refl, [], search rules),
  refl,
  refl,
  (refl, (search rules, (search rules, tt))),
)

pub returns-clause-pending_before_roots : goal.returns-clause-pending_before_roots
returns-clause-pending_before_roots c = (
  Waiting due_at_5,
  cause_literal event_p 1,
  event_p ∷ [],
  inl (refl, [], search rules),
  refl,
  refl,
  (
    Root 1 (CausePlan 0 0 name_q []),
    cause_literal event_q 0,
    event_p ∷ event_q ∷ [],
    inr (search rules, inr (search rules, inl (refl, [], search rules))),
    refl,
    refl,
    (refl, (search rules, (search rules, (search rules, tt)))),
  ),
)

pub returns-clause-as_they_were_begun : goal.returns-clause-as_they_were_begun
returns-clause-as_they_were_begun c = (
  Waiting due_at_5,
  cause_literal event_p 1,
  event_p ∷ [],
  inl (refl, [], search rules),
  refl,
  refl,
  (
    Waiting second_due_at_5,
    cause_literal event_q 1,
    event_p ∷ event_q ∷ [],
    inr (search rules, inl (refl, [], search rules)),
    refl,
    refl,
    (refl, (search rules, (search rules, (search rules, (search rules, tt))))),
  ),
)

pub returns-clause-not_the_later_first : goal.returns-clause-not_the_later_first
returns-clause-not_the_later_first c turned =
    let one =
    c.follows_is_one.ensures.step (p_by_5 ∷ q_by_5 ∷ []) (record { time = 0; events = [] } ∷ [])
    (due_at_5 ∷ second_due_at_5 ∷ []) true 5 [] (for_due ∷ for_second_at 5 1 ∷ [])
    (for_second_at 5 1 ∷ for_due ∷ []) (event_p ∷ event_q ∷ []) (event_q ∷ event_p ∷ [])
    tt (returns-clause-as_they_were_begun c) turned
    in
    let rules : 0 ≡ 1 = ap (λ (l : List Action). (slice_index_or l 0 for_due).rule) one.0 in
    omega (arith, rules)
