use Rattle.choice_step.proofs.Vocabulary.{rules, [], ◌∷◌, refl, inl, inr, event_p, event_q, cause_literal, suppress_literal, p_is_there, q_is_not, Root}
use Rattle.choice_step.proofs.worked_cases.choices.Goals as goal

pub returns-clause-caused_last : goal.returns-clause-caused_last
returns-clause-caused_last c = (
  Root 0 p_is_there,
  cause_literal event_p 0,
  event_q ∷ event_p ∷ [],
  inl (refl, [], search rules),
  refl,
  refl,
  (refl, (search rules, tt)),
)

pub returns-clause-suppressed : goal.returns-clause-suppressed
returns-clause-suppressed c = (
  Root 0 q_is_not,
  suppress_literal event_q 0,
  event_p ∷ [],
  inl (refl, [], search rules),
  refl,
  record { front = []; back = event_p ∷ []; was = refl; is = refl },
  (refl, (search rules, tt)),
)

pub returns-clause-by_rules_in_order : goal.returns-clause-by_rules_in_order
returns-clause-by_rules_in_order c = (
  Root 0 p_is_there,
  cause_literal event_p 0,
  event_q ∷ event_p ∷ [],
  inl (refl, [], search rules),
  refl,
  refl,
  (
    Root 1 q_is_not,
    suppress_literal event_q 0,
    event_p ∷ [],
    inr (search rules, inl (refl, [], search rules)),
    refl,
    record { front = []; back = event_p ∷ []; was = refl; is = refl },
    (refl, (search rules, (search rules, tt))),
  ),
)
