use Rattle.choice_step.proofs.Vocabulary.{rules, ◌≡◌, [], ◌∷◌, true, length, refl, ap, inl, inr, lit≤, arith, event_p, event_q, cause_literal, always_to_10, due_at_5, for_due, for_second_at, p_by_5}
use Rattle.choice_step.proofs.Vocabulary.{q_always, Waiting}
use Rattle.choice_step.proofs.CaseLemmas.{no_q}
use Rattle.choice_step.proofs.worked_cases.choices_of_pending.Goals as goal

pub returns-clause-takes_part : goal.returns-clause-takes_part
returns-clause-takes_part c = (
  Waiting due_at_5,
  cause_literal event_p 1,
  event_p ∷ [],
  inl (refl, [], search rules),
  refl,
  refl,
  (
    Waiting always_to_10,
    cause_literal event_q 1,
    event_p ∷ event_q ∷ [],
    inr (search rules, inl (refl, [], inl ((lit≤ tt, lit≤ tt), inr (no_q, refl)))),
    refl,
    refl,
    (refl, (search rules, (inl ((lit≤ tt, lit≤ tt), search rules), (search rules, (search rules, tt))))),
  ),
)

pub returns-clause-not_left_out : goal.returns-clause-not_left_out
returns-clause-not_left_out c left =
    let one =
    c.follows_is_one.ensures.step (p_by_5 ∷ q_always ∷ []) (record { time = 0; events = [] } ∷ [])
    (due_at_5 ∷ always_to_10 ∷ []) true 5 [] (for_due ∷ for_second_at 5 1 ∷ []) (for_due ∷ [])
    (event_p ∷ event_q ∷ []) (event_p ∷ [])
    tt (returns-clause-takes_part c) left
    in
    let lengths : 2 ≡ 1 = ap length one.1 in omega (arith, lengths)
