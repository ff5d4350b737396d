use Rattle.rank_check.proofs.Vocabulary.{[], ◌∷◌, List, Contains, arith, refl, inl, inr, here as first, name_p, name_q, each_soon, soon_q_x, plan_cause_q_x, CausePlan, SuppressPlan, EventuallyPlan}
use Rattle.rank_check.proofs.Vocabulary.{AlwaysPlan, name_r, three_in_turn, then_always_q, q_until_p}
use Rattle.rank_check.proofs.CaseLemmas.{edge_of, turn_of_two}
use Rattle.rank_check.proofs.worked_cases.paths.Goals as goal

second : {X : Type 0} (a b : X) (rest : List X) → Contains (a ∷ b ∷ rest) b
second a b rest = (1, omega arith, refl)

pub returns-clause-root : goal.returns-clause-root
returns-clause-root c = (refl, EventuallyPlan 0 8 1 5 (CausePlan 1 9 name_q []), inl refl, [], refl, refl)

pub returns-clause-below_always : goal.returns-clause-below_always
returns-clause-below_always c = (
  refl,
  CausePlan 2 6 name_q [],
  inr (
    AlwaysPlan 1 4 0 9 (CausePlan 2 6 name_q []),
    second then_always_q (AlwaysPlan 1 4 0 9 (CausePlan 2 6 name_q [])) (CausePlan 2 6 name_q [] ∷ []),
    first (CausePlan 2 6 name_q []) [],
  ),
  [],
  refl,
  refl,
)

pub returns-clause-left_of_until : goal.returns-clause-left_of_until
returns-clause-left_of_until c = (
  refl,
  CausePlan 1 5 name_q [],
  inr (
    q_until_p,
    first q_until_p (CausePlan 1 5 name_q [] ∷ SuppressPlan 2 6 name_p [] ∷ []),
    first
        (CausePlan 1 5 name_q []) [],
  ),
  [],
  refl,
  refl,
)

pub returns-clause-edge : goal.returns-clause-edge
returns-clause-edge c = (
  each_soon,
  first each_soon [],
  each_soon,
  inl refl,
  each_soon ∷ soon_q_x ∷ [],
  plan_cause_q_x,
  (refl, soon_q_x, first soon_q_x [], (refl, plan_cause_q_x, first plan_cause_q_x [], refl)),
  refl,
  name_p ∷ [],
  refl,
  first name_p [],
)

pub returns-clause-cycle_of_two : goal.returns-clause-cycle_of_two
returns-clause-cycle_of_two c = turn_of_two

pub returns-clause-cycle_of_three : goal.returns-clause-cycle_of_three
returns-clause-cycle_of_three c = (
  2,
  (
    name_r,
    (
      name_q,
      (name_p, refl, edge_of three_in_turn name_p name_q (0, omega arith, refl)),
      edge_of three_in_turn name_q name_r (1, omega arith, refl),
    ),
    edge_of three_in_turn name_r name_p (2, omega arith, refl),
  ),
)
