use Rattle.choice_step.proofs.Vocabulary.{rules, ◌≡◌, ◌≤◌, zero, suc, List, [], ◌∷◌, Some, refl, sym, subst, ap, length, slice_index_or, inl, inr, lit<, lit≤, arith, ⊎_elim, first_or_later}
use Rattle.choice_step.proofs.Vocabulary.{none_in_nil, no_values, event_p, event_q, Record, StepRecord, Tick, System, Inserted, cause_literal, HasDeadline, NoneIsOver, Pend, Instance, due_at_5}
use Rattle.choice_step.proofs.Vocabulary.{empty_at_0, p_by_5_and_q_by_3, p_at_5, q_at_3, second_due_at_3, Waiting, ActedStep, GoesOut, InsertsSteps, IsLeastDeadline, NoneIsPassed}
use Rattle.choice_step.proofs.CaseLemmas.{no_p, no_q}
use Rattle.choice_step.proofs.worked_cases.deadlines_in_order.Goals as goal

-- what the inserted steps begin: p() by 8 at time 3, and q() by 8 at time 5
abbrev p_due_at_8 : Instance
p_due_at_8 = record { rule = 0; node = 0; valuation = no_values; origin = 1; low = 3; high = 8 }

abbrev q_due_at_8 : Instance
q_due_at_8 = record { rule = 1; node = 0; valuation = no_values; origin = 2; low = 5; high = 8 }

-- ---- what is pending

at_first : Pend p_by_5_and_q_by_3 (empty_at_0.step ∷ []) (due_at_5 ∷ second_due_at_3 ∷ [])
at_first = (
  [],
  refl,
  (
    [],
    due_at_5 ∷ second_due_at_3 ∷ [],
    refl,
    (
      due_at_5 ∷ [],
      second_due_at_3 ∷ [],
      inr ((cause_literal event_p 1, [], search rules), refl),
      (second_due_at_3 ∷ [], [], inr ((cause_literal event_q 1, [], search rules), refl), refl, refl),
      refl,
    ),
    refl,
  ),
)

behind_3 : Pend p_by_5_and_q_by_3 (empty_at_0.step ∷ q_at_3.step ∷ []) (due_at_5 ∷ p_due_at_8 ∷ [])
behind_3 = (
  due_at_5 ∷ second_due_at_3 ∷ [],
  at_first,
  (
    due_at_5 ∷ [],
    p_due_at_8 ∷ [],
    (
      due_at_5 ∷ [],
      [],
      inr ((λ inside. (cause_literal event_p 1, [], inr (no_p, refl))), refl),
      ([], [], inl ((lit≤ tt, lit≤ tt), inl ((0, lit< tt, refl), refl), refl), refl, refl),
      refl,
    ),
    (
      p_due_at_8 ∷ [],
      [],
      inr ((cause_literal event_p 1, [], inr (no_p, refl)), refl),
      ([], [], inl (inl ((0, lit< tt, refl), refl), refl), refl, refl),
      refl,
    ),
    refl,
  ),
)

behind_5 : Pend p_by_5_and_q_by_3 (empty_at_0.step ∷ q_at_3.step ∷ p_at_5.step ∷ []) (q_due_at_8 ∷ [])
behind_5 = (
  due_at_5 ∷ p_due_at_8 ∷ [],
  behind_3,
  (
    [],
    q_due_at_8 ∷ [],
    (
      [],
      [],
      inl ((lit≤ tt, lit≤ tt), inl ((0, lit< tt, refl), refl), refl),
      ([], [], inl ((lit≤ tt, lit≤ tt), inl ((0, lit< tt, refl), refl), refl), refl, refl),
      refl,
    ),
    (
      [],
      q_due_at_8 ∷ [],
      inl (inl ((0, lit< tt, refl), refl), refl),
      (q_due_at_8 ∷ [], [], inr ((cause_literal event_q 1, [], inr (no_q, refl)), refl), refl, refl),
      refl,
    ),
    refl,
  ),
)

-- ---- the least deadline

none_before_3 : NoneIsOver p_by_5_and_q_by_3 (due_at_5 ∷ second_due_at_3 ∷ []) 3
none_before_3 zero d below deadline is = let at = is.1 in omega (arith, at)
none_before_3 (suc zero) d below deadline is = let at = is.1 in omega (arith, at)
none_before_3 (suc (suc k)) d below deadline is = absurd (omega (arith, below))

none_before_5 : NoneIsOver p_by_5_and_q_by_3 (due_at_5 ∷ p_due_at_8 ∷ []) 5
none_before_5 zero d below deadline is = let at = is.1 in omega (arith, at)
none_before_5 (suc zero) d below deadline is = let at = is.1 in omega (arith, at)
none_before_5 (suc (suc k)) d below deadline is = absurd (omega (arith, below))

pub returns-clause-least : goal.returns-clause-least
returns-clause-least c =
    record { instance = second_due_at_3; there = (1, lit< tt, refl); is = (refl, refl); least = none_before_3 }

pub returns-clause-not_the_first_rules : goal.returns-clause-not_the_first_rules
returns-clause-not_the_first_rules c late =
    let over : 5 ≤ 3 = late.least 1 second_due_at_3 (lit< tt) 3 (refl, refl) in omega (arith, over)

least_5 : IsLeastDeadline p_by_5_and_q_by_3 (due_at_5 ∷ p_due_at_8 ∷ []) 5
least_5 = record { instance = due_at_5; there = (0, lit< tt, refl); is = (refl, refl); least = none_before_5 }

-- ---- what is emitted

first : GoesOut p_by_5_and_q_by_3 [] System 0 [] empty_at_0
first = record { pending = []; pend = refl; kind_is = refl; time_is = refl; decided = (refl, (refl, (refl, tt))) }

nothing_passes : InsertsSteps p_by_5_and_q_by_3 [] (Some 0) []
nothing_passes = ([], refl, λ i deadline there is passed. none_in_nil i there)

goes_at_3 : GoesOut p_by_5_and_q_by_3 (empty_at_0.step ∷ []) Inserted 3 [] q_at_3
goes_at_3 = record {
  pending = due_at_5 ∷ second_due_at_3 ∷ [];
  pend = at_first;
  kind_is = refl;
  time_is = refl;
  decided = (
    Waiting second_due_at_3,
    cause_literal event_q 1,
    event_q ∷ [],
    inr (search rules, inl (refl, [], search rules)),
    refl,
    refl,
    (refl, (search rules, (search rules, (search rules, (search rules, tt))))),
  );
}

goes_at_5 : GoesOut p_by_5_and_q_by_3 (empty_at_0.step ∷ q_at_3.step ∷ []) Inserted 5 [] p_at_5
goes_at_5 = record {
  pending = due_at_5 ∷ p_due_at_8 ∷ [];
  pend = behind_3;
  kind_is = refl;
  time_is = refl;
  decided = (
    Waiting due_at_5,
    cause_literal event_p 1,
    event_p ∷ [],
    inl (refl, [], search rules),
    refl,
    refl,
    (refl, (search rules, (search rules, (search rules, (search rules, tt))))),
  );
}

not_yet : NoneIsPassed p_by_5_and_q_by_3 (q_due_at_8 ∷ []) (Some 6)
not_yet i deadline there is passed =
    ⊎_elim
    (λ (same : q_due_at_8 ≡ i). let at : 8 ≡ deadline = (subst (λ j. HasDeadline p_by_5_and_q_by_3 j deadline) (sym same) is).1 in omega (arith, at, passed))
    (λ none. none_in_nil i none)
    (first_or_later i q_due_at_8 [] there)

both_inserted : InsertsSteps p_by_5_and_q_by_3 (empty_at_0.step ∷ []) (Some 6) (q_at_3 ∷ p_at_5 ∷ [])
both_inserted = (
  3,
  (due_at_5 ∷ second_due_at_3 ∷ [], at_first, record { instance = second_due_at_3; there = (1, lit< tt, refl); is = (refl, refl); least = none_before_3 }),
  lit< tt,
  goes_at_3,
  (5, (due_at_5 ∷ p_due_at_8 ∷ [], behind_3, least_5), lit< tt, goes_at_5, (q_due_at_8 ∷ [], behind_5, not_yet)),
)

pub returns-clause-both : goal.returns-clause-both
returns-clause-both c =
    ([], empty_at_0 ∷ [], q_at_3 ∷ p_at_5 ∷ [], nothing_passes, (empty_at_0, first, refl), (q_at_3 ∷ p_at_5 ∷ [], [], [], both_inserted, refl, refl, refl), refl)

abbrev records : List Record
records = StepRecord empty_at_0.step ∷ Tick 6 ∷ []

pub returns-clause-not_one_alone : goal.returns-clause-not_one_alone
returns-clause-not_one_alone c alone =
    let same =
    c.follows_is_one.ensures.records p_by_5_and_q_by_3 [] records (empty_at_0 ∷ q_at_3 ∷ p_at_5 ∷ []) (empty_at_0 ∷ q_at_3 ∷ []) (tt, tt) (returns-clause-both c) alone
    in
    let lengths : 3 ≡ 2 = ap length same in omega (arith, lengths)

pub returns-clause-not_turned : goal.returns-clause-not_turned
returns-clause-not_turned c turned =
    let same =
    c.follows_is_one.ensures.records p_by_5_and_q_by_3 [] records (empty_at_0 ∷ q_at_3 ∷ p_at_5 ∷ []) (empty_at_0 ∷ p_at_5 ∷ q_at_3 ∷ []) (tt, tt) (returns-clause-both c) turned
    in
    let times : 3 ≡ 5 = ap (λ (l : List ActedStep). (slice_index_or l 1 empty_at_0).step.time) same in
    omega (arith, times)
