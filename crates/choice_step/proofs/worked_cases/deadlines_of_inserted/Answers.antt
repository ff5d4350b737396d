use Rattle.choice_step.proofs.Vocabulary.{rules, ◌≡◌, ℕ, zero, suc, List, [], ◌∷◌, Some, refl, sym, subst, ap, length, inl, inr, lit<, lit≤, arith, ⊎_elim, first_or_later, none_in_nil, no_values}
use Rattle.choice_step.proofs.Vocabulary.{event_p, event_q, Record, StepRecord, Tick, System, Inserted, cause_literal, HasDeadline, NoneIsOver, Pend, Instance, due_at_5, empty_at_0, next_due_at_15}
use Rattle.choice_step.proofs.Vocabulary.{p_with_next, q_at_15, served_at_5, Waiting, GoesOut, InsertsSteps, IsLeastDeadline, NoneIsPassed}
use Rattle.choice_step.proofs.CaseLemmas.{no_p}
use Rattle.choice_step.proofs.worked_cases.deadlines_of_inserted.Goals as goal

-- what the step at 15 begins
abbrev due_at_20 : Instance
due_at_20 = record { rule = 0; node = 0; valuation = no_values; origin = 2; low = 15; high = 20 }

-- ---- what is pending

at_first : Pend p_with_next (empty_at_0.step ∷ []) (due_at_5 ∷ [])
at_first = (
  [],
  refl,
  (
    [],
    due_at_5 ∷ [],
    refl,
    (
      due_at_5 ∷ [],
      [],
      inr ((cause_literal event_p 1, [], search rules), refl),
      ([], [], inl (none_in_nil event_p, refl), refl, refl),
      refl,
    ),
    refl,
  ),
)

behind_5 : Pend p_with_next (empty_at_0.step ∷ served_at_5.step ∷ []) (next_due_at_15 ∷ [])
behind_5 = (
  due_at_5 ∷ [],
  at_first,
  (
    [],
    next_due_at_15 ∷ [],
    ([], [], inl ((lit≤ tt, lit≤ tt), inl ((0, lit< tt, refl), refl), refl), refl, refl),
    (
      [],
      next_due_at_15 ∷ [],
      inl (inl ((0, lit< tt, refl), refl), refl),
      (next_due_at_15 ∷ [], [], inr ((λ none. none (0, lit< tt, refl)), refl), refl, refl),
      refl,
    ),
    refl,
  ),
)

behind_15 : Pend p_with_next (empty_at_0.step ∷ served_at_5.step ∷ q_at_15.step ∷ []) (due_at_20 ∷ [])
behind_15 = (
  next_due_at_15 ∷ [],
  behind_5,
  (
    [],
    due_at_20 ∷ [],
    ([], [], refl, refl, refl),
    (
      due_at_20 ∷ [],
      [],
      inr ((cause_literal event_p 1, [], inr (no_p, refl)), refl),
      ([], [], inl (no_p, refl), refl, refl),
      refl,
    ),
    refl,
  ),
)

-- ---- the deadlines

none_before_5 : NoneIsOver p_with_next (due_at_5 ∷ []) 5
none_before_5 zero d below deadline is = let at = is.1 in omega (arith, at)
none_before_5 (suc k) d below deadline is = absurd (omega (arith, below))

none_before_15 : NoneIsOver p_with_next (next_due_at_15 ∷ []) 15
none_before_15 zero d below deadline is = let at = is.1 in omega (arith, at)
none_before_15 (suc k) d below deadline is = absurd (omega (arith, below))

least_5 : IsLeastDeadline p_with_next (due_at_5 ∷ []) 5
least_5 = record { instance = due_at_5; there = (0, lit< tt, refl); is = (refl, refl); least = none_before_5 }

least_15 : IsLeastDeadline p_with_next (next_due_at_15 ∷ []) 15
least_15 = record { instance = next_due_at_15; there = (0, lit< tt, refl); is = (refl, refl); least = none_before_15 }

not_yet_16 : NoneIsPassed p_with_next (due_at_20 ∷ []) (Some 16)
not_yet_16 i deadline there is passed =
    ⊎_elim
    (λ (same : due_at_20 ≡ i). let at : 20 ≡ deadline = (subst (λ j. HasDeadline p_with_next j deadline) (sym same) is).1 in omega (arith, at, passed))
    (λ none. none_in_nil i none)
    (first_or_later i due_at_20 [] there)

not_yet_15 : NoneIsPassed p_with_next (next_due_at_15 ∷ []) (Some 15)
not_yet_15 i deadline there is passed =
    ⊎_elim
    (λ (same : next_due_at_15 ≡ i). let at : 15 ≡ deadline = (subst (λ j. HasDeadline p_with_next j deadline) (sym same) is).1 in omega (arith, at, passed))
    (λ none. none_in_nil i none)
    (first_or_later i next_due_at_15 [] there)

-- ---- what is emitted

first : GoesOut p_with_next [] System 0 [] empty_at_0
first = record {
  pending = [];
  pend = refl;
  kind_is = refl;
  time_is = refl;
  decided = (refl, (refl, (inl (none_in_nil event_p, refl), tt)));
}

nothing_passes : InsertsSteps p_with_next [] (Some 0) []
nothing_passes = ([], refl, λ i deadline there is passed. none_in_nil i there)

goes_at_5 : GoesOut p_with_next (empty_at_0.step ∷ []) Inserted 5 [] served_at_5
goes_at_5 = record {
  pending = due_at_5 ∷ [];
  pend = at_first;
  kind_is = refl;
  time_is = refl;
  decided = (
    Waiting due_at_5,
    cause_literal event_p 1,
    event_p ∷ [],
    inl (refl, [], search rules),
    refl,
    refl,
    (refl, (search rules, (refl, (inr ((λ none. none (0, lit< tt, refl)), refl), tt)))),
  );
}

goes_at_15 : GoesOut p_with_next (empty_at_0.step ∷ served_at_5.step ∷ []) Inserted 15 [] q_at_15
goes_at_15 = record {
  pending = next_due_at_15 ∷ [];
  pend = behind_5;
  kind_is = refl;
  time_is = refl;
  decided = (
    Waiting next_due_at_15,
    cause_literal event_q 2,
    event_q ∷ [],
    inl (refl, [], inr (none_in_nil event_q, refl)),
    refl,
    refl,
    (refl, (inl ((0, lit< tt, refl), refl), (refl, (inl (no_p, refl), tt)))),
  );
}

abbrev records : ℕ → List Record
records time = StepRecord empty_at_0.step ∷ Tick time ∷ []

pub returns-clause-served : goal.returns-clause-served
returns-clause-served c = (
  [],
  empty_at_0 ∷ [],
  served_at_5 ∷ q_at_15 ∷ [],
  nothing_passes,
  (empty_at_0, first, refl),
  (
    served_at_5 ∷ q_at_15 ∷ [],
    [],
    [],
    (
      5,
      (due_at_5 ∷ [], at_first, least_5),
      lit< tt,
      goes_at_5,
      (
        15,
        (next_due_at_15 ∷ [], behind_5, least_15),
        lit< tt,
        goes_at_15,
        (due_at_20 ∷ [], behind_15, not_yet_16),
      ),
    ),
    refl,
    refl,
    refl,
  ),
  refl,
)

pub returns-clause-not_left_open : goal.returns-clause-not_left_open
returns-clause-not_left_open c left =
    let same =
    c.follows_is_one.ensures.records p_with_next [] (records 16) (empty_at_0 ∷ served_at_5 ∷ q_at_15 ∷ []) (empty_at_0 ∷ served_at_5 ∷ []) (tt, tt) (returns-clause-served c) left
    in
    let lengths : 3 ≡ 2 = ap length same in omega (arith, lengths)

one_at_15 : InsertsSteps p_with_next (empty_at_0.step ∷ []) (Some 15) (served_at_5 ∷ [])
one_at_15 = (5, (due_at_5 ∷ [], at_first, least_5), lit< tt, goes_at_5, (next_due_at_15 ∷ [], behind_5, not_yet_15))

pub returns-clause-not_before : goal.returns-clause-not_before
returns-clause-not_before c early =
    let same =
    c.follows_is_one.ensures.records p_with_next [] (records 15) (empty_at_0 ∷ served_at_5 ∷ []) (empty_at_0 ∷ served_at_5 ∷ q_at_15 ∷ []) (tt, tt)
    ([], empty_at_0 ∷ [], served_at_5 ∷ [], nothing_passes, (empty_at_0, first, refl), (served_at_5 ∷ [], [], [], one_at_15, refl, refl, refl), refl) early
    in
    let lengths : 2 ≡ 3 = ap length same in omega (arith, lengths)
