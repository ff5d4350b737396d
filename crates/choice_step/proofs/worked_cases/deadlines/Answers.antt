use Rattle.choice_step.proofs.Vocabulary.{rules, ◌≡◌, ℕ, zero, suc, List, [], ◌∷◌, Contains, Some, refl, sym, subst, ap, length, slice_index_or, inl, inr, lit<, lit≤, arith, ⊎_elim, event_p, event_q}
use Rattle.choice_step.proofs.Vocabulary.{Record, StepRecord, Tick, System, Inserted, first_or_later, none_in_nil, cause_literal, HasDeadline, NoneIsOver, Pend, Instance, due_at_5, empty_at_0, p_by_5}
use Rattle.choice_step.proofs.Vocabulary.{q_at_7, served_at_5, Waiting, GoesOut, InsertsSteps, IsLeastDeadline, ActedStep}
use Rattle.choice_step.proofs.worked_cases.deadlines.Goals as goal

due : Pend (p_by_5 ∷ []) (empty_at_0.step ∷ []) (due_at_5 ∷ [])
due = ([], refl, ([], due_at_5 ∷ [], refl, (due_at_5 ∷ [], [], inr ((cause_literal event_p 1, [], search rules), refl), refl, refl), refl))

first : GoesOut (p_by_5 ∷ []) [] System 0 [] empty_at_0
first = record { pending = []; pend = refl; kind_is = refl; time_is = refl; decided = (refl, (refl, tt)) }

-- the deadline of the only instance that is pending
at_5 : (i : Instance) (deadline : ℕ) → Contains (due_at_5 ∷ []) i → HasDeadline (p_by_5 ∷ []) i deadline → 5 ≡ deadline
at_5 i deadline there is =
    ⊎_elim
    (λ (same : due_at_5 ≡ i). (subst (λ j. HasDeadline (p_by_5 ∷ []) j deadline) (sym same) is).1)
    (λ none. absurd (none_in_nil i none))
    (first_or_later i due_at_5 [] there)

nothing_passes : InsertsSteps (p_by_5 ∷ []) [] (Some 0) []
nothing_passes = ([], refl, λ i deadline there is passed. none_in_nil i there)

not_yet : InsertsSteps (p_by_5 ∷ []) (empty_at_0.step ∷ []) (Some 5) []
not_yet = (due_at_5 ∷ [], due, λ i deadline there is passed. let at = at_5 i deadline there is in omega (arith, at, passed))

pub returns-clause-not_at_its_time : goal.returns-clause-not_at_its_time
returns-clause-not_at_its_time c =
    ([], empty_at_0 ∷ [], [], nothing_passes, (empty_at_0, first, refl), ([], [], [], not_yet, refl, refl, refl), refl)

none_earlier : NoneIsOver (p_by_5 ∷ []) (due_at_5 ∷ []) 5
none_earlier zero d below deadline is = let at = is.1 in omega (arith, at)
none_earlier (suc k) d below deadline is = absurd (omega (arith, below))

least : IsLeastDeadline (p_by_5 ∷ []) (due_at_5 ∷ []) 5
least = record { instance = due_at_5; there = (0, lit< tt, refl); is = (refl, refl); least = none_earlier }

served : GoesOut (p_by_5 ∷ []) (empty_at_0.step ∷ []) Inserted 5 [] served_at_5
served = record {
  pending = due_at_5 ∷ [];
  pend = due;
  kind_is = refl;
  time_is = refl;
  decided = (Waiting due_at_5, cause_literal event_p 1, event_p ∷ [], inl (refl, [], search rules), refl, refl, (refl, (search rules, (search rules, tt))));
}

nothing_left : Pend (p_by_5 ∷ []) (empty_at_0.step ∷ served_at_5.step ∷ []) []
nothing_left = (
  due_at_5 ∷ [],
  due,
  (
    [],
    [],
    ([], [], inl ((lit≤ tt, lit≤ tt), search rules, refl), refl, refl),
    ([], [], inl (search rules, refl), refl, refl),
    refl,
  ),
)

pub returns-clause-behind_it : goal.returns-clause-behind_it
returns-clause-behind_it c = (
  [],
  empty_at_0 ∷ [],
  served_at_5 ∷ [],
  nothing_passes,
  (empty_at_0, first, refl),
  (
    served_at_5 ∷ [],
    [],
    [],
    (
      5,
      (due_at_5 ∷ [], due, least),
      lit< tt,
      served,
      ([], nothing_left, λ i deadline there is passed. none_in_nil i there),
    ),
    refl,
    refl,
    refl,
  ),
  refl,
)

pub returns-clause-drained : goal.returns-clause-drained
returns-clause-drained c =
    (5, (due_at_5 ∷ [], due, least), tt, served, ([], nothing_left, λ i deadline there is passed. none_in_nil i there))

pub returns-clause-not_later : goal.returns-clause-not_later
returns-clause-not_later c late = let at = at_5 late.instance 6 late.there late.is in omega (arith, at)

pub returns-clause-nothing_left_out : goal.returns-clause-nothing_left_out
returns-clause-nothing_left_out c (pending, pend, none) =
    let same : pending ≡ due_at_5 ∷ [] = c.pending_is_one.ensures.pending (p_by_5 ∷ []) (empty_at_0.step ∷ []) pending (due_at_5 ∷ []) pend due in
    none due_at_5 5 (subst (λ l. Contains l due_at_5) (sym same) (0, lit< tt, refl)) (refl, refl) tt

pub returns-clause-not_a_unit_late : goal.returns-clause-not_a_unit_late
returns-clause-not_a_unit_late c (deadline, (pending, pend, least), passed, served, more) =
    let same : pending ≡ due_at_5 ∷ [] = c.pending_is_one.ensures.pending (p_by_5 ∷ []) (empty_at_0.step ∷ []) pending (due_at_5 ∷ []) pend due in
    let at = at_5 least.instance deadline (subst (λ l. Contains l least.instance) same least.there) least.is in
    let time : 6 ≡ deadline = served.time_is in
    omega (arith, at, time)

abbrev tick : ℕ → List Record
tick time = StepRecord empty_at_0.step ∷ Tick time ∷ []

abbrev then_q : List Record
then_q = StepRecord empty_at_0.step ∷ StepRecord q_at_7.step ∷ []

-- of two outputs of different lengths not both are emitted
not_both : (records : List Record) (out others : List ActedStep) → (length out ≡ length others → ⊥)
    → (out ≡ others) → ⊥
not_both records out others apart same = apart (ap length same)

pub returns-clause-too_early : goal.returns-clause-too_early
returns-clause-too_early c served =
    not_both (tick 5) (empty_at_0 ∷ []) (empty_at_0 ∷ served_at_5 ∷ []) (λ is. omega (arith, is))
    (c.follows_is_one.ensures.records (p_by_5 ∷ []) [] (tick 5) (empty_at_0 ∷ []) (empty_at_0 ∷ served_at_5 ∷ []) (tt, tt) (returns-clause-not_at_its_time c) served)

pub returns-clause-not_left_out : goal.returns-clause-not_left_out
returns-clause-not_left_out c left =
    not_both (tick 6) (empty_at_0 ∷ served_at_5 ∷ []) (empty_at_0 ∷ []) (λ is. omega (arith, is))
    (c.follows_is_one.ensures.records (p_by_5 ∷ []) [] (tick 6) (empty_at_0 ∷ served_at_5 ∷ []) (empty_at_0 ∷ []) (tt, tt) (returns-clause-behind_it c) left)

behind_7 : GoesOut (p_by_5 ∷ []) (empty_at_0.step ∷ served_at_5.step ∷ []) System 7 (event_q ∷ []) q_at_7
behind_7 = record { pending = []; pend = nothing_left; kind_is = refl; time_is = refl; decided = (refl, (search rules, tt)) }

pub returns-clause-before_the_step : goal.returns-clause-before_the_step
returns-clause-before_the_step c = (
  [],
  empty_at_0 ∷ [],
  served_at_5 ∷ q_at_7 ∷ [],
  nothing_passes,
  (empty_at_0, first, refl),
  (
    served_at_5 ∷ [],
    q_at_7 ∷ [],
    [],
    (
      5,
      (due_at_5 ∷ [], due, least),
      lit< tt,
      served,
      ([], nothing_left, λ i deadline there is passed. none_in_nil i there),
    ),
    (q_at_7, behind_7, refl),
    refl,
    refl,
  ),
  refl,
)

pub returns-clause-not_behind_the_step : goal.returns-clause-not_behind_the_step
returns-clause-not_behind_the_step c turned =
    let same =
    c.follows_is_one.ensures.records (p_by_5 ∷ []) [] then_q (empty_at_0 ∷ served_at_5 ∷ q_at_7 ∷ [])
    (empty_at_0 ∷ q_at_7 ∷ served_at_5 ∷ []) (tt, ((none_in_nil event_q, tt), tt))
    (returns-clause-before_the_step c) turned
    in
    let times : 5 ≡ 7 = ap (λ (l : List ActedStep). (slice_index_or l 1 empty_at_0).step.time) same in
    omega (arith, times)
