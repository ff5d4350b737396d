use Rattle.rank_check.proofs.Vocabulary.{ℕ, zero, suc, ◌-◌, ◌<◌, ◌≤◌, List, [], ◌∷◌, ◌++◌, length, map, inl, refl, subst, arith, lit<, lit≤, true≢false, All-from_recursion, IsTrace, no_step, step_at}
use Rattle.rank_check.proofs.Vocabulary.{none_in_nil, HasNoRepeats, no_values, Step, at_time, empty_step, event_p, event_q, name_p, Formula, Sat, Good, plan_cause_q, IsAhead, obligation, formula_for}
use Rattle.rank_check.proofs.Vocabulary.{Plan, SuppressPlan, Either, EventuallyPlan, UntilPlan, q_soon}
use Rattle.rank_check.proofs.worked_cases.without_the_mark.Goals as goal

abbrev either : Plan
either = Either 0 q_soon (EventuallyPlan 3 0 0 9 (plan_cause_q 4))

abbrev no_p : Plan
no_p = SuppressPlan 3 0 name_p []

-- ---- owed

at_once : IsAhead empty_step 0 9 0 0
at_once = record { not_before = lit≤ tt; there = lit< tt; distance = (lit≤ tt, lit≤ tt) }

pub returns-clause-side_owed : goal.returns-clause-side_owed
returns-clause-side_owed c = record {
  root = either;
  of_rule = refl;
  begun = 0;
  there = lit< tt;
  moves = obligation q_soon no_values 0 ∷ [];
  leads = (((λ none holds. true≢false none), (λ none holds. true≢false none), inl refl), refl);
}

pub returns-clause-body_owed : goal.returns-clause-body_owed
returns-clause-body_owed c = record {
  root = EventuallyPlan 0 0 0 9 q_soon;
  of_rule = refl;
  begun = 0;
  there = lit< tt;
  moves = obligation q_soon no_values 0 ∷ [];
  leads = ((0, at_once, (λ i ahead before. absurd (omega (arith, before))), refl), refl);
}

pub returns-clause-right_owed : goal.returns-clause-right_owed
returns-clause-right_owed c = record {
  root = UntilPlan 0 0 0 9 no_p q_soon;
  of_rule = refl;
  begun = 0;
  there = lit< tt;
  moves = obligation q_soon no_values 0 ∷ [];
  leads = (inl (0, at_once, (λ i ahead before. absurd (omega (arith, before))), refl), refl);
}

-- ---- lost: no position of a trace that goes on from 5 has q() in time

too_late : (more : List Step) → ((k : ℕ) → k < length more → 5 ≤ (step_at more k).time)
    → Sat (empty_step ++ more) 0 no_values (formula_for q_soon) → ⊥
too_late more later holds = holds (λ met. at met.0 met.2 met.3.1 met.4)
  where
    at : (j : ℕ) → j < length (empty_step ++ more)
        → (step_at (empty_step ++ more) j).time - (step_at (empty_step ++ more) 0).time ≤ 1
        → Sat (empty_step ++ more) j no_values (formula_for (plan_cause_q 2)) → ⊥
    at zero there near holds = none_in_nil event_q holds
    at (suc k) there near holds = let time = later k (omega (arith, there)) in omega (arith, near, time)

pub returns-clause-lost : goal.returns-clause-lost
returns-clause-lost c longer continued holds =
    too_late continued.more (λ k there. continued.later k no_step there)
    (subst (λ (t : List Step). Sat t 0 no_values (formula_for q_soon)) continued.begins holds)

-- ---- good: with q() at 5

abbrev with_q : List Step
with_q = empty_step ++ at_time 5 (event_q ∷ []) ∷ []

with_q_is_trace : IsTrace with_q
with_q_is_trace = record { distinct = distinct; ordered = ordered }
  where
    distinct : (i : ℕ) → i < 2 → HasNoRepeats (step_at with_q i).events
    distinct zero below = tt
    distinct (suc zero) below = (none_in_nil event_q, tt)
    distinct (suc (suc i)) below = absurd (omega (arith, below))

    ordered : (i j : ℕ) → i ≤ j → j < 2 → (step_at with_q i).time ≤ (step_at with_q j).time
    ordered zero j order below = omega arith
    ordered (suc zero) zero order below = absurd (omega (arith, order))
    ordered (suc zero) (suc zero) order below = omega arith
    ordered (suc zero) (suc (suc j)) order below = absurd (omega (arith, below))
    ordered (suc (suc i)) j order below = absurd (omega (arith, order, below))

good_if : (plan : Plan) → Sat with_q 0 no_values (formula_for plan) → Sat with_q 1 no_values (formula_for plan)
    → Good (map formula_for (plan ∷ [])) empty_step 5
good_if plan first second = (
  with_q,
  record {
    more = at_time 5 (event_q ∷ []) ∷ [];
    begins = refl;
    later = All-from_recursion (λ (step : Step). 5 ≤ step.time) (at_time 5 (event_q ∷ []) ∷ []) (lit≤ tt, tt);
    is_trace = with_q_is_trace;
  },
  All-from_recursion (λ (rule : Formula). (i : ℕ) → i < 2 → Sat with_q i no_values rule) (formula_for plan ∷ []) (throughout, tt),
)
  where
    throughout : (i : ℕ) → i < 2 → Sat with_q i no_values (formula_for plan)
    throughout zero below = first
    throughout (suc zero) below = second
    throughout (suc (suc i)) below = absurd (omega (arith, below))

soon : Sat with_q 1 no_values (formula_for q_soon)
soon none = none (1, lit≤ tt, lit< tt, (lit≤ tt, lit≤ tt), (0, lit< tt, refl), λ k from before. tt)

without_p : (k : ℕ) → k < 1 → Sat with_q k no_values (formula_for no_p)
without_p zero below = λ there. none_in_nil event_p there
without_p (suc k) below = absurd (omega (arith, below))

pub returns-clause-side_good : goal.returns-clause-side_good
returns-clause-side_good c = good_if either
    (λ not_soon not_later. not_later (λ none. none (1, lit≤ tt, lit< tt, (lit≤ tt, lit≤ tt), (0, lit< tt, refl), λ k from before. tt)))
    (λ not_soon not_later. not_soon soon)

pub returns-clause-body_good : goal.returns-clause-body_good
returns-clause-body_good c = good_if (EventuallyPlan 0 0 0 9 q_soon)
    (λ none. none (1, lit≤ tt, lit< tt, (lit≤ tt, lit≤ tt), soon, λ k from before. tt))
    (λ none. none (1, lit≤ tt, lit< tt, (lit≤ tt, lit≤ tt), soon, λ k from before. tt))

pub returns-clause-right_good : goal.returns-clause-right_good
returns-clause-right_good c = good_if (UntilPlan 0 0 0 9 no_p q_soon)
    (λ none. none (1, lit≤ tt, lit< tt, (lit≤ tt, lit≤ tt), soon, λ k from before. without_p k before))
    (λ none. none (1, lit≤ tt, lit< tt, (lit≤ tt, lit≤ tt), soon, λ k from before. without_p k before))
