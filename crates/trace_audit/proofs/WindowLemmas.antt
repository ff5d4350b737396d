-- What an operator on the future asks for from a position on is what it asks for there and from the next position on.
use Rattle.trace_audit.proofs.Vocabulary.{◌≡◌, ℕ, ◌+◌, ◌<◌, ◌≤◌, List, length, sym, subst, arith, inl, inr, ⊎_elim, ◌⊎◌, ◌↔◌, cases_lt, step_at, IsIn, Valuation, Step, elapsed, formula_for}
use Rattle.trace_audit.proofs.Vocabulary.{interval_from_to, Plan, EventuallyPlan, AlwaysPlan, UntilPlan, IsAt, AuditMoment, OperatorAsks, PlanHoldsAt, IsLeftInWindow, ClassicallyOr}
use Rattle.trace_audit.proofs.ResidualLemmas.{IsClassical}

-- ---- positions in a window

module _ (classical : IsClassical) (now : AuditMoment) (trace : List Step) (is : IsAt now trace) where
  abbrev here : ℕ
  here = now.position

  time_here : (step_at trace here).time ≡ now.time
  time_here = is.time

  no_earlier : (j : ℕ) → here ≤ j → j < length trace → now.time ≤ (step_at trace j).time
  no_earlier j from there = let later = is.is_trace.ordered here j from there in omega (arith, later, time_here)

  module _ (low high : ℕ) where
    behind : (j : ℕ) → IsLeftInWindow trace low high (here + 1) j → IsLeftInWindow trace low high here j
    behind j left = record {
      from_there = omega (arith, left.from_there);
      is_there = left.is_there;
      begun = left.begun;
      asked = left.asked;
    }

    now_or_behind : (j : ℕ) → IsLeftInWindow trace low high here j → (here ≡ j) ⊎ IsLeftInWindow trace low high (here + 1) j
    now_or_behind j left = ⊎_elim
        (λ less. inr (record {
          from_there = omega (arith, less);
          is_there = left.is_there;
          begun = left.begun;
          asked = left.asked;
        }))
        (λ most. inl (omega (arith, most, left.from_there)))
        (cases_lt here j)

    at_once : low ≤ now.time → now.time ≤ high → IsLeftInWindow trace low high here here
    at_once lower upper = record {
      from_there = omega arith;
      is_there = is.there;
      begun = omega (arith, lower, time_here);
      asked = omega (arith, upper, time_here);
    }

    time_at : (j : ℕ) → here ≡ j → (step_at trace j).time ≡ now.time
    time_at j same = subst (λ k. (step_at trace k).time ≡ now.time) same time_here

    early : now.time < low → (j : ℕ) → IsLeftInWindow trace low high here j → IsLeftInWindow trace low high (here + 1) j
    early below j left = ⊎_elim
        (λ same. absurd (let time = time_at j same in omega (arith, below, time, left.begun)))
        (λ later. later)
        (now_or_behind j left)

    -- ---- what is over, and what is too early

    module _ (v : Valuation) (node place a b : ℕ) where
      pub eventually_early : (body : Plan) → now.time < low
          → OperatorAsks trace here (EventuallyPlan node place a b body) v low high ↔ OperatorAsks trace (here + 1) (EventuallyPlan node place a b body) v low high
      eventually_early body below = (
        λ asks never. asks (λ met. never (met.0, early below met.0 met.1, met.2)),
        λ asks never. asks (λ met. never (met.0, behind met.0 met.1, met.2)),
      )

      pub eventually_now : (body : Plan) → low ≤ now.time → now.time ≤ high
          → OperatorAsks trace here (EventuallyPlan node place a b body) v low high
          ↔ ClassicallyOr (PlanHoldsAt trace v body here) (OperatorAsks trace (here + 1) (EventuallyPlan node place a b body) v low high)
      eventually_now body lower upper = (
        λ asks not_now not_later. asks (λ met. ⊎_elim
            (λ same. not_now (subst (PlanHoldsAt trace v body) (sym same) met.2))
            (λ later. not_later (λ never. never (met.0, later, met.2)))
            (now_or_behind met.0 met.1)),
        λ either never. either
            (λ holds. never (here, at_once lower upper, holds))
            (λ asks. asks (λ met. never (met.0, behind met.0 met.1, met.2))),
      )

      left_before : (left : Plan) (j : ℕ) → PlanHoldsAt trace v left here
          → ((k : ℕ) → here + 1 ≤ k → k < j → PlanHoldsAt trace v left k) → (k : ℕ) → here ≤ k → k < j
          → PlanHoldsAt trace v left k
      left_before left j holds rest k from before = ⊎_elim
          (λ less. rest k (omega (arith, less)) before)
          (λ most. subst (PlanHoldsAt trace v left) {x = here} {y = k} (omega (arith, most, from)) holds)
          (cases_lt here k)

      -- where the present decides nothing, what is asked stays

      pub eventually_stays : (body : Plan) → (PlanHoldsAt trace v body here → ⊥)
          → OperatorAsks trace here (EventuallyPlan node place a b body) v low high ↔ OperatorAsks trace (here + 1) (EventuallyPlan node place a b body) v low high
      eventually_stays body fails = (
        λ asks never. asks (λ met. ⊎_elim
            (λ same. fails (subst (PlanHoldsAt trace v body) (sym same) met.2))
            (λ later. never (met.0, later, met.2))
            (now_or_behind met.0 met.1)),
        λ asks never. asks (λ met. never (met.0, behind met.0 met.1, met.2)),
      )

      pub always_stays : (body : Plan) → PlanHoldsAt trace v body here
          → OperatorAsks trace here (AlwaysPlan node place a b body) v low high ↔ OperatorAsks trace (here + 1) (AlwaysPlan node place a b body) v low high
      always_stays body holds = (
        λ asks j left. asks j (behind j left),
        λ asks j left. ⊎_elim
            (λ same. subst (PlanHoldsAt trace v body) same holds)
            (λ later. asks j later)
            (now_or_behind j left),
      )

      pub until_stays : (left right : Plan) → (PlanHoldsAt trace v right here → ⊥) → PlanHoldsAt trace v left here
          → OperatorAsks trace here (UntilPlan node place a b left right) v low high
          ↔ OperatorAsks trace (here + 1) (UntilPlan node place a b left right) v low high
      until_stays left right fails holds = (
        λ asks never. asks (λ met. ⊎_elim
            (λ same. fails (subst (PlanHoldsAt trace v right) (sym same) met.2))
            (λ later. never (met.0, later, met.2, λ k from before. met.3 k (omega (arith, from)) before))
            (now_or_behind met.0 met.1)),
        λ asks never. asks (λ met. never (met.0, behind met.0 met.1, met.2, left_before left met.0 holds met.3)),
      )

      pub until_early : (left right : Plan) → now.time < low
          → OperatorAsks trace here (UntilPlan node place a b left right) v low high
          ↔ (PlanHoldsAt trace v left here × OperatorAsks trace (here + 1) (UntilPlan node place a b left right) v low high)
      until_early left right below = (
        λ asks. (
          asks_left asks,
          λ never. asks (λ met. never (met.0, early below met.0 met.1, met.2, λ k from before. met.3 k (omega (arith, from)) before)),
        ),
        λ both never. both.1 (λ met. never (met.0, behind met.0 met.1, met.2, left_before left met.0 both.0 met.3)),
      )
        where
          asks_left : OperatorAsks trace here (UntilPlan node place a b left right) v low high → PlanHoldsAt trace v left here
          asks_left asks = classical trace here v (formula_for left) (λ fails. asks (λ met.
              let later = early below met.0 met.1 in
              fails (met.3 here (omega arith) (omega (arith, later.from_there)))))

      pub until_now : (left right : Plan) → low ≤ now.time → now.time ≤ high
          → OperatorAsks trace here (UntilPlan node place a b left right) v low high
          ↔ ClassicallyOr (PlanHoldsAt trace v right here)
          (PlanHoldsAt trace v left here × OperatorAsks trace (here + 1) (UntilPlan node place a b left right) v low high)
      until_now left right lower upper = (
        λ asks not_now not_later. asks (λ met. ⊎_elim
            (λ same. not_now (subst (PlanHoldsAt trace v right) (sym same) met.2))
            (λ later. not_later (
              met.3 here (omega arith) (omega (arith, later.from_there)),
              λ never. never (met.0, later, met.2, λ k from before. met.3 k (omega (arith, from)) before),
            ))
            (now_or_behind met.0 met.1)),
        λ either never. either
            (λ holds. never (here, at_once lower upper, holds, λ k from before. absurd (omega (arith, from, before))))
            (λ both. both.1 (λ met. never (met.0, behind met.0 met.1, met.2, left_before left met.0 both.0 met.3))),
      )

  -- ---- operators that begin to wait at the position

  in_window : (a b j : ℕ) → here ≤ j → j < length trace → IsIn (interval_from_to a b) (elapsed trace here j)
      → IsLeftInWindow trace (now.time + a) (now.time + b) here j
  in_window a b j from there within =
      let later = no_earlier j from there in record {
        from_there = from;
        is_there = there;
        begun = omega (arith, time_here, later, within.0);
        asked = omega (arith, time_here, later, within.1);
      }

  is_in : (a b j : ℕ) → IsLeftInWindow trace (now.time + a) (now.time + b) here j → IsIn (interval_from_to a b) (elapsed trace here j)
  is_in a b j left = (omega (arith, time_here, left.begun), omega (arith, time_here, left.asked))

  module _ (v : Valuation) (node place a b : ℕ) where
    pub eventually_begun : (body : Plan) → PlanHoldsAt trace v (EventuallyPlan node place a b body) here
        ↔ OperatorAsks trace here (EventuallyPlan node place a b body) v (now.time + a) (now.time + b)
    eventually_begun body = (
      λ holds never. holds (λ met. never (met.0, in_window a b met.0 met.1 met.2 met.3, met.4)),
      λ asks never. asks (λ met. never (met.0, met.1.from_there, met.1.is_there, is_in a b met.0 met.1, met.2, λ k from before. tt)),
    )

    pub always_begun : (body : Plan) → PlanHoldsAt trace v (AlwaysPlan node place a b body) here
        ↔ OperatorAsks trace here (AlwaysPlan node place a b body) v (now.time + a) (now.time + b)
    always_begun body = (
      λ holds j left. classical trace j v (formula_for body) (λ fails.
          holds (λ never. never (j, left.from_there, left.is_there, is_in a b j left, fails, λ k from before. tt))),
      λ asks some. some (λ met. met.4 (asks met.0 (in_window a b met.0 met.1 met.2 met.3))),
    )

    pub until_begun : (left right : Plan) → PlanHoldsAt trace v (UntilPlan node place a b left right) here
        ↔ OperatorAsks trace here (UntilPlan node place a b left right) v (now.time + a) (now.time + b)
    until_begun left right = (
      λ holds never. holds (λ met. never (met.0, in_window a b met.0 met.1 met.2 met.3, met.4, met.5)),
      λ asks never. asks (λ met. never (met.0, met.1.from_there, met.1.is_there, is_in a b met.0 met.1, met.2, met.3)),
    )
