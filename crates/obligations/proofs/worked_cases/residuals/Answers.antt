use Rattle.obligations.proofs.Vocabulary.{ℕ, zero, suc, ◌<◌, ◌≤◌, List, [], ◌∷◌, Contains, refl, arith, lit<, lit≤, step_at, Event, event_p, event_q, none_in_nil, then_at, waiting, IsPositionLeft}
use Rattle.obligations.proofs.worked_cases.residuals.Goals as goal

-- the second position is left where its time is in the window
left : (time : ℕ) → 3 ≤ time → time ≤ 6 → (events : List Event) → IsPositionLeft (then_at time events) (waiting 0 3 6) 1 1
left time low high events = record { from_there = lit≤ tt; is_there = lit< tt; in_window = (low, high) }

-- and no position is left after a second one that is not in the window
none_left : (time : ℕ) → 6 < time → (events : List Event) → (j : ℕ)
    → IsPositionLeft (then_at time events) (waiting 0 3 6) 1 j → ⊥
none_left time late events zero is = omega (arith, is.from_there)
none_left time late events (suc zero) is = omega (arith, late, is.in_window.1)
none_left time late events (suc (suc j)) is = omega (arith, is.is_there)

no_p : Contains [] event_p → ⊥
no_p there = none_in_nil event_p there

pub returns-clause-eventually_at_the_end : goal.returns-clause-eventually_at_the_end
returns-clause-eventually_at_the_end c never =
    never (1, left 6 (lit≤ tt) (lit≤ tt) (event_p ∷ []), (0, lit< tt, refl))

pub returns-clause-eventually_too_late : goal.returns-clause-eventually_too_late
returns-clause-eventually_too_late c owed =
    owed (λ some. none_left 7 (lit< tt) (event_p ∷ []) some.0 some.1)

pub returns-clause-eventually_behind : goal.returns-clause-eventually_behind
returns-clause-eventually_behind c owed =
    owed (λ some. let from = some.1.from_there in let there = some.1.is_there in omega (arith, from, there))

pub returns-clause-always_at_the_end : goal.returns-clause-always_at_the_end
returns-clause-always_at_the_end c zero is = absurd (omega (arith, is.from_there))
returns-clause-always_at_the_end c (suc zero) is = (0, lit< tt, refl)
returns-clause-always_at_the_end c (suc (suc j)) is = absurd (omega (arith, is.is_there))

pub returns-clause-always_broken : goal.returns-clause-always_broken
returns-clause-always_broken c owed = no_p (owed 1 (left 6 (lit≤ tt) (lit≤ tt) []))

pub returns-clause-always_is_over : goal.returns-clause-always_is_over
returns-clause-always_is_over c j is = absurd (none_left 7 (lit< tt) [] j is)

pub returns-clause-until_at_once : goal.returns-clause-until_at_once
returns-clause-until_at_once c never =
    never (1, left 3 (lit≤ tt) (lit≤ tt) (event_p ∷ event_q ∷ []), (0, lit< tt, refl), λ k from before. absurd (omega (arith, from, before)))

never : (j : ℕ) → IsPositionLeft (then_at 4 []) (waiting 0 3 6) 1 j → Contains (step_at (then_at 4 []) j).events event_p → ⊥
never zero is there = omega (arith, is.from_there)
never (suc zero) is there = no_p there
never (suc (suc j)) is there = omega (arith, is.is_there)

pub returns-clause-until_never : goal.returns-clause-until_never
returns-clause-until_never c owed = owed (λ some. never some.0 some.1 some.2)
