-- Small instances, on which the bounds of what can be pending can be checked by eye.
use Rattle.enf_data.specs.meaning.Valuations.{no_values}
use Rattle.std.specs.Prelude.{ℕ}
use Rattle.plan_terms.specs.machine.Cases.{plan_cause_q}
use Rattle.plan_terms.specs.meaning.Plans.{Plan, EventuallyPlan, AlwaysPlan, NextPlan}
use Rattle.obligations.specs.declared.instances.Instance.{Instance}
use Rattle.obligations.specs.meaning.PendingBounds.{CanWait}

-- q() from 2 to 5 later, at each of these times, and at the next position within 5
abbrev pub soon_q : Plan
soon_q = EventuallyPlan 0 0 2 5 (plan_cause_q 1)

abbrev pub throughout_q : Plan
throughout_q = AlwaysPlan 0 0 2 5 (plan_cause_q 1)

abbrev pub next_q : Plan
next_q = NextPlan 0 0 5 (plan_cause_q 1)

-- begun at a position, with this window
abbrev pub window_from_to : (origin low high : ℕ) → Instance
window_from_to origin low high =
    record { rule = 0; node = 0; valuation = no_values; origin = origin; low = low; high = high }

-- the instance cannot be pending
abbrev pub CannotWait : Plan → (clock position : ℕ) → Instance → Type 0
CannotWait node clock position i = CanWait node clock position i → ⊥
