-- Small policies, on which the definitions can be checked by eye.
use Rattle.enf_data.specs.declared.events.NameId.{NameId}
use Rattle.std.specs.Prelude.{[], List, ◌∷◌}
use Rattle.enf_formula.specs.machine.Cases.{name_p, name_q, formula_p, formula_q}
use Rattle.plan_terms.specs.machine.Cases.{plan_cause_q}
use Rattle.plan_terms.specs.meaning.Plans.{Plan, CausePlan, Guarded, EventuallyPlan, AlwaysPlan, SuppressPlan}
use Rattle.plan_terms.specs.meaning.Plans.{UntilPlan, NextPlan, Both, Either}
use Rattle.enf_formula.specs.meaning.Satisfaction as tree

-- a third name
abbrev pub name_r : NameId
name_r = record { 0 = 2 }

-- where the first name has an event, the second has one from 1 to 5 later, as p() -> eventually[1,5] q()
abbrev pub soon_after : (first second : NameId) → Plan
soon_after first second = Guarded 0 [] 0 (tree.Atom 0 first []) (EventuallyPlan 1 4 1 5 (CausePlan 2 6 second []))

-- two names, and three, that cause each other in turn
abbrev pub two_in_turn : List Plan
two_in_turn = soon_after name_p name_q ∷ soon_after name_q name_p ∷ []

abbrev pub three_in_turn : List Plan
three_in_turn = soon_after name_p name_q ∷ soon_after name_q name_r ∷ soon_after name_r name_p ∷ []

-- a second name that follows from the first, and a third from the second
abbrev pub in_a_row : List Plan
in_a_row = soon_after name_p name_q ∷ soon_after name_q name_r ∷ []

-- p() -> always[0,9] q()
abbrev pub then_always_q : Plan
then_always_q = Guarded 0 [] 0 formula_p (AlwaysPlan 1 4 0 9 (CausePlan 2 6 name_q []))

-- p() -> (q() -> r()), and with always[0,9] between them
abbrev pub guarded_twice : Plan
guarded_twice = Guarded 0 [] 0 formula_p (Guarded 1 [] 1 formula_q (CausePlan 2 8 name_r []))

abbrev pub then_always_guarded : Plan
then_always_guarded = Guarded 0 [] 0 formula_p (AlwaysPlan 1 4 0 9 (Guarded 2 [] 1 formula_q (CausePlan 3 8 name_r [])))

-- p() -> (not p()) until[0,10] q()
abbrev pub no_p_until_q : Plan
no_p_until_q = Guarded 0 [] 0 formula_p (UntilPlan 1 4 0 10 (SuppressPlan 2 5 name_p []) (CausePlan 3 6 name_q []))

-- p() -> next[0,10] not p()
abbrev pub next_no_p : Plan
next_no_p = Guarded 0 [] 0 formula_p (NextPlan 1 4 10 (SuppressPlan 2 5 name_p []))

-- q() until[0,10] p(), with nothing before it
abbrev pub q_until_p : Plan
q_until_p = UntilPlan 0 4 0 10 (CausePlan 1 5 name_q []) (SuppressPlan 2 6 name_p [])

-- q() is to be there, and not to be there
abbrev pub both_ways : Plan
both_ways = Both 0 (CausePlan 1 3 name_q []) (SuppressPlan 2 5 name_q [])

-- eventually[0,1] q()
abbrev pub q_soon : Plan
q_soon = EventuallyPlan 1 0 0 1 (plan_cause_q 2)

-- plans without the mark, since it looks ahead as one of two sides that do, as a body, and as a right side:
-- (eventually[0,1] q()) or eventually[0,9] q()
abbrev pub q_soon_or_later : List Plan
q_soon_or_later = Either 0 q_soon (EventuallyPlan 3 0 0 9 (plan_cause_q 4)) ∷ []

-- eventually[0,9] eventually[0,1] q()
abbrev pub at_last_q_soon : List Plan
at_last_q_soon = EventuallyPlan 0 0 0 9 q_soon ∷ []

-- (not p()) until[0,9] eventually[0,1] q()
abbrev pub no_p_until_q_soon : List Plan
no_p_until_q_soon = UntilPlan 0 0 0 9 (SuppressPlan 3 0 name_p []) q_soon ∷ []
