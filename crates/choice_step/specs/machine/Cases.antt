-- Small policies and steps, on which the choice loop can be checked by eye.
use Rattle.enf_data.specs.declared.events.Event.{Event}
use Rattle.enf_data.specs.declared.terms.Term.TheVariants.{Const}
use Rattle.enf_data.specs.declared.values.Value.{Value}
use Rattle.enf_data.specs.declared.values.Value.TheVariants.{Num, Text}
use Rattle.enf_data.specs.meaning.Valuations.{no_values}
use Rattle.std.specs.List.{list_all}
use Rattle.std.specs.Prelude.{[], false, List, ℕ, ◌∷◌, Bool, true}
use Rattle.enf_formula.specs.machine.Cases.{name_p, name_q, formula_q, event_p, event_q, formula_p, at_time, variable_x}
use Rattle.enf_formula.specs.meaning.Satisfaction.{Not}
use Rattle.trace_meaning.specs.declared.kinds.StepKind.{StepKind}
use Rattle.trace_meaning.specs.declared.kinds.StepKind.TheVariants.{System, Inserted}
use Rattle.trace_meaning.specs.meaning.Traces.{Record}
use Rattle.plan_terms.specs.machine.Cases.{cause_p}
use Rattle.plan_terms.specs.meaning.Plans.{Plan, CausePlan, SuppressPlan, TestOr, EventuallyPlan, AlwaysPlan, NextPlan}
use Rattle.plan_terms.specs.meaning.Plans.{Both, Either}
use Rattle.obligations.specs.declared.actions.Action.{Action}
use Rattle.obligations.specs.declared.instances.Instance.{Instance}
use Rattle.obligations.specs.declared.literals.LiteralKind.{LiteralKind}
use Rattle.obligations.specs.machine.Cases.{value_1, each_q, bar_q, at_5, soon_p, cause_q_of_x}
use Rattle.choice_step.specs.machine.FittingEvents.{CausesFit}
use Rattle.choice_step.specs.meaning.ActedSteps.{ActedStep, AllAreJustified}
use Rattle.choice_step.specs.meaning.Choice.{Decides}
use Rattle.choice_step.specs.meaning.Follows.{Follows, FollowsDrain}
use Rattle.obligations.specs.declared.literals.LiteralKind.TheVariants as kind

-- p() is to be there, and q() is not to be
abbrev pub p_is_there : Plan
p_is_there = CausePlan 0 0 name_p []

abbrev pub q_is_not : Plan
q_is_not = SuppressPlan 0 0 name_q []

-- the choice loop decides so at a step of the system at time 5, which is the first of the trace, with nothing pending
abbrev pub Chooses : List Plan → (before : List Event) → List Action → (after : List Event) → Type 0
Chooses plans before actions after = Decides plans [] [] false 5 before actions after

-- an action for the root of a rule at that step, which a leaf of its plan wants
abbrev pub for_leaf : LiteralKind → Event → (rule leaf : ℕ) → Action
for_leaf kind event rule leaf = record {
  kind = kind;
  event = event;
  time = 5;
  position = 0;
  rule = rule;
  node = 0;
  leaf = leaf;
  origin = 0;
  valuation = no_values;
}

-- the action for the root of a rule that is itself the leaf which wants it
abbrev pub for_root : LiteralKind → Event → (rule : ℕ) → Action
for_root kind event rule = for_leaf kind event rule 0

-- a third event, and what wants q() and r()
abbrev pub event_r : Event
event_r = record { name = record { 0 = 2 }; args = [] }

abbrev pub q_is_there : Plan
q_is_there = CausePlan 0 0 name_q []

abbrev pub r_is_there : Plan
r_is_there = CausePlan 0 0 event_r.name []

-- p() is to be there where q() is, and where q() is not
abbrev pub p_where_q : Plan
p_where_q = TestOr 0 0 (Not 0 formula_q) (CausePlan 1 0 name_p [])

abbrev pub p_where_no_q : Plan
p_where_no_q = TestOr 0 0 formula_q (CausePlan 1 0 name_p [])

-- the rule that a later one's event wakes is asked again before the third
abbrev pub ChoosesWoken : (actions : List Action) → (after : List Event) → Type 0
ChoosesWoken actions after = Chooses (p_where_q ∷ q_is_there ∷ r_is_there ∷ []) [] actions after

-- p() by time 5, which was begun before
abbrev pub p_by_5 : Plan
p_by_5 = EventuallyPlan 0 0 0 5 (CausePlan 1 0 name_p [])

abbrev pub due_at_5 : Instance
due_at_5 = record { rule = 0; node = 0; valuation = no_values; origin = 0; low = 0; high = 5 }

-- q() by time 5, under the second rule
abbrev pub q_by_5 : Plan
q_by_5 = EventuallyPlan 0 0 0 5 (CausePlan 1 0 name_q [])

abbrev pub second_due_at_5 : Instance
second_due_at_5 = record { rule = 1; node = 0; valuation = no_values; origin = 0; low = 0; high = 5 }

-- a step at time 5 after one without events at time 0, where that is pending
abbrev pub ChoosesDue : (inserted : Bool) → (before : List Event) → List Action → (after : List Event) → Type 0
ChoosesDue inserted before actions after =
    Decides (p_by_5 ∷ []) (record { time = 0; events = [] } ∷ []) (due_at_5 ∷ []) inserted
    5 before actions after

abbrev pub for_due : Action
for_due = record {
  kind = kind.Cause;
  event = event_p;
  time = 5;
  position = 1;
  rule = 0;
  node = 0;
  leaf = 1;
  origin = 0;
  valuation = no_values;
}

-- a step of the system without events at time 0, and a step with p() that is inserted at 5
abbrev pub empty_at_0 : ActedStep
empty_at_0 = record { kind = System; step = record { time = 0; events = [] }; actions = [] }

abbrev pub served_at_5 : ActedStep
served_at_5 = record { kind = Inserted; step = record { time = 5; events = event_p ∷ [] }; actions = for_due ∷ [] }

-- what is emitted for these records from the empty trace on, where p() is to come within 5
abbrev pub GoesFor : List Record → List ActedStep → Type 0
GoesFor records out = Follows (p_by_5 ∷ []) [] records out

-- what is emitted after the step at time 0 until nothing is pending, where p() is to come within 5
abbrev pub DrainsInTime : List ActedStep → Type 0
DrainsInTime out = FollowsDrain (p_by_5 ∷ []) (empty_at_0.step ∷ []) out

-- a step at time 5 after one without events at time 0, under a second rule by which q() is to be there
abbrev pub ChoosesDueAndRoot : (actions : List Action) → (after : List Event) → Type 0
ChoosesDueAndRoot actions after = Decides (p_by_5 ∷ CausePlan 0 0 name_q [] ∷ [])
    (record { time = 0; events = [] } ∷ []) (due_at_5 ∷ []) true 5 [] actions after

abbrev pub for_second_root : Action
for_second_root = record {
  kind = kind.Cause;
  event = event_q;
  time = 5;
  position = 1;
  rule = 1;
  node = 0;
  leaf = 0;
  origin = 1;
  valuation = no_values;
}

-- a step at which two pending instances are forced
abbrev pub ChoosesDueTwice : (actions : List Action) → (after : List Event) → Type 0
ChoosesDueTwice actions after = Decides (p_by_5 ∷ q_by_5 ∷ [])
    (record { time = 0; events = [] } ∷ []) (due_at_5 ∷ second_due_at_5 ∷ []) true 5 [] actions after

-- a step of the system with q() after the deadline, in which nothing is done
abbrev pub q_at_7 : ActedStep
q_at_7 = record { kind = System; step = record { time = 7; events = event_q ∷ [] }; actions = [] }

-- the step that serves the deadline, a unit late
abbrev pub served_at_6 : ActedStep
served_at_6 = record { kind = Inserted; step = record { time = 6; events = event_p ∷ [] }; actions = for_due ∷ [] }

-- q(x) for each x with p(x), and p(1) under the second rule
abbrev pub p_of_1_is_there : Plan
p_of_1_is_there = CausePlan 0 0 name_p (Const value_1 ∷ [])

abbrev pub ChoosesFed : (actions : List Action) → (after : List Event) → Type 0
ChoosesFed actions after = Chooses (each_q 0 ∷ p_of_1_is_there ∷ []) [] actions after

-- q() at each time up to ten units on, under the second rule, which was begun before
abbrev pub q_always : Plan
q_always = AlwaysPlan 0 0 0 10 (CausePlan 1 0 name_q [])

abbrev pub always_to_10 : Instance
always_to_10 = record { rule = 1; node = 0; valuation = no_values; origin = 0; low = 0; high = 10 }

abbrev pub ChoosesDueAndAlways : (actions : List Action) → (after : List Event) → Type 0
ChoosesDueAndAlways actions after = Decides (p_by_5 ∷ q_always ∷ [])
    (record { time = 0; events = [] } ∷ []) (due_at_5 ∷ always_to_10 ∷ []) true 5 [] actions after

-- q() within 3 under the second rule, and what is emitted where p() is to come within 5 under the first
abbrev pub q_by_3 : Plan
q_by_3 = EventuallyPlan 0 0 0 3 (CausePlan 1 0 name_q [])

abbrev pub p_by_5_and_q_by_3 : List Plan
p_by_5_and_q_by_3 = p_by_5 ∷ q_by_3 ∷ []

abbrev pub GoesForBoth : List Record → List ActedStep → Type 0
GoesForBoth records out = Follows p_by_5_and_q_by_3 [] records out

abbrev pub second_due_at_3 : Instance
second_due_at_3 = record { rule = 1; node = 0; valuation = no_values; origin = 0; low = 0; high = 3 }

-- q() is inserted at time 3, and p() at 5
abbrev pub for_second_at : (time position : ℕ) → Action
for_second_at time position = record {
  kind = kind.Cause;
  event = event_q;
  time = time;
  position = position;
  rule = 1;
  node = 0;
  leaf = 1;
  origin = 0;
  valuation = no_values;
}

abbrev pub q_at_3 : ActedStep
q_at_3 = record
    { kind = Inserted; step = record { time = 3; events = event_q ∷ [] }; actions = for_second_at 3 1 ∷ [] }

abbrev pub p_at_5 : ActedStep
p_at_5 = record {
  kind = Inserted;
  step = record { time = 5; events = event_p ∷ [] };
  actions = record {
    kind = kind.Cause;
    event = event_p;
    time = 5;
    position = 2;
    rule = 0;
    node = 0;
    leaf = 1;
    origin = 0;
    valuation = no_values;
  } ∷ [];
}

-- q() at the position after p(), within ten units, under the second rule
abbrev pub q_next_to_p : Plan
q_next_to_p = TestOr 0 0 (Not 0 formula_p) (NextPlan 1 0 10 (CausePlan 2 0 name_q []))

-- the plans and what is emitted where p() is to come within 5 under the first rule, and q() next to p() under the
-- second
abbrev pub p_with_next : List Plan
p_with_next = p_by_5 ∷ q_next_to_p ∷ []

abbrev pub GoesForNext : List Record → List ActedStep → Type 0
GoesForNext records out = Follows p_with_next [] records out

-- what the step at 5 begins, and the step that serves it
abbrev pub next_due_at_15 : Instance
next_due_at_15 = record { rule = 1; node = 1; valuation = no_values; origin = 1; low = 5; high = 15 }

abbrev pub q_at_15 : ActedStep
q_at_15 = record {
  kind = Inserted;
  step = record { time = 15; events = event_q ∷ [] };
  actions = record {
    kind = kind.Cause;
    event = event_q;
    time = 15;
    position = 2;
    rule = 1;
    node = 1;
    leaf = 2;
    origin = 1;
    valuation = no_values;
  } ∷ [];
}

-- p() is to be there where q() is, up to time 5, or else p() and r()
abbrev pub p_up_to_5 : Plan
p_up_to_5 = AlwaysPlan 1 0 0 5 (TestOr 2 0 (Not 0 formula_q) (CausePlan 3 0 name_p []))

abbrev pub p_and_r : Plan
p_and_r = Both 4 (CausePlan 5 0 name_p []) (CausePlan 6 0 event_r.name [])

-- both sides miss something where q() is there; p() is caused for the right one, and with it the left one is met
abbrev pub ChoosesSide : (actions : List Action) → (after : List Event) → Type 0
ChoosesSide actions after = Chooses (Either 0 p_up_to_5 p_and_r ∷ []) (event_q ∷ []) actions after

-- under p() and no q(), what is emitted first for a step at time 5 with these events
abbrev pub AreRightAtOnce : (before : List Event) → List ActedStep → Type 0
AreRightAtOnce before out = AllAreJustified (cause_p 0 ∷ bar_q 0 ∷ []) [] (at_time 5 before ∷ []) out

-- under p() within ten units, what is emitted for no record after a step at time 5 without events
abbrev pub AreRightThen : List ActedStep → Type 0
AreRightThen out = AllAreJustified (soon_p 0 0 ∷ []) (at_5 []) [] out

-- a step of a kind with these events at the end, by these actions
abbrev pub acted_at : StepKind → (time : ℕ) → List Event → List Action → ActedStep
acted_at k time events actions = record { kind = k; step = at_time time events; actions = actions }

-- a number passes the test, and an event where all of its arguments do
abbrev pub is_number : Value → Bool
is_number (Num n) = true
is_number (Text bytes) = false

abbrev pub is_of_numbers : Event → Bool
is_of_numbers event = list_all is_number event.args

-- the plan for q(x) causes events that pass the test of numbers, where x stands for values that pass another test
abbrev pub CausesNumbers : (right : Value → Bool) → Type 0
CausesNumbers right = CausesFit is_of_numbers (λ y value. right value) (cause_q_of_x 0) (variable_x ∷ [])
