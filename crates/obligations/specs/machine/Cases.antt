-- Small plans, traces and instances, on which the definitions can be checked by eye.
use Rattle.enf_data.specs.declared.events.Event.{Event}
use Rattle.enf_data.specs.declared.steps.Step.{Step}
use Rattle.enf_data.specs.declared.terms.Term.TheVariants.{Var}
use Rattle.enf_data.specs.declared.values.Value.{Value}
use Rattle.enf_data.specs.declared.values.Value.TheVariants.{Num}
use Rattle.enf_data.specs.meaning.Valuations.{no_values, Valuation, with_values}
use Rattle.std.specs.Prelude.{ℕ, [], List, ◌∷◌, ◌+◌, pos, Bool}
use Rattle.enf_formula.specs.machine.Cases.{name_p, name_q, at_time, variable_x, formula_p_x, event_p_of, event_q_of}
use Rattle.enf_formula.specs.machine.Cases.{event_p}
use Rattle.enf_formula.specs.meaning.Satisfaction.{Formula, True, False}
use Rattle.trace_meaning.specs.declared.kinds.StepKind.{StepKind}
use Rattle.trace_meaning.specs.declared.kinds.StepKind.TheVariants.{System}
use Rattle.plan_terms.specs.machine.Cases.{cause_p}
use Rattle.plan_terms.specs.meaning.Plans.{Plan, SuppressPlan, CausePlan, Guarded, EventuallyPlan, AlwaysPlan}
use Rattle.plan_terms.specs.meaning.Plans.{UntilPlan, NextPlan}
use Rattle.obligations.specs.declared.actions.Action.{Action}
use Rattle.obligations.specs.declared.instances.Instance.{Instance}
use Rattle.obligations.specs.declared.literals.Literal.{Literal}
use Rattle.obligations.specs.declared.literals.LiteralKind.{LiteralKind}
use Rattle.obligations.specs.machine.Residuals.{Residual}
use Rattle.obligations.specs.meaning.Obligations.{Begun, IsJustified}
use Rattle.obligations.specs.meaning.Pending.{MissingOf, After, Pend}
use Rattle.obligations.specs.declared.literals.LiteralKind.TheVariants as kind

-- q() is not to be there
abbrev pub bar_q : (node : ℕ) → Plan
bar_q node = SuppressPlan node 0 name_q []

-- one step at time 5
abbrev pub at_5 : List Event → List Step
at_5 events = at_time 5 events ∷ []

-- a test that holds, and one that does not
abbrev pub true_test : Formula
true_test = True 0

abbrev pub false_test : Formula
false_test = False 0

-- q(x) for each x with p(x)
abbrev pub cause_q_of_x : (node : ℕ) → Plan
cause_q_of_x node = CausePlan node 0 name_q (Var variable_x ∷ [])

abbrev pub each_q : (node : ℕ) → Plan
each_q node = Guarded node (variable_x ∷ []) 0 formula_p_x (cause_q_of_x (node + 1))

-- no p(x) for each x for which the guard holds
abbrev pub bar_p_where : (guard : Formula) → Plan
bar_p_where guard = Guarded 0 (variable_x ∷ []) 0 guard (SuppressPlan 1 0 name_p (Var variable_x ∷ []))

-- p(2) p(1), the greater value first
abbrev pub two_and_one : List Event
two_and_one = event_p_of (Num (pos 2)) ∷ event_p_of (Num (pos 1)) ∷ []

-- p(1), q(1) and q(2)
abbrev pub value_1 : Value
value_1 = Num (pos 1)

abbrev pub value_2 : Value
value_2 = Num (pos 2)

abbrev pub p_of_1 : Event
p_of_1 = event_p_of value_1

abbrev pub q_of_1 : Event
q_of_1 = event_q_of value_1

abbrev pub q_of_2 : Event
q_of_2 = event_q_of value_2

-- an instance of a node of the first rule, which was begun at position 0, with this window
abbrev pub waiting : (node low high : ℕ) → Instance
waiting node low high =
    record { rule = 0; node = node; valuation = no_values; origin = 0; low = low; high = high }

-- what the plan begins at the only step, under no binding, is just this; and it is not
abbrev pub PlanBegins : List Step → Plan → List Instance → Type 0
PlanBegins trace plan instances = Begun trace 0 plan no_values instances

-- a window of ten units that opens at once, and one that opens a unit later
abbrev pub soon_p : (node low : ℕ) → Plan
soon_p node low = EventuallyPlan node 0 low 10 (cause_p (node + 1))

abbrev pub always_p : (node low : ℕ) → Plan
always_p node low = AlwaysPlan node 0 low 10 (cause_p (node + 1))

-- no q() until p()
abbrev pub no_q_until_p : (node low : ℕ) → Plan
no_q_until_p node low = UntilPlan node 0 low 10 (bar_q (node + 1)) (cause_p (node + 2))

abbrev pub next_p : (node : ℕ) → Plan
next_p node = NextPlan node 0 10 (cause_p (node + 1))

-- p() at the next position, for each x with p(x)
abbrev pub each_next : (node : ℕ) → Plan
each_next node = Guarded node (variable_x ∷ []) 0 formula_p_x (next_p (node + 1))

-- x bound to a value
abbrev pub bound_to : Value → Valuation
bound_to value = with_values (variable_x ∷ []) (value ∷ []) no_values

-- begun by that for the value, at position 0 of one step at time 5
abbrev pub next_for : Value → Instance
next_for value = record { rule = 0; node = 1; valuation = bound_to value; origin = 0; low = 5; high = 15 }

-- begun at position 0 of one step at time 5, under no binding
abbrev pub begun_at_5 : (node low high : ℕ) → Instance
begun_at_5 node low high =
    record { rule = 0; node = node; valuation = no_values; origin = 0; low = low; high = high }

-- an instance that was begun at position 0 of one step at time 5 under the second rule, under no binding
abbrev pub second_at_5 : (node low high : ℕ) → Instance
second_at_5 node low high =
    record { rule = 1; node = node; valuation = no_values; origin = 0; low = low; high = high }

-- begun at position 1
abbrev pub begun_then : (node low high : ℕ) → Instance
begun_then node low high =
    record { rule = 0; node = node; valuation = no_values; origin = 1; low = low; high = high }

-- a step at time 1, and one with these events at a time
abbrev pub then_at : ℕ → List Event → List Step
then_at time events = at_time 1 [] ∷ at_time time events ∷ []

-- an instance of the root of the only rule misses this, where its window is from 3 to 6
abbrev pub WaitingMisses : List Step → Plan → (forced : Bool) → List Literal → Type 0
WaitingMisses trace plan forced literals = MissingOf (plan ∷ []) trace (waiting 0 3 6) forced literals

-- an instance of the root of the only rule becomes this, where its window is from 3 to 6
abbrev pub WaitingBecomes : List Step → Plan → List Instance → Type 0
WaitingBecomes trace plan after = After (plan ∷ []) trace (waiting 0 3 6) after

-- an instance of the root of the only rule is owed this by the positions from one on, where its window is from 3 to 6
abbrev pub WaitingOwes : List Step → Plan → (from : ℕ) → Type 0
WaitingOwes trace plan from = Residual (plan ∷ []) trace from (waiting 0 3 6)

-- just these are pending after the trace, under one rule
abbrev pub PlanPends : List Step → Plan → List Instance → Type 0
PlanPends trace plan pending = Pend (plan ∷ []) trace pending

-- an action at a time and the second position for a node of the first rule, which was begun at a position
abbrev pub then_for : (time node leaf origin : ℕ) → Action
then_for time node leaf origin = record {
  kind = kind.Cause;
  event = event_p;
  time = time;
  position = 1;
  rule = 0;
  node = node;
  leaf = leaf;
  origin = origin;
  valuation = no_values;
}

-- an action at time 5 and the first position, for the root of a rule
abbrev pub at_once_for : LiteralKind → Event → (rule leaf : ℕ) → Action
at_once_for k event rule leaf = record {
  kind = k;
  event = event;
  time = 5;
  position = 0;
  rule = rule;
  node = 0;
  leaf = leaf;
  origin = 0;
  valuation = no_values;
}

-- the action is justified at a first step with these events, under p() and no q()
abbrev pub IsRightAtOnce : List Event → Action → Type 0
IsRightAtOnce events action = IsJustified (cause_p 0 ∷ bar_q 0 ∷ []) [] System (at_time 5 events) action

-- an action is justified at a second step without events, under p() within ten units
abbrev pub IsRightThen : List Step → StepKind → (time : ℕ) → Action → Type 0
IsRightThen trace k time action = IsJustified (soon_p 0 0 ∷ []) trace k (at_time time []) action
