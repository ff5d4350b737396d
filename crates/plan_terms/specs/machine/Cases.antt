-- Small plans, on which the definitions can be checked by eye.
use Rattle.enf_data.specs.declared.steps.Step.{Step}
use Rattle.enf_data.specs.declared.terms.Term.TheVariants.{Var}
use Rattle.enf_data.specs.declared.terms.VarId.{VarId}
use Rattle.enf_data.specs.declared.values.Value.{Value}
use Rattle.enf_data.specs.meaning.Valuations.{no_values, Valuation, with_values}
use Rattle.std.specs.List.{find}
use Rattle.std.specs.Prelude.{ℕ, List, map, Option, [], ◌∷◌, ◌+◌}
use Rattle.enf_formula.specs.machine.Cases.{variable_x, name_q, formula_p_x, name_p, formula_p, two_steps}
use Rattle.enf_formula.specs.meaning.Satisfaction.{Formula}
use Rattle.trace_meaning.specs.meaning.Traces.{last_time}
use Rattle.plan_terms.specs.meaning.Plans.{nodes, node_number, has_number, Plan, CausePlan, EventuallyPlan, Guarded}
use Rattle.plan_terms.specs.meaning.Plans.{SuppressPlan, UntilPlan, Either, TestOr, Both}
use Rattle.plan_terms.specs.meaning.Owed.{LeadsTo, obligation, IsLost, IsOwed}
use Rattle.enf_formula.specs.meaning.Satisfaction as tree

-- the numbers of the nodes in pre-order
abbrev pub node_numbers : Plan → List ℕ
node_numbers plan = map node_number (nodes plan)

-- the node with a number
abbrev pub node_with : ℕ → Plan → Option Plan
node_with number plan = find (has_number number) (nodes plan)

-- q(x) within 30 for each x with p(x)
abbrev pub plan_cause_q_x : Plan
plan_cause_q_x = CausePlan 2 7 name_q (Var variable_x ∷ [])

abbrev pub soon_q_x : Plan
soon_q_x = EventuallyPlan 1 5 0 30 plan_cause_q_x

abbrev pub each_soon : Plan
each_soon = Guarded 0 (variable_x ∷ []) 0 formula_p_x soon_q_x

-- no p() until q(), from 1 to 10 later; and p() now, or the test p() and q() now
abbrev pub wait : (node : ℕ) → Plan
wait node = UntilPlan node 4 1 10 (SuppressPlan (node + 1) 3 name_p []) (CausePlan (node + 2) 6 name_q [])

abbrev pub choice : (node : ℕ) → Plan
choice node = Either node (CausePlan (node + 1) 8 name_p [])
    (TestOr (node + 2) 1 formula_p (CausePlan (node + 3) 9 name_q []))

abbrev pub wait_and_choice : Plan
wait_and_choice = Both 0 (wait 1) (choice 4)

-- both sides have the number 1
abbrev pub twice_one : Plan
twice_one = Both 0 (CausePlan 1 3 name_p []) (CausePlan 1 5 name_q [])

-- a second variable, and q(x, y)
abbrev pub plan_terms_y : VarId
plan_terms_y = record { 0 = 1 }

abbrev pub cause_q_x_y : Plan
cause_q_x_y = CausePlan 2 9 name_q (Var variable_x ∷ Var plan_terms_y ∷ [])

-- for each x with p(x) and then for each of these variables with p of them, q(x, y)
abbrev pub guarded_each : List VarId → Formula → Plan
guarded_each xs test = Guarded 0 (variable_x ∷ []) 0 formula_p_x (Guarded 1 xs 1 test cause_q_x_y)

abbrev pub p_y : Formula
p_y = tree.Atom 0 name_p (Var plan_terms_y ∷ [])

-- p holds of some value
abbrev pub some_p : VarId → Formula
some_p bound = tree.Exists 0 (bound ∷ []) (tree.Atom 0 name_p (Var bound ∷ []))

-- the only guard of each_soon
abbrev pub guards_soon : List (Formula × List VarId)
guards_soon = (formula_p_x, []) ∷ []

-- p() is to be there, and q() is
abbrev pub cause_p : (node : ℕ) → Plan
cause_p node = CausePlan node 0 name_p []

abbrev pub plan_cause_q : (node : ℕ) → Plan
plan_cause_q node = CausePlan node 0 name_q []

-- in one move a node at a position leads to another at one, where nothing is bound and the clock is at the last time
abbrev pub MovesTo : List Step → (from : Plan) → (position : ℕ) → (to : Plan) → (then : ℕ) → Type 0
MovesTo trace from position to then =
    LeadsTo trace (last_time trace) from no_values position (obligation to no_values then)

-- x bound to a value
abbrev pub x_is : Value → Valuation
x_is value = with_values (variable_x ∷ []) (value ∷ []) no_values

-- q(x) within 30 for each x with p(x) leads to the node below the guard for a value, at the first step
abbrev pub MovesFor : List Step → Value → Type 0
MovesFor trace value = LeadsTo trace (last_time trace) each_soon no_values 0 (obligation soon_q_x (x_is value) 0)

-- the node is lost at a position where nothing is bound
abbrev pub IsLostNow : List Step → (clock : ℕ) → Plan → (position : ℕ) → Type 0
IsLostNow trace clock node position = IsLost trace clock node no_values position

-- two rules that want p() and q(), which owe a node at a position
abbrev pub IsOwedBy : (rule : ℕ) → Plan → (position : ℕ) → Type 0
IsOwedBy rule node position = IsOwed (cause_p 0 ∷ plan_cause_q 0 ∷ []) two_steps 3 rule node no_values position

-- q(x) within 30 for each x with p(x), which owes a node for a value at a position
abbrev pub IsOwedSoon : List Step → Plan → Value → (position : ℕ) → Type 0
IsOwedSoon trace node value position = IsOwed (each_soon ∷ []) trace (last_time trace) 0 node (x_is value) position
