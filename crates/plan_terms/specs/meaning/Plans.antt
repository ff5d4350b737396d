-- Plans as trees, how a formula is to be made true: their nodes, names, formulas, guards and triggers.
use Rattle.enf_data.specs.declared.events.NameId.{NameId}
use Rattle.enf_data.specs.declared.terms.Term.{Term}
use Rattle.enf_data.specs.declared.terms.VarId.{VarId}
use Rattle.std.specs.Prelude.{ℕ, List, [], ◌∷◌, ◌++◌, Bool, nat_eq, Some, slice_get, true, false, Option, None}
use Rattle.std.specs.Prelude.{Contains}
use Rattle.enf_formula.specs.meaning.Satisfaction.{Formula, And, Atom, Exists, Or}
use Rattle.std.specs.List.{list_any, find, flat_map}
use Rattle.enf_data.specs.declared.intervals.Interval.{Interval}
use Rattle.std.specs.Option.{option_or}
use Rattle.enf_formula.specs.meaning.Satisfaction as tree

-- each node begins with its number; a guard's number is that of its test
pub data Plan : Type 0 where
  CausePlan : (node place : ℕ) → NameId → List Term → Plan
  SuppressPlan : (node place : ℕ) → NameId → List Term → Plan
  Both : (node : ℕ) → Plan → Plan → Plan
  Either : (node : ℕ) → Plan → Plan → Plan
  TestOr : (node guard : ℕ) → (test : Formula) → Plan → Plan
  Guarded : (node : ℕ) → List VarId → (guard : ℕ) → (test : Formula) → Plan → Plan
  EventuallyPlan : (node place low high : ℕ) → Plan → Plan
  AlwaysPlan : (node place low high : ℕ) → Plan → Plan
  UntilPlan : (node place low high : ℕ) → Plan → Plan → Plan
  NextPlan : (node place high : ℕ) → Plan → Plan

-- ---- The nodes of a plan: their numbers, deadlines and interval ends, and the node of a rule with a number.

-- the end of the interval of a node with a deadline
abbrev pub window_end : Plan → ℕ
window_end (EventuallyPlan node place low high body) = high
window_end (UntilPlan node place low high left right) = high
window_end (NextPlan node place high body) = high
window_end plan = 0

-- the nodes in pre-order, each with all that stands below it
abbrev pub nodes : Plan → List Plan
nodes (Both node left right) = Both node left right ∷ nodes left ++ nodes right
nodes (Either node left right) = Either node left right ∷ nodes left ++ nodes right
nodes (TestOr node guard test body) = TestOr node guard test body ∷ nodes body
nodes (Guarded node vars guard test body) = Guarded node vars guard test body ∷ nodes body
nodes (EventuallyPlan node place low high body) = EventuallyPlan node place low high body ∷ nodes body
nodes (AlwaysPlan node place low high body) = AlwaysPlan node place low high body ∷ nodes body
nodes (UntilPlan node place low high left right) = UntilPlan node place low high left right ∷ nodes left ++ nodes right
nodes (NextPlan node place high body) = NextPlan node place high body ∷ nodes body
nodes plan = plan ∷ []

-- the number that a node keeps
abbrev pub node_number : Plan → ℕ
node_number (CausePlan node place name terms) = node
node_number (SuppressPlan node place name terms) = node
node_number (Both node left right) = node
node_number (Either node left right) = node
node_number (TestOr node guard test body) = node
node_number (Guarded node vars guard test body) = node
node_number (EventuallyPlan node place low high body) = node
node_number (AlwaysPlan node place low high body) = node
node_number (UntilPlan node place low high left right) = node
node_number (NextPlan node place high body) = node

-- the node keeps this number
abbrev pub has_number : ℕ → Plan → Bool
has_number number plan = nat_eq (node_number plan) number

-- the node is an operator on the future
abbrev pub is_future : Plan → Bool
is_future (EventuallyPlan node place low high body) = true
is_future (AlwaysPlan node place low high body) = true
is_future (UntilPlan node place low high left right) = true
is_future (NextPlan node place high body) = true
is_future plan = false

-- some node of the plan is an operator on the future
abbrev pub has_future : Plan → Bool
has_future plan = list_any is_future (nodes plan)

-- the node has a deadline: the end of its window is the last time at which it can be met
abbrev pub has_deadline : Plan → Bool
has_deadline (EventuallyPlan node place low high body) = true
has_deadline (UntilPlan node place low high left right) = true
has_deadline (NextPlan node place high body) = true
has_deadline plan = false

-- the nodes of a plan, where there is one
abbrev pub nodes_of : Option Plan → List Plan
nodes_of None = []
nodes_of (Some plan) = nodes plan

-- the first node with a number in the plan of a rule
abbrev pub node_in : List Plan → (rule number : ℕ) → Option Plan
node_in plans rule number = find (has_number number) (nodes_of (slice_get plans rule))

-- ---- Which names the plans of a policy cause and suppress.

-- the name that a node itself causes
abbrev pub caused_at : Plan → List NameId
caused_at (CausePlan node place name terms) = name ∷ []
caused_at plan = []

-- the name that a node itself suppresses
abbrev pub suppressed_at : Plan → List NameId
suppressed_at (SuppressPlan node place name terms) = name ∷ []
suppressed_at plan = []

-- the names that the nodes of a plan cause, in pre-order
abbrev pub caused_below : Plan → List NameId
caused_below plan = flat_map caused_at (nodes plan)

abbrev pub suppressed_below : Plan → List NameId
suppressed_below plan = flat_map suppressed_at (nodes plan)

-- some plan causes the name
abbrev pub IsCaused : List Plan → NameId → Type 0
IsCaused plans name = Contains (flat_map caused_below plans) name

abbrev pub IsSuppressed : List Plan → NameId → Type 0
IsSuppressed plans name = Contains (flat_map suppressed_below plans) name

-- the name is both caused and suppressed
abbrev pub Clashes : List Plan → NameId → Type 0
Clashes plans name = IsCaused plans name × IsSuppressed plans name

-- no name is both caused and suppressed
abbrev pub NothingClashes : List Plan → Type 0
NothingClashes plans = (name : NameId) → Clashes plans name → ⊥

-- ---- The formula that a plan stands for, and the policy that plans stand for.

-- the interval from `low` to `high`, both included
abbrev pub interval_from_to : ℕ → ℕ → Interval
interval_from_to low high = record { low = low; high = Some high }

-- a leaf is its atom or the denial of it, and an operator is the same operator; the place is 0 where the plan keeps
-- none, and a place has no part in a formula's meaning
abbrev pub formula_for : Plan → Formula
formula_for (CausePlan node place name terms) = tree.Atom place name terms
formula_for (SuppressPlan node place name terms) = tree.Not 0 (tree.Atom place name terms)
formula_for (Both node left right) = tree.And 0 (formula_for left) (formula_for right)
formula_for (Either node left right) = tree.Or 0 (formula_for left) (formula_for right)
formula_for (TestOr node guard test body) = tree.Or 0 test (formula_for body)
formula_for (Guarded node vars guard test body) = tree.Forall 0 vars (tree.Implies 0 test (formula_for body))
formula_for (EventuallyPlan node place low high body) = tree.Eventually place (interval_from_to low high)
    (formula_for body)
formula_for (AlwaysPlan node place low high body) = tree.Always place (interval_from_to low high) (formula_for body)
formula_for (UntilPlan node place low high left right) =
    tree.Until place (interval_from_to low high) (formula_for left) (formula_for right)
formula_for (NextPlan node place high body) = tree.Next place (interval_from_to 0 high) (formula_for body)

-- ---- The guards and tests of plans, each with the variables in scope where it stands.

-- the guards and tests of a plan in pre-order, where some variables are in scope at its root
abbrev pub guards_of_plan : Plan → (scope : List VarId) → List (Formula × List VarId)
guards_of_plan (Both node left right) scope = guards_of_plan left scope ++ guards_of_plan right scope
guards_of_plan (Either node left right) scope = guards_of_plan left scope ++ guards_of_plan right scope
guards_of_plan (TestOr node guard test body) scope = (test, scope) ∷ guards_of_plan body scope
guards_of_plan (Guarded node vars guard test body) scope = (test, scope) ∷ guards_of_plan body (scope ++ vars)
guards_of_plan (EventuallyPlan node place low high body) scope = guards_of_plan body scope
guards_of_plan (AlwaysPlan node place low high body) scope = guards_of_plan body scope
guards_of_plan (UntilPlan node place low high left right) scope = guards_of_plan left scope ++ guards_of_plan right
    scope
guards_of_plan (NextPlan node place high body) scope = guards_of_plan body scope
guards_of_plan plan scope = []

-- the guards and tests of the plans of a policy, in rule order
abbrev pub all_guards : List Plan → List (Formula × List VarId)
all_guards plans = flat_map (λ plan. guards_of_plan plan []) plans

-- ---- The names whose events trigger a guard.

-- the names of two lists together, where both are there
abbrev pub of_each : Option (List NameId) → Option (List NameId) → Option (List NameId)
of_each (Some xs) (Some ys) = Some (xs ++ ys)
of_each xs ys = None

-- the names of which at least one has an event at each position at which the formula holds, if the formula tells such
-- names: those of the first side of an `and` that tells some, and those of both sides of an `or`
abbrev pub triggers : Formula → Option (List NameId)
triggers (Atom place name terms) = Some (name ∷ [])
triggers (And place g h) = option_or (triggers g) (triggers h)
triggers (Or place g h) = of_each (triggers g) (triggers h)
triggers (Exists place xs g) = triggers g
triggers f = None

-- the triggers of a node's own guard
abbrev pub guard_triggers : Plan → Option (List NameId)
guard_triggers (Guarded node xs guard test body) = triggers test
guard_triggers plan = None
