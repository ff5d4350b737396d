-- Under transparent plans what is owed holds, and what is owed is not lost.
use Rattle.enf_data.specs.declared.steps.Step.{Step}
use Rattle.enf_data.specs.declared.terms.VarId.{VarId}
use Rattle.enf_data.specs.meaning.Valuations.{no_values, Valuation}
use Rattle.std.specs.List.{AllByRecursion}
use Rattle.std.specs.Prelude.{◌≡◌, ℕ, List, Some, slice_get, map, ◌<◌, length, IsTrue}
use Rattle.enf_formula.specs.meaning.Satisfaction.{Formula, Sat}
use Rattle.trace_meaning.specs.meaning.Traces.{Continuation, Satisfies, Good}
use Rattle.plan_terms.specs.machine.GuardProperties.{GuardLooksBack}
use Rattle.plan_terms.specs.meaning.Plans.{nodes, has_future, node_in, is_future, has_deadline, formula_for, Plan}
use Rattle.plan_terms.specs.meaning.Owed.{IsOwed, IsLost}
use Rattle.plan_terms.specs.machine.WellFormed.{AreWellFormed}
use Rattle.rank_check.specs.meaning.AcceptedPlans.{is_transparent}

-- guards and tests look back alone
abbrev pub LookBack : List Plan → Type 0
LookBack plans = (rule : ℕ) (root : Plan) → slice_get plans rule ≡ Some root
    → AllByRecursion GuardLooksBack (nodes root)

-- a longer trace, with no time below the clock after the first, satisfies the formula of each plan
pub record GoesWell (plans : List Plan) (trace : List Step) (clock : ℕ) (longer : List Step) : Type 0 where
  pub continued : Continuation trace clock longer
  pub satisfied : Satisfies longer (map formula_for plans)

-- where a longer trace satisfies the formula of each plan, the root of each rule holds on it at each position of the
-- first
abbrev pub RootsHold : Type 0
RootsHold = (plans : List Plan) (trace longer : List Step) (clock rule : ℕ) (root : Plan) (position : ℕ)
    → GoesWell plans trace clock longer → slice_get plans rule ≡ Some root → position < length trace
    → Sat longer position no_values (formula_for root)

-- where a longer trace satisfies the formula of each plan, each node that is owed and looks ahead holds on it, under
-- transparent plans
abbrev pub OwedNodesHold : Type 0
OwedNodesHold = (plans : List Plan) (trace longer : List Step) (clock rule : ℕ) (node : Plan) (v : Valuation)
    (position : ℕ) → IsTrue (is_transparent plans) → LookBack plans → GoesWell plans trace clock longer
    → IsOwed plans trace clock rule node v position → IsTrue (has_future node)
    → Sat longer position v (formula_for node)

-- ---- what follows for the plans of a policy, where a trace can still be continued well

-- the root of a rule, which is the node with number 0 of its plan, is lost at no position
abbrev pub RootsAreNotLost : Type 0
RootsAreNotLost = (guards : List (Formula × List VarId)) (plans : List Plan) (trace : List Step) (clock rule : ℕ)
    (node : Plan) (position : ℕ) → AreWellFormed plans guards → Good (map formula_for plans) trace clock
    → node_in plans rule 0 ≡ Some node → position < length trace
    → IsLost trace clock node no_values position → ⊥

-- under transparent plans no operator on the future that is owed is lost
abbrev pub OwedNodesAreNotLost : Type 0
OwedNodesAreNotLost = (guards : List (Formula × List VarId)) (plans : List Plan) (trace : List Step)
    (clock rule : ℕ) (node : Plan) (v : Valuation) (position : ℕ) → AreWellFormed plans guards
    → IsTrue (is_transparent plans) → Good (map formula_for plans) trace clock → IsTrue (is_future node)
    → IsOwed plans trace clock rule node v position → IsLost trace clock node v position → ⊥

-- among them those with a deadline
abbrev pub DeadlinesAreNotLost : Type 0
DeadlinesAreNotLost = (guards : List (Formula × List VarId)) (plans : List Plan) (trace : List Step)
    (clock rule : ℕ) (node : Plan) (v : Valuation) (position : ℕ) → AreWellFormed plans guards
    → IsTrue (is_transparent plans) → Good (map formula_for plans) trace clock → IsTrue (has_deadline node)
    → IsOwed plans trace clock rule node v position → IsLost trace clock node v position → ⊥
