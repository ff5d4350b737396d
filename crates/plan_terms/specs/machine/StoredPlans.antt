-- The trees of the plans of the program.
use Rattle.enf_formula.specs.machine.FormulaViews.{tree_of}
use Rattle.plan_terms.specs.meaning.Plans.{Plan, CausePlan, SuppressPlan, Both, Either, TestOr, Guarded, EventuallyPlan}
use Rattle.plan_terms.specs.meaning.Plans.{AlwaysPlan, UntilPlan, NextPlan, formula_for}
use Rattle.std.specs.Prelude.{List, map}
use Rattle.enf_formula.specs.meaning.Satisfaction.{Formula}
use Rattle.plan_terms.specs.declared.plans.Plan as stored

-- the policy that plans stand for
abbrev pub formulas_for : List Plan → List Formula
formulas_for plans = map formula_for plans

-- the pure tree of a plan of the program
abbrev pub plan_of : stored.Plan → Plan
plan_of (stored.Cause node place name terms) = CausePlan node place name terms
plan_of (stored.Suppress node place name terms) = SuppressPlan node place name terms
plan_of (stored.Both' node p left q right) = Both node (plan_of left) (plan_of right)
plan_of (stored.Either' node p left q right) = Either node (plan_of left) (plan_of right)
plan_of (stored.TestOr' node guard test p body) = TestOr node guard (tree_of test.value) (plan_of body)
plan_of (stored.Guarded' node vars guard test p body) = Guarded node vars guard (tree_of test.value) (plan_of body)
plan_of (stored.Eventually' node place low high p body) = EventuallyPlan node place low high (plan_of body)
plan_of (stored.Always' node place low high p body) = AlwaysPlan node place low high (plan_of body)
plan_of (stored.Until' node place low high p left q right) = UntilPlan node place low high (plan_of left)
    (plan_of right)
plan_of (stored.Next' node place high p body) = NextPlan node place high (plan_of body)
