-- Small patterns, on which the definitions can be checked by eye.
use Rattle.enf_data.specs.declared.values.Value.{Value}
use Rattle.enf_data.specs.declared.values.Value.TheVariants.{Num}
use Rattle.std.specs.Prelude.{[], ◌∷◌, ℕ, None, Some, pos}
use Rattle.enf_data.specs.declared.terms.Term.TheVariants.{Const, Var}
use Rattle.enf_formula.specs.machine.Cases.{name_p, name_q, variable_x}
use Rattle.enf_formula.specs.meaning.Satisfaction.{Formula, Less}
use Rattle.plan_terms.specs.machine.Cases.{cause_p}
use Rattle.plan_terms.specs.meaning.Plans.{EventuallyPlan, Plan, SuppressPlan, TestOr}
use Rattle.sleepers.specs.declared.patterns.Pattern.{Pattern}

-- the values 1 and 2
abbrev pub value_one : Value
value_one = Num (pos 1)

abbrev pub value_two : Value
value_two = Num (pos 2)

-- x < 2
abbrev pub x_below_two : Formula
x_below_two = Less 0 (Var variable_x) (Const value_two)

-- q() is not to be there
abbrev pub no_q : Plan
no_q = SuppressPlan 1 0 name_q []

-- the test is to hold, or p() to be there, in a window that begins so much later
abbrev pub goal_of_past : ℕ → Formula → Plan
goal_of_past low test = EventuallyPlan 0 0 low 9 (TestOr 1 0 test (cause_p 2))

-- p(), q(), p and q of one value, and q of a known one
abbrev pub p_alone : Pattern
p_alone = record { name = name_p; args = [] }

abbrev pub q_alone : Pattern
q_alone = record { name = name_q; args = [] }

abbrev pub p_open : Pattern
p_open = record { name = name_p; args = None ∷ [] }

abbrev pub q_open : Pattern
q_open = record { name = name_q; args = None ∷ [] }

abbrev pub q_fixed : Value → Pattern
q_fixed value = record { name = name_q; args = Some value ∷ [] }
