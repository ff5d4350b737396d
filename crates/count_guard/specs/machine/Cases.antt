-- Small formulas and traces, on which copies and counts can be checked by eye.
use Rattle.enf_data.specs.declared.steps.Step.{Step}
use Rattle.enf_data.specs.declared.terms.Term.TheVariants.{Var}
use Rattle.enf_data.specs.declared.terms.VarId.{VarId}
use Rattle.enf_data.specs.declared.values.Value.{Value}
use Rattle.enf_data.specs.declared.values.Value.TheVariants.{Num}
use Rattle.enf_data.specs.meaning.Valuations.{no_values, with_values}
use Rattle.enf_formula.specs.machine.Cases.{at_time, event_p_of, formula_p_x, interval_from, name_p, name_q, variable_x}
use Rattle.enf_formula.specs.meaning.Satisfaction.{Formula, Atom, Equal, Not, Exists, Once, Sat}
use Rattle.std.specs.Prelude.{ℕ, pos, List, [], ◌∷◌}

-- the variable with a number
abbrev pub case_variable : ℕ → VarId
case_variable number = record { 0 = number }

-- p(x) and q(x,y) of variables with these numbers
abbrev pub atom_of_p : (at x : ℕ) → Formula
atom_of_p at x = Atom at name_p (Var (case_variable x) ∷ [])

abbrev pub q_of : (at x y : ℕ) → Formula
q_of at x y = Atom at name_q (Var (case_variable x) ∷ Var (case_variable y) ∷ [])

-- exists y. q(x,y)
abbrev pub some_q_of : (at x y : ℕ) → Formula
some_q_of at x y = Exists at (case_variable y ∷ []) (q_of at x y)

-- x = y, and that it fails
abbrev pub equal_of : (at x y : ℕ) → Formula
equal_of at x y = Equal at (Var (case_variable x)) (Var (case_variable y))

abbrev pub differ_of : (at x y : ℕ) → Formula
differ_of at x y = Not at (equal_of at x y)

-- p(1) p(2) at time 0
abbrev pub p_1_p_2 : List Step
p_1_p_2 = at_time 0 (event_p_of (Num (pos 1)) ∷ event_p_of (Num (pos 2)) ∷ []) ∷ []

-- p(1) at time 0, and at time 1
abbrev pub p_1_twice : List Step
p_1_twice = at_time 0 (event_p_of (Num (pos 1)) ∷ []) ∷ at_time 1 (event_p_of (Num (pos 1)) ∷ []) ∷ []

-- p(x) holds at the first step with this value of x
abbrev pub p_with : List Step → List Value → Type 0
p_with trace values = Sat trace 0 (with_values (variable_x ∷ []) values no_values) formula_p_x

-- once p(x) holds at the second step with this value of x
abbrev pub once_p_with : List Step → List Value → Type 0
once_p_with trace values =
    Sat trace 1 (with_values (variable_x ∷ []) values no_values) (Once 0 (interval_from 0) formula_p_x)
