-- Small formulas on which the definition of safety can be checked by eye.
use Rattle.enf_data.specs.declared.terms.Term.{Term}
use Rattle.enf_data.specs.declared.terms.Term.TheVariants.{Var}
use Rattle.enf_data.specs.declared.terms.VarId.{VarId}
use Rattle.std.specs.Prelude.{[], Contains, ◌∷◌, pos}
use Rattle.enf_formula.specs.machine.Cases.{variable_x, number_term, name_q, name_p}
use Rattle.enf_formula.specs.meaning.Satisfaction.{Formula, Atom, Less}
use Rattle.monitorable_guard.specs.meaning.Safety.{Safe}

-- with no variable bound, and with x bound
abbrev pub IsSafe : Formula → Type 0
IsSafe f = Safe f (Contains [])

abbrev pub IsSafeUnderX : Formula → Type 0
IsSafeUnderX f = Safe f (Contains (variable_x ∷ []))

-- the variable y, and the terms x, y and 3
abbrev pub guard_case_y : VarId
guard_case_y = record { 0 = 1 }

abbrev pub guard_term_x : Term
guard_term_x = Var variable_x

abbrev pub guard_term_y : Term
guard_term_y = Var guard_case_y

abbrev pub three : Term
three = number_term (pos 3)

-- q(y), and p(x, y)
abbrev pub formula_q_y : Formula
formula_q_y = Atom 0 name_q (Var guard_case_y ∷ [])

abbrev pub formula_p_x_y : Formula
formula_p_x_y = Atom 0 name_p (Var variable_x ∷ Var guard_case_y ∷ [])

-- x < 3
abbrev pub below_three : Formula
below_three = Less 0 guard_term_x three
