-- When a copy of a formula has the meaning of the formula: what stands for a variable has its value, and the new
-- variables are above all that stand there.
use Rattle.count_guard.specs.meaning.FormulaCopies.{Substitution}
use Rattle.enf_data.specs.declared.terms.Term.{Term}
use Rattle.enf_data.specs.declared.terms.Term.TheVariants.{Var, Const}
use Rattle.enf_data.specs.declared.terms.VarId.{VarId}
use Rattle.enf_data.specs.meaning.Valuations.{Valuation, value_at, value_of_term}
use Rattle.enf_formula.specs.meaning.Satisfaction.{Formula, IsFree}
use Rattle.std.specs.Prelude.{ℕ, ◌<◌, ◌≡◌}

-- the term is a constant, or a variable with a lower number
abbrev pub IsTermBelow : (next : ℕ) → Term → Type 0
IsTermBelow next (Var x) = x.0 < next
IsTermBelow next (Const value) = Unit {0}

-- of the formula's free variables each has under w the value that its term has under v, and the terms are below `next`
pub record GivesSameValues (given : Substitution) (next : ℕ) (f : Formula) (v w : Valuation) : Type 0 where
  pub same : (x : VarId) → IsFree x f → value_of_term v (given x) ≡ value_at w x
  pub below : (x : VarId) → IsFree x f → IsTermBelow next (given x)
