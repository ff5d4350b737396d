-- The valuations that bind the free variables of a guard.
use Rattle.enf_data.specs.declared.terms.VarId.{VarId}
use Rattle.enf_data.specs.meaning.Valuations.{Valuation, value_at}
use Rattle.std.specs.Prelude.{IsSome}
use Rattle.enf_formula.specs.meaning.Satisfaction.{Formula, IsFree}

-- v binds each free variable of the formula
abbrev pub BindsFree : Valuation → Formula → Type 0
BindsFree v f = (x : VarId) → IsFree x f → IsSome (value_at v x)
