-- The statements of the laws of copies and counts.
use Rattle.count_guard.specs.declared.counting.CountKind.{CountKind}
use Rattle.count_guard.specs.machine.CopyMeanings.{GivesSameValues}
use Rattle.count_guard.specs.meaning.CountFormulas.{count_as}
use Rattle.count_guard.specs.meaning.DifferentLists.{IsCount}
use Rattle.count_guard.specs.meaning.FormulaCopies.{Substitution, copy_of}
use Rattle.enf_data.specs.declared.steps.Step.{Step}
use Rattle.enf_data.specs.declared.terms.VarId.{VarId}
use Rattle.enf_data.specs.meaning.Valuations.{Valuation, with_values}
use Rattle.enf_formula.specs.meaning.Satisfaction.{Formula, IsFree, Sat}
use Rattle.std.specs.Prelude.{ℕ, ◌<◌, ◌≡◌, ◌↔◌, Contains, List, length}
use Rattle.enf_data.specs.declared.terms.Term.TheVariants.{Var}

-- a copy holds where the formula does with the values of the terms
abbrev pub CopiesHoldAlike : Type 0
CopiesHoldAlike = (at : ℕ) (given : Substitution) (next : ℕ) (f : Formula) (trace : List Step) (i : ℕ) (v w : Valuation)
    → GivesSameValues given next f v w → Sat trace i v (copy_of at given next f) ↔ Sat trace i w f

-- the formula of a count holds just where there are so many lists of values for the counted variables with which the
-- body holds
abbrev pub CountsHoldAsSaid : Type 0
CountsHoldAsSaid = (kind : CountKind) (k : ℕ) (counted : List VarId) (body : Formula) (next at : ℕ)
    (trace : List Step) (i : ℕ) (v : Valuation) → ((x : VarId) → IsFree x body → x.0 < next)
    → Sat trace i v (count_as kind k counted body next at)
    ↔ IsCount kind k (length counted) (λ values. Sat trace i (with_values counted values v) body)

-- a variable that is free in a copy stands in the place of one that is free in the formula
abbrev pub FreeInCopies : Type 0
FreeInCopies = (at : ℕ) (given : Substitution) (next : ℕ) (f : Formula) (x : VarId)
    → IsFree x (copy_of at given next f) → (y : VarId) × IsFree y f × (given y ≡ Var x)

-- a variable that is free in the formula of a count is free in the body, and not counted
abbrev pub FreeInCounts : Type 0
FreeInCounts = (kind : CountKind) (k : ℕ) (counted : List VarId) (body : Formula) (next at : ℕ) (x : VarId)
    → IsFree x (count_as kind k counted body next at) → IsFree x body × (Contains counted x → ⊥)
