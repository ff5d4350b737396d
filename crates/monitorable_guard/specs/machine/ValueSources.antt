-- Where the values come from that satisfy a safe formula.
use Rattle.enf_data.specs.declared.events.Event.{Event}
use Rattle.enf_data.specs.declared.steps.Step.{Step}
use Rattle.enf_data.specs.declared.terms.Term.TheVariants.{Const}
use Rattle.enf_data.specs.declared.terms.VarId.{VarId}
use Rattle.enf_data.specs.declared.values.Value.{Value}
use Rattle.enf_data.specs.meaning.Data.{step_at}
use Rattle.enf_data.specs.meaning.Valuations.{Valuation, value_at}
use Rattle.std.specs.Prelude.{List, Contains, ℕ, ◌≤◌, ◌≡◌, ◌⊎◌, Some}
use Rattle.enf_formula.specs.meaning.Satisfaction.{Formula, True, False, Atom, Equal, Less, AtMost, Not, And, Or}
use Rattle.enf_formula.specs.meaning.Satisfaction.{Implies, Exists, Forall, Prev, Next, Once, Historically, Since}
use Rattle.enf_formula.specs.meaning.Satisfaction.{Eventually, Always, Until}

-- an argument of an event of the list
abbrev pub IsArgument : List Event → Value → Type 0
IsArgument events value = (event : Event) × Contains events event × Contains event.args value

-- an argument of an event up to a position
abbrev pub IsArgumentUpTo : List Step → ℕ → Value → Type 0
IsArgumentUpTo trace i value = (j : ℕ) × (j ≤ i) × IsArgument (step_at trace j).events value

-- a constant of the formula
abbrev pub IsFormulaConstant : Value → Formula → Type 0
IsFormulaConstant value (True place) = ⊥
IsFormulaConstant value (False place) = ⊥
IsFormulaConstant value (Atom place name terms) = Contains terms (Const value)
IsFormulaConstant value (Equal place s t) = (s ≡ Const value) ⊎ (t ≡ Const value)
IsFormulaConstant value (Less place s t) = (s ≡ Const value) ⊎ (t ≡ Const value)
IsFormulaConstant value (AtMost place s t) = (s ≡ Const value) ⊎ (t ≡ Const value)
IsFormulaConstant value (Not place g) = IsFormulaConstant value g
IsFormulaConstant value (And place g h) = IsFormulaConstant value g ⊎ IsFormulaConstant value h
IsFormulaConstant value (Or place g h) = IsFormulaConstant value g ⊎ IsFormulaConstant value h
IsFormulaConstant value (Implies place g h) = IsFormulaConstant value g ⊎ IsFormulaConstant value h
IsFormulaConstant value (Exists place xs g) = IsFormulaConstant value g
IsFormulaConstant value (Forall place xs g) = IsFormulaConstant value g
IsFormulaConstant value (Prev place interval g) = IsFormulaConstant value g
IsFormulaConstant value (Next place interval g) = IsFormulaConstant value g
IsFormulaConstant value (Once place interval g) = IsFormulaConstant value g
IsFormulaConstant value (Historically place interval g) = IsFormulaConstant value g
IsFormulaConstant value (Since place interval g h) = IsFormulaConstant value g ⊎ IsFormulaConstant value h
IsFormulaConstant value (Eventually place interval g) = IsFormulaConstant value g
IsFormulaConstant value (Always place interval g) = IsFormulaConstant value g
IsFormulaConstant value (Until place interval g h) = IsFormulaConstant value g ⊎ IsFormulaConstant value h

-- the value of a variable that is bound
abbrev pub IsBoundValue : List VarId → Valuation → Value → Type 0
IsBoundValue bound v value = (x : VarId) × Contains bound x × (value_at v x ≡ Some value)

-- a value of the events up to the position, of the constants of the formula, or of the bound variables: each list
-- of these is finite
abbrev pub IsKnown : List Step → ℕ → Formula → List VarId → Valuation → Value → Type 0
IsKnown trace i f bound v value = IsArgumentUpTo trace i value
    ⊎ (IsFormulaConstant value f ⊎ IsBoundValue bound v value)
