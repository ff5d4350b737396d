-- What must hold of an operator on the past so that what it needs can be kept.
use Rattle.enf_data.specs.declared.steps.Step.{Step}
use Rattle.enf_data.specs.declared.terms.VarId.{VarId}
use Rattle.enf_data.specs.meaning.Valuations.{Valuation}
use Rattle.std.specs.Prelude.{◌⊎◌, [], Contains, ◌≡◌, List, ◌++◌, All, ℕ}
use Rattle.enf_formula.specs.machine.FormulaViews.{tree_of}
use Rattle.enf_formula.specs.machine.FormulaShape.{BindsFresh}
use Rattle.enf_formula.specs.meaning.Satisfaction.{Formula, IsFree, Prev, Once, Historically, Since}
use Rattle.enf_formula.specs.meaning.Satisfaction.{Classically, Sat}
use Rattle.monitorable_guard.specs.machine.Guards.{BoundFormula}
use Rattle.monitorable_guard.specs.meaning.Safety.{Safe, NoneBound, BoundOrFreeIn, denial}
use Rattle.past_state.specs.declared.operators.OperatorState.{OperatorState}
use Rattle.past_state.specs.machine.OperatorRuns.{AreFor}
use Rattle.past_state.specs.meaning.KeptRows.{KeptFor, operators, kept_operand}

-- no quantifier in the formula binds one of its free variables
abbrev pub IsFreshFormula : Formula → Type 0
IsFreshFormula f = BindsFresh f (λ x. Contains [] x ⊎ IsFree x f)

-- the operands can be evaluated, no quantifier in them binds a variable in scope, and what is free on the left of
-- `since` is so on the right
abbrev pub CanKeep : Formula → Type 0
CanKeep (Prev place interval g) = IsFreshFormula g × Safe g NoneBound
CanKeep (Once place interval g) = IsFreshFormula g × Safe g NoneBound
CanKeep (Historically place interval g) = IsFreshFormula (denial g) × Safe (denial g) NoneBound
CanKeep (Since place interval g h) = IsFreshFormula h × BindsFresh g (λ x. IsFree x h) × ((x : VarId) → IsFree x g
    → IsFree x h) × Safe h NoneBound × Safe g (BoundOrFreeIn NoneBound h)
CanKeep f = Unit {0}

-- the guard is that of the formula with nothing bound
pub record IsAlone (f : Formula) (guard : BoundFormula) : Type 0 where
  pub formula_is : tree_of guard.formula ≡ f
  pub bound_is : guard.bound ≡ []

-- what is kept for these operators was put last, in order
pub record PushesFor (fs : List Formula) (before after : List OperatorState) : Type 0 where
  pub added : List OperatorState
  pub grown : after ≡ before ++ added
  pub are_for : AreFor fs added

-- what is needed of the operators of a guard can be kept
abbrev pub OperatorsCanBeKept : Type 0
OperatorsCanBeKept = (f : Formula) (bound : List VarId) → Safe f (Contains bound)
    → BindsFresh f (λ x. Contains bound x ⊎ IsFree x f) → All CanKeep (operators f)

-- the operand can be evaluated by itself, and was satisfied at a position of the trace
pub record HeldAlone (trace : List Step) (v : Valuation) (operand : Formula) : Type 0 where
  pub fresh : IsFreshFormula operand
  pub safe : Safe operand NoneBound
  pub held : Classically ((i : ℕ) × Sat trace i v operand)

-- a valuation that has to be kept for an operator satisfied the operand
abbrev pub KeptHeld : Type 0
KeptHeld = (trace : List Step) (operator : Formula) (v : Valuation) (time : ℕ)
    → CanKeep operator → KeptFor trace operator v time → HeldAlone trace v (kept_operand operator)
