-- What an operator right below another brings at a step that is new, and the guards that ask for it alone.
use Rattle.std.specs.Prelude.{◌≡◌, ◌⊎◌, ◌↔◌, [], None}
use Rattle.enf_data.specs.declared.intervals.Interval.{Interval}
use Rattle.enf_data.specs.declared.terms.VarId.{VarId}
use Rattle.enf_formula.specs.meaning.Satisfaction.{Formula, Once, Since, IsFree}
use Rattle.monitorable_guard.specs.machine.Guards.{BoundFormula}
use Rattle.monitorable_guard.specs.machine.PresentMeaning.{outermost}
use Rattle.past_state.specs.declared.prev_operands.Operand.{Operand}
use Rattle.past_state.specs.machine.OperandQueries.{GuardAsks}
use Rattle.past_state.specs.declared.prev_operands.Operand.TheVariants as asked

-- at each step the first formula holds where the second does, and else only where it held before
abbrev pub BeginsWith : Formula → Formula → Type 0
BeginsWith (Once place interval g) h = (interval.low ≡ 0) × (g ≡ h)
BeginsWith (Since place interval f g) h = (interval.low ≡ 0) × (g ≡ h)
BeginsWith f h = ⊥

-- the guard asks another formula in the place of this one: it has the same free variables, and asks nothing of the past
pub record AsksInstead (Serves : Formula → Type 0) (f : Formula) (guard : BoundFormula) : Type 0 where
  pub other : Formula
  pub serves : Serves other
  pub free : (x : VarId) → IsFree x other ↔ IsFree x f
  pub present : outermost other ≡ []
  pub asks : GuardAsks other [] guard

-- the guard asks for the rows of the operand of `once`; where none is ever let go, those that are new are enough
abbrev pub AsksRight : Interval → Formula → BoundFormula → Type 0
AsksRight interval f guard =
    GuardAsks f [] guard ⊎ ((interval.high ≡ None) × AsksInstead (BeginsWith f) f guard)

-- the rows of the first formula at a step are those of the second, and those of the step before
abbrev pub GrowsBy : Formula → Formula → Type 0
GrowsBy (Once place interval g) h = (interval.low ≡ 0) × (interval.high ≡ None) × (g ≡ h)
GrowsBy f h = ⊥

-- the guard of the operand of `prev`
abbrev pub guard_in : Operand → BoundFormula
guard_in (asked.Whole guard) = guard
guard_in (asked.Growing guard) = guard

-- it asks for the rows of the operand, or for those that come
abbrev pub AsksOperand : Formula → Operand → Type 0
AsksOperand f (asked.Whole guard) = GuardAsks f [] guard
AsksOperand f (asked.Growing guard) = AsksInstead (GrowsBy f) f guard
