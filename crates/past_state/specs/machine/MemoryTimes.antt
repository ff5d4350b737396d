-- The last times of what is kept for operators.
use Rattle.std.specs.Prelude.{ℕ, Option, None, Some, ◌≡◌, All}
use Rattle.windows.specs.machine.StoredPairs.{last_step_time}
use Rattle.past_state.specs.declared.memories.Memory.{Memory}
use Rattle.past_state.specs.machine.OperatorRuns.{AreUpToTimeOf}
use Rattle.past_state.specs.machine.Past.{Past}
use Rattle.past_state.specs.meaning.RowBounds.{IsFrom}
use Rattle.past_state.specs.declared.memories.Memory.TheVariants as memories

-- the last time of a window, which is 0 before the first step
abbrev pub last_or_zero : Option ℕ → ℕ
last_or_zero None = 0
last_or_zero (Some last) = last

-- this is the last time of the window or slot
abbrev pub IsAtLast : Option ℕ → Memory → Type 0
IsAtLast last (memories.Prev slot operand) = last_step_time slot.last ≡ last
IsAtLast last (memories.Once window right) = window.last ≡ last_or_zero last
IsAtLast last (memories.Since window left left_tables right) = window.last ≡ last_or_zero last

-- this is the last time of each window and slot of the past state
abbrev pub AreAtLast : Option ℕ → Past → Type 0
AreAtLast last past = All (λ o. IsAtLast last o.memory) past.operators

-- at no time from the last one on anything that is kept is later
abbrev pub IsUpToLast : Option ℕ → Past → Type 0
IsUpToLast last past = (time : ℕ) → IsFrom last time → AreUpToTimeOf time past.operators
