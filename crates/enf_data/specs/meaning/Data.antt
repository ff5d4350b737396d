-- Traces: their steps by position, without repeats and at times that never fall.
use Rattle.enf_data.specs.declared.steps.Step.{Step}
use Rattle.enf_data.specs.meaning.Membership.{HasNoRepeats}
use Rattle.std.specs.Prelude.{[], ℕ, List, slice_index_or, ◌<◌, ◌≤◌, length}

-- a step without events at time 0, for places that a list does not have
abbrev pub no_step : Step
no_step = record { time = 0; events = [] }

-- the step at a position, counted from 0
abbrev pub step_at : List Step → ℕ → Step
step_at trace position = slice_index_or trace position no_step

-- no step of the trace has repeats, and the times never fall; neighbours may have equal times
pub record IsTrace (trace : List Step) : Type 0 where
  pub distinct : (i : ℕ) → i < length trace → HasNoRepeats (step_at trace i).events
  pub ordered : (i j : ℕ) → i ≤ j → j < length trace → (step_at trace i).time ≤ (step_at trace j).time
