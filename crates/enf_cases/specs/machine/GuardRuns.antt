-- A guard over a log: the past that is kept for it, and what can be asked of it.
use Rattle.enf_data.specs.declared.steps.Step.{Step}
use Rattle.enf_data.specs.meaning.Data.{IsTrace}
use Rattle.enf_data.specs.meaning.Valuations.{no_values, BindsColumns}
use Rattle.std.specs.Prelude.{[], ◌∷◌, ℕ, List, Option, Contains, All}
use Rattle.monitorable_guard.specs.machine.Guards.{BoundFormula}
use Rattle.monitorable_guard.specs.meaning.Safety.{FreeWithin}
use Rattle.past_state.specs.machine.Guards.{AreCopies, tree_in}
use Rattle.past_state.specs.machine.MemoryTimes.{IsUpToLast}
use Rattle.past_state.specs.machine.Past.{Past, PastStands}
use Rattle.past_state.specs.meaning.KeptRows.{IsLastTime}
use Rattle.enf_cases.specs.declared.running.Question.{Question}
use Rattle.enf_cases.specs.declared.running.Question.TheVariants.{Rows, Holds}

-- the past has this guard alone
abbrev pub IsPastOfGuard : BoundFormula → Past → Type 0
IsPastOfGuard guard past = AreCopies (guard ∷ []) past.guards

-- the past stands for some trace with this last time, and can go on from there
pub record StandsUpTo (last : Option ℕ) (past : Past) : Type 0 where
  pub up_to : IsUpToLast last past
  pub trace : List Step
  pub is_trace : IsTrace trace
  pub last_is : IsLastTime trace last
  pub stands : PastStands trace past

-- all variables of the guard that are free are bound
abbrev pub BindsGuardVariables : BoundFormula → Type 0
BindsGuardVariables guard = FreeWithin (tree_in guard) (Contains guard.bound)

-- what can be asked of a guard: its rows, where nothing is bound, or whether it holds under valuations that bind all
-- its free variables
abbrev pub CanAskQuestion : BoundFormula → Question → Type 0
CanAskQuestion guard Rows = BindsColumns no_values guard.bound
CanAskQuestion guard (Holds valuations) = BindsGuardVariables guard
    × All (λ v. BindsColumns v guard.bound) valuations.now
