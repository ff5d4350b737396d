-- What an enforcer does at the deadlines that are passed.
use Rattle.enf_data.specs.declared.steps.Step.{Step}
use Rattle.std.specs.Prelude.{ℕ, ◌<◌, ◌≤◌, Option, List, [], ◌++◌, All, length, Contains, None, Some}
use Rattle.std.specs.Prelude.{◌∷◌, ◌^◌}
use Rattle.trace_meaning.specs.meaning.Traces.{Record, time_of}
use Rattle.deadline_queue.specs.machine.Queues.{IsLeastOf}
use Rattle.choice_step.specs.meaning.ActedSteps.{ActedStep}
use Rattle.choice_step.specs.meaning.Follows.{steps_of, IsPassed, InsertsSteps}
use Rattle.enforcer_core.specs.machine.Answers.{EnforcerGoesOn, clock_drained}
use Rattle.enforcer_core.specs.machine.EnforcerInvariant.{reach_in, IsServing}
use Rattle.enforcer_core.specs.machine.Enforcers.{Enforcing, enforcer_plans}
use Rattle.enforcer_core.specs.machine.LawfulChanges.{ChangesLawfully, RiseWithin}
use Rattle.enforcer_core.specs.machine.Stands.{KeepsStanding, Stands, FollowsFrom}

-- nothing is owed for longer than it was, and the clock does not go beyond a time above all that is passed, nor beyond
-- what was owed
pub record StaysWithin (until : Option ℕ) (before after : Enforcing) : Type 0 where
  pub rises : before.clock ≤ after.clock
  pub reach : reach_in after ≤ reach_in before
  pub in_time : (limit : ℕ) → before.clock ≤ limit
      → ((deadline : ℕ) → IsPassed until deadline → deadline < limit)
      → after.clock ≤ limit
  pub in_reach : (limit : ℕ) → before.clock ≤ limit → reach_in before < limit → after.clock ≤ limit

-- steps were inserted at deadlines that are passed, least first, and it serves still, after the last of them
pub record PassesDeadlines (until : Option ℕ) (before : Enforcing) (out : List ActedStep) (after : Enforcing) : Type
    0 where
  pub serves : IsServing after
  pub goes_on : EnforcerGoesOn before (clock_drained before.clock out) (length out) after
  pub within : StaysWithin until before after
  pub rising : RiseWithin before.clock after.clock out
  pub bounded : All (λ o. o.step.time ≤ reach_in before) out
  pub stands : KeepsStanding before after out
  pub changed : ChangesLawfully (enforcer_plans before) before.clock after.clock [] out
  pub inserts : (trace : List Step) → Stands before trace → (more : List ActedStep)
      → InsertsSteps (enforcer_plans before) (trace ++ steps_of out) until more
      → InsertsSteps (enforcer_plans before) trace until (out ++ more)

-- no deadline is left that is passed
abbrev pub NoneIsLeft : (until : Option ℕ) → Enforcing → Type 0
NoneIsLeft until enforcer =
    (deadline : ℕ) → Contains enforcer.pending.deadlines deadline → IsPassed until deadline → ⊥

-- the least of the deadlines, where it is passed
abbrev pub IsLeastPassed : List ℕ → (until : Option ℕ) → Option ℕ → Type 0
IsLeastPassed deadlines until None =
    (deadline : ℕ) → Contains deadlines deadline → IsPassed until deadline → ⊥
IsLeastPassed deadlines until (Some least) = IsPassed until least × IsLeastOf deadlines (Some least)

-- what it lets out for a record: steps at the deadlines below its time, and then its step
pub record LetsOut (before : Enforcing) (next : Record) (out : List ActedStep) (after : Enforcing) : Type 0 where
  pub serves : IsServing after
  pub goes_on : EnforcerGoesOn before (time_of next) (length out) after
  pub few : length out < 2 ^ 62
  pub rising : RiseWithin before.clock (time_of next) out
  pub stands : KeepsStanding before after out
  pub changed : ChangesLawfully (enforcer_plans before) before.clock (time_of next) (next ∷ []) out
  pub decided : FollowsFrom before (next ∷ []) out
