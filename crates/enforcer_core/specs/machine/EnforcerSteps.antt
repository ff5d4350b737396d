-- What an enforcer does where a call is taken: for a record, and in a drain.
use Rattle.std.specs.Prelude.{◌≡◌, false, ◌+◌, ◌-◌, ◌^◌, ◌<◌, ◌≤◌, [], ◌∷◌, length}
use Rattle.obligations.specs.declared.present_step.TheConstants.{MOST_TIME}
use Rattle.trace_meaning.specs.meaning.Traces.{Record, recorded, time_of}
use Rattle.enforcer_core.specs.declared.steps.StepOut.{StepOut}
use Rattle.enforcer_core.specs.machine.Answers.{EnforcerGoesOn, IsCallInTime, clock_drained}
use Rattle.enforcer_core.specs.machine.Enforcers.{Enforcing, enforcer_plans}
use Rattle.enforcer_core.specs.machine.LawfulChanges.{ChangesLawfully, RiseWithin}
use Rattle.enforcer_core.specs.machine.MadeSteps.{acted_steps}
use Rattle.enforcer_core.specs.machine.Stands.{FollowsFrom, KeepsStanding, FollowsDrainFrom, SatisfiesBehind}

-- the enforcer took the record: it is now at its time, and emitted fewer than 2^62 steps that change it lawfully. From each trace for
-- which it stood, these are what its plans decide, and it stands for that trace with them at its end
pub record EnforcerTakes (before : Enforcing) (next : Record) (made : StepOut) (after : Enforcing) : Type 0 where
  pub in_time : IsCallInTime before (time_of next)
  pub goes_on : EnforcerGoesOn before (time_of next) (length made.steps) after
  pub few : length made.steps < 2 ^ 62
  pub rising : RiseWithin before.clock (time_of next) (acted_steps made.steps)
  pub stands : KeepsStanding before after (acted_steps made.steps)
  pub changed : ChangesLawfully (enforcer_plans before) before.clock (time_of next) (next ∷ [])
      (acted_steps made.steps)
  pub decided : FollowsFrom before (next ∷ []) (acted_steps made.steps)

-- an enforcer drained so: it goes on after the inserted steps that it emitted, no deadline is left, and the policy is
-- satisfied
pub record EnforcerDrains (before : Enforcing) (made : StepOut) (after : Enforcing) : Type 0 where
  pub going : before.stopped ≡ false
  pub goes_on : EnforcerGoesOn before (clock_drained before.clock (acted_steps made.steps)) (length made.steps) after
  pub few : length made.steps < 2 ^ 62
  pub rising : RiseWithin before.clock (MOST_TIME + 1) (acted_steps made.steps)
  pub stands : KeepsStanding before after (acted_steps made.steps)
  pub changed : ChangesLawfully (enforcer_plans before) before.clock after.clock [] (acted_steps made.steps)
  pub decided : FollowsDrainFrom before (acted_steps made.steps)
  pub served : after.pending.deadlines ≡ []
  pub satisfied : SatisfiesBehind before (acted_steps made.steps)

-- the steps that are emitted for a record are few: at most one for each unit of time that the clock rises, and that of
-- the record, where it is no tick
abbrev pub TakesAreFew : Type 0
TakesAreFew = (before : Enforcing) (next : Record) (made : StepOut) (after : Enforcing)
    → EnforcerTakes before next made after
    → length made.steps ≤ length (recorded (next ∷ [])) + (time_of next - before.clock)
