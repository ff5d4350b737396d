-- What an enforcer has done since it stood for a trace.
use Rattle.enf_data.specs.declared.steps.Step.{Step}
use Rattle.std.specs.Prelude.{◌≡◌, List, ◌++◌}
use Rattle.trace_meaning.specs.meaning.Traces.{Record, NeverFall, clock_after}
use Rattle.choice_step.specs.meaning.ActedSteps.{ActedStep}
use Rattle.choice_step.specs.meaning.Follows.{steps_of, Follows}
use Rattle.enforcer_core.specs.machine.Enforcers.{Enforcing, enforcer_plans}
use Rattle.enforcer_core.specs.machine.LawfulChanges.{ChangesLawfully}
use Rattle.enforcer_core.specs.machine.Stands.{Stands}

-- since it stood for the trace, an enforcer took these records and emitted these steps for them, and this is what it
-- is now
pub record Course (start : Enforcing) (trace : List Step) (records : List Record) (out : List ActedStep)
    (now : Enforcing) : Type 0 where
  pub began : Stands start trace
  pub policy : now.policy ≡ start.policy
  pub clock : now.clock ≡ clock_after start.clock records
  pub in_time : NeverFall start.clock records
  pub stands : Stands now (trace ++ steps_of out)
  pub changed : ChangesLawfully (enforcer_plans start) start.clock now.clock records out
  pub decided : Follows (enforcer_plans start) trace records out
