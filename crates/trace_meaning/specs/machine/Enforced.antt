-- What an enforcer owes to the records of a log, whatever it decides: at each moment, and at the end.
use Rattle.enf_data.specs.declared.events.NameId.{NameId}
use Rattle.enf_data.specs.meaning.Data.{IsTrace}
use Rattle.std.specs.Prelude.{Bool, List, ◌++◌}
use Rattle.enf_formula.specs.meaning.Satisfaction.{Formula}
use Rattle.trace_meaning.specs.meaning.Traces.{Good, Satisfies, last_time, Lawful, IsWithin, OutStep, trace_of, Start}
use Rattle.trace_meaning.specs.meaning.Traces.{Record, clock_after}
use Rattle.enf_data.specs.declared.steps.Step.{Step}

-- some continuation from the last time of the trace on satisfies the policy
abbrev pub GoodPrefix : List Formula → List Step → Type 0
GoodPrefix policy trace = Good policy trace (last_time trace)

-- what an enforcer owes to records so far: the steps that were emitted for them are a lawful change of them, with the
-- inserted ones below the clock, and together with the trace before them they can be continued well from the clock on
pub record KeepsUp (causable suppressible : NameId → Bool) (policy : List Formula) (start : Start)
    (records : List Record) (out : List OutStep) : Type 0 where
  pub lawful : Lawful causable suppressible records out
  pub within : IsWithin start.clock (clock_after start.clock records) out
  pub good : Good policy (start.trace ++ trace_of out) (clock_after start.clock records)

-- what an enforcer owes to all records of a log at its end: the steps that were emitted for them are a lawful change
-- of them, and together with the trace before them they satisfy the policy
pub record Enforced (causable suppressible : NameId → Bool) (policy : List Formula) (start : Start)
    (records : List Record) (out : List OutStep) : Type 0 where
  pub lawful : Lawful causable suppressible records out
  pub is_trace : IsTrace (start.trace ++ trace_of out)
  pub satisfied : Satisfies (start.trace ++ trace_of out) policy
