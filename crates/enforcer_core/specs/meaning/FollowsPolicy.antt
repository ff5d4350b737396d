-- What the plans of a policy decide for the records of a log, and at its end.
use Rattle.enf_data.specs.declared.steps.Step.{Step}
use Rattle.enf_data.specs.declared.terms.VarId.{VarId}
use Rattle.std.specs.Prelude.{List, ◌≡◌, ◌++◌}
use Rattle.enf_formula.specs.meaning.Satisfaction.{Formula}
use Rattle.signature.specs.declared.entries.NameEntry.{NameEntry}
use Rattle.trace_meaning.specs.meaning.Traces.{Record}
use Rattle.plan_terms.specs.meaning.Plans.{Plan}
use Rattle.choice_step.specs.meaning.ActedSteps.{ActedStep}
use Rattle.choice_step.specs.meaning.Follows.{steps_of, Follows, FollowsDrain}
use Rattle.enforce_types.specs.meaning.Elab.{ArePlanned}

-- the plans of a policy decide that these steps are emitted after a trace for the records
pub record FollowsPolicy (entries : List NameEntry) (policy : List Formula) (trace : List Step)
    (records : List Record) (out : List ActedStep) : Type 0 where
  pub plans : List Plan
  pub guards : List (Formula × List VarId)
  pub planned : ArePlanned entries policy plans guards
  pub follows : Follows plans trace records out

-- the plans of a policy decide that these steps are emitted after a trace for the records, and then until nothing is
-- pending
pub record FollowsToEnd (entries : List NameEntry) (policy : List Formula) (trace : List Step)
    (records : List Record) (out : List ActedStep) : Type 0 where
  pub plans : List Plan
  pub guards : List (Formula × List VarId)
  pub planned : ArePlanned entries policy plans guards
  pub first : List ActedStep
  pub last : List ActedStep
  pub split : out ≡ first ++ last
  pub follows : Follows plans trace records first
  pub drained : FollowsDrain plans (trace ++ steps_of first) last
