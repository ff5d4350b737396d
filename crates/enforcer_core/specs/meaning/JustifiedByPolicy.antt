-- That the plans of a policy justify what is emitted after a trace for the records of a log.
use Rattle.enf_data.specs.declared.steps.Step.{Step}
use Rattle.enf_data.specs.declared.terms.VarId.{VarId}
use Rattle.std.specs.Prelude.{List}
use Rattle.enf_formula.specs.meaning.Satisfaction.{Formula}
use Rattle.signature.specs.declared.entries.NameEntry.{NameEntry}
use Rattle.trace_meaning.specs.meaning.Traces.{Record, recorded}
use Rattle.plan_terms.specs.meaning.Plans.{Plan}
use Rattle.choice_step.specs.meaning.ActedSteps.{ActedStep, AllAreJustified}
use Rattle.enforce_types.specs.meaning.Elab.{ArePlanned}

-- the plans of a policy justify what is emitted after a trace for the records
pub record IsJustifiedByPolicy (entries : List NameEntry) (policy : List Formula) (trace : List Step)
    (records : List Record) (out : List ActedStep) : Type 0 where
  pub plans : List Plan
  pub guards : List (Formula × List VarId)
  pub planned : ArePlanned entries policy plans guards
  pub justified : AllAreJustified plans trace (recorded records) out
