-- The statements of the laws of verdicts.
use Rattle.enf_data.specs.declared.steps.Step.{Step}
use Rattle.enf_data.specs.declared.terms.VarId.{VarId}
use Rattle.std.specs.Prelude.{◌≡◌, List}
use Rattle.enf_formula.specs.meaning.Satisfaction.{Formula}
use Rattle.signature.specs.declared.entries.NameEntry.{NameEntry}
use Rattle.plan_terms.specs.machine.StoredPlans.{formulas_for}
use Rattle.plan_terms.specs.meaning.Plans.{Plan}
use Rattle.enforce_types.specs.meaning.Elab.{ArePlanned}
use Rattle.trace_audit.specs.declared.verdicts.Verdict.{Verdict}
use Rattle.trace_audit.specs.meaning.Verdicts.{IsVerdict}

-- there is one verdict at most
abbrev pub VerdictIsOne : Type 0
VerdictIsOne = (policy : List Formula) (trace : List Step) (verdict other : Verdict)
    → IsVerdict policy trace verdict → IsVerdict policy trace other → verdict ≡ other

-- the verdict by the plans of a policy is the one by the policy
abbrev pub VerdictIsOfPolicy : Type 0
VerdictIsOfPolicy = (entries : List NameEntry) (policy : List Formula) (plans : List Plan)
    (guards : List (Formula × List VarId)) (trace : List Step) (verdict : Verdict)
    → ArePlanned entries policy plans guards
    → IsVerdict (formulas_for plans) trace verdict → IsVerdict policy trace verdict
