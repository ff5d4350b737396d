-- What an auditor is, and for which traces it stands.
use Rattle.enf_data.specs.declared.events.Event.{Event}
use Rattle.enf_data.specs.declared.steps.Step.{Step}
use Rattle.enf_data.specs.declared.terms.VarId.{VarId}
use Rattle.enf_data.specs.meaning.Data.{IsTrace}
use Rattle.std.specs.Prelude.{ℕ, List, Option, map, length, ◌≡◌, ◌+◌, ◌≤◌, ◌++◌, [], ◌∷◌}
use Rattle.enf_formula.specs.meaning.Satisfaction.{Formula}
use Rattle.trace_meaning.specs.meaning.Traces.{last_time}
use Rattle.plan_terms.specs.machine.StoredPlans.{formulas_for}
use Rattle.plan_terms.specs.meaning.Plans.{Plan}
use Rattle.past_state.specs.machine.GuardPlaces.{placed_guard}
use Rattle.past_state.specs.machine.Guards.{AreCopies}
use Rattle.past_state.specs.machine.OperatorRuns.{AreUpToTimeOf}
use Rattle.past_state.specs.machine.Past.{Past, PastStands}
use Rattle.enforce_types.specs.machine.TypedPolicies.{StoredTyped, typed_of}
use Rattle.trace_audit.specs.declared.open_rules.OpenRule.{OpenRule}
use Rattle.trace_audit.specs.declared.verdicts.RuleAt.{RuleAt}
use Rattle.trace_audit.specs.machine.Judgements.{RulesCanGoOn, AreJudged}

-- a policy, what its guards remember of the steps that were taken, how many these are, the last time, what is still
-- asked for rules at positions, and the first of those that are broken
pub record Auditing : Type 0 where
  pub policy : StoredTyped
  pub past : Past
  pub position : ℕ
  pub last : ℕ
  pub asked : List OpenRule
  pub broken : Option RuleAt

abbrev pub audited_plans : Auditing → List Plan
audited_plans auditor = (typed_of auditor.policy).plans

-- the rules of the policy, as its plans stand for them
abbrev pub audited_rules : Auditing → List Formula
audited_rules auditor = formulas_for (audited_plans auditor)

abbrev pub audited_guards : Auditing → List (Formula × List VarId)
audited_guards auditor = map placed_guard auditor.past.guards

-- its guards are those of the policy, and what is asked can be evaluated with them
pub record IsAuditing (auditor : Auditing) : Type 0 where
  pub copies : AreCopies auditor.policy.guards auditor.past.guards
  pub asked : RulesCanGoOn (audited_guards auditor) auditor.asked

-- the first rule at the position after a trace
abbrev pub end_of : List Step → RuleAt
end_of trace = record { rule = 0; position = length trace }

-- it has taken the steps of a trace: what its guards remember stands for it, and on each longer trace what it has asked
-- and broken tells which rules hold at its positions
pub record Audits (auditor : Auditing) (trace : List Step) : Type 0 where
  pub is_trace : IsTrace trace
  pub position : auditor.position ≡ length trace
  pub last : auditor.last ≡ last_time trace
  pub past : PastStands trace auditor.past
  pub up_to : (time : ℕ) → auditor.last ≤ time → AreUpToTimeOf time auditor.past.operators
  pub judged : (more : List Step) → IsTrace (trace ++ more)
      → AreJudged (audited_rules auditor) (trace ++ more) (end_of trace) auditor.asked auditor.broken

-- the auditor stands for some trace
abbrev pub AuditsSome : Auditing → Type 0
AuditsSome auditor = (trace : List Step) × Audits auditor trace

-- an auditor of the policy that has taken nothing
pub record IsNewAuditor (policy : StoredTyped) (auditor : Auditing) : Type 0 where
  pub policy_is : auditor.policy ≡ policy
  pub position_is : auditor.position ≡ 0
  pub last_is : auditor.last ≡ 0

-- it has taken one step more: whatever trace it stood for, it now stands for that with the step at its end
pub record HasTaken (before : Auditing) (time : ℕ) (events : List Event) (after : Auditing) : Type 0 where
  pub policy : after.policy ≡ before.policy
  pub position : after.position ≡ before.position + 1
  pub last : after.last ≡ time
  pub stands : (trace : List Step) → Audits before trace
      → Audits after (trace ++ record { time = time; events = events } ∷ [])
