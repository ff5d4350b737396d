-- That what is kept of a ready trace keeps the bounds of states and can be taken up.
use Rattle.enf_data.specs.declared.steps.Step.{Step}
use Rattle.enf_data.specs.declared.terms.VarId.{VarId}
use Rattle.enf_data.specs.meaning.Data.{IsTrace}
use Rattle.std.specs.Prelude.{ℕ, ◌<◌, ◌≤◌, ◌^◌, List, Ok, length}
use Rattle.enf_formula.specs.meaning.Satisfaction.{Formula}
use Rattle.signature.specs.declared.entries.NameEntry.{NameEntry}
use Rattle.trace_meaning.specs.declared.kinds.StepKind.TheVariants.{System}
use Rattle.trace_meaning.specs.meaning.Traces.{most_time}
use Rattle.formula_reader.specs.meaning.PolicyAnswers.{IsPolicyAnswer}
use Rattle.formula_reader.specs.meaning.Resolution.{Rule}
use Rattle.plan_terms.specs.meaning.Plans.{Plan}
use Rattle.plan_terms.specs.machine.WellFormed.{AreWellFormed}
use Rattle.past_state.specs.meaning.KeptRows.{all_operators}
use Rattle.obligations.specs.meaning.Pending.{IsReady}
use Rattle.save_codec.specs.declared.snapshots.Snapshot.{Snapshot}
use Rattle.save_codec.specs.meaning.SavedBounds.{KeepsBounds}
use Rattle.save_codec.specs.meaning.SavedTexts.{IsSnapshotOf}
use Rattle.enforce_types.specs.machine.TypedPolicies.{formulas_of, StoredTyped, WorkTogether, typed_of}
use Rattle.enforce_types.specs.machine.VariableSorts.{TraceFits}
use Rattle.enforce_types.specs.meaning.Elab.{ArePlanned}
use Rattle.enforcer_core.specs.machine.Enforcers.{policy_plans}
use Rattle.enforcer_core.specs.machine.Snapshots.{formulas_in, saved_bounds, policy_operators, CanBeTakenUp}

-- under the plans of a policy that was read, what is kept of a trace that is ready for a clock, and whose events are of
-- the signature, keeps the bounds, where the clock is not too late
abbrev pub SavedKeepsBounds : Type 0
SavedKeepsBounds = (entries : List NameEntry) (rules : List Rule) (bytes : List ℕ) (plans : List Plan)
    (guards : List (Formula × List VarId)) (trace : List Step) (clock : ℕ) (s : Snapshot)
    → IsPolicyAnswer entries bytes (Ok rules)
    → ArePlanned entries (formulas_of rules) plans guards
    → AreWellFormed plans guards
    → IsTrace trace
    → IsReady plans trace clock
    → clock ≤ most_time System
    → TraceFits entries trace
    → length trace < 2 ^ 63
    → IsSnapshotOf plans (all_operators (formulas_in guards)) trace clock s
    → KeepsBounds (saved_bounds entries plans guards) s

-- what is kept of such a trace can be taken up, at a clock that is not too late
abbrev pub KeptCanBeTakenUp : Type 0
KeptCanBeTakenUp = (policy : StoredTyped) (trace : List Step) (clock : ℕ) (s : Snapshot)
    → WorkTogether (typed_of policy) → IsTrace trace → IsReady (policy_plans policy) trace clock
    → clock ≤ most_time System
    → IsSnapshotOf (policy_plans policy) (policy_operators policy) trace clock s → CanBeTakenUp policy s
