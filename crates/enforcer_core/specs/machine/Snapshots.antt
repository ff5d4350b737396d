-- What is kept of an enforcer between two steps.
use Rattle.enf_data.specs.declared.steps.Step.{Step}
use Rattle.enf_data.specs.declared.terms.VarId.{VarId}
use Rattle.enf_data.specs.meaning.Data.{IsTrace}
use Rattle.std.specs.Prelude.{List, map, ◌≡◌, ◌≤◌, All, false}
use Rattle.enf_formula.specs.meaning.Satisfaction.{Formula}
use Rattle.signature.specs.declared.entries.NameEntry.{NameEntry}
use Rattle.trace_meaning.specs.declared.kinds.StepKind.TheVariants.{Inserted}
use Rattle.trace_meaning.specs.meaning.Traces.{most_time}
use Rattle.plan_terms.specs.meaning.Plans.{Plan}
use Rattle.past_state.specs.machine.Guards.{tree_in}
use Rattle.past_state.specs.machine.StoredRows.{AreStoredRows}
use Rattle.past_state.specs.meaning.KeptRows.{AreRowsRising, all_operators}
use Rattle.past_state.specs.meaning.RowBounds.{IsFrom, AreWithinBounds}
use Rattle.obligations.specs.meaning.Pending.{IsReady}
use Rattle.obligations.specs.meaning.PendingBounds.{CanBePending}
use Rattle.save_codec.specs.declared.snapshots.Snapshot.{Snapshot}
use Rattle.save_codec.specs.meaning.SavedBounds.{SaveSetting}
use Rattle.save_codec.specs.meaning.SavedTexts.{IsSnapshotOf}
use Rattle.enforce_types.specs.machine.TypedPolicies.{StoredTyped}
use Rattle.enforcer_core.specs.machine.Enforcers.{Enforcing, enforcer_plans, policy_plans}
use Rattle.enforcer_core.specs.machine.Stands.{Stands}

-- the formulas of guards
abbrev pub formulas_in : List (Formula × List VarId) → List Formula
formulas_in guards = map (λ (guard : Formula × List VarId). guard.0) guards

-- the bounds on states of a policy with these plans and guards
abbrev pub saved_bounds : List NameEntry → List Plan → List (Formula × List VarId) → SaveSetting
saved_bounds entries plans guards = record { entries = entries; plans = plans; guards = formulas_in guards }

-- the operators on the past in the guards of a policy, in the order in which windows are numbered
abbrev pub policy_operators : StoredTyped → List Formula
policy_operators policy = all_operators (map tree_in policy.guards)

-- a snapshot is as the enforcer is, whatever that stands for
pub record IsKeptOf (enforcer : Enforcing) (s : Snapshot) : Type 0 where
  pub clock : s.clock ≡ enforcer.clock
  pub last : s.last ≡ enforcer.last
  pub position : s.position ≡ enforcer.position
  pub rising : AreRowsRising s.kept
  pub kept : AreStoredRows enforcer.past s.kept
  pub pending : s.pending ≡ enforcer.pending.instances

-- a snapshot is that of each trace for which the enforcer stands, at the enforcer's clock
abbrev pub SavesTrace : Enforcing → Snapshot → Type 0
SavesTrace enforcer s = (trace : List Step) → Stands enforcer trace
    → IsSnapshotOf (enforcer_plans enforcer) (policy_operators enforcer.policy) trace enforcer.clock s

-- ---- one that goes on from it

-- it can be taken up under the policy: its last time is not after its clock, and its clock, rows and instances are
-- within their bounds
pub record CanBeTakenUp (policy : StoredTyped) (s : Snapshot) : Type 0 where
  pub in_time : s.clock ≤ most_time Inserted
  pub due : All (λ i. i.high ≤ most_time Inserted) s.pending
  pub not_later : IsFrom s.last s.clock
  pub kept : AreWithinBounds (policy_operators policy) s.last s.kept
  pub pending : All (CanBePending (policy_plans policy) s.clock s.position) s.pending

-- an enforcer of the policy that is as it says
pub record IsTakenUpFrom (policy : StoredTyped) (s : Snapshot) (enforcer : Enforcing) : Type 0 where
  pub policy_is : enforcer.policy ≡ policy
  pub goes_on : enforcer.stopped ≡ false
  pub as_kept : IsKeptOf enforcer s

-- the enforcer stands for each trace of which the snapshot is, and which is ready for the clock
abbrev pub StandsAgain : StoredTyped → Snapshot → Enforcing → Type 0
StandsAgain policy s enforcer = (trace : List Step) → IsTrace trace → IsReady (policy_plans policy) trace s.clock
    → IsSnapshotOf (policy_plans policy) (policy_operators policy) trace s.clock s → Stands enforcer trace
