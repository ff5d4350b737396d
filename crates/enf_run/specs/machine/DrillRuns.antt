-- What one record does to a drill, and how a drill ends.
use Rattle.enf_data.specs.declared.terms.VarId.{VarId}
use Rattle.std.specs.Prelude.{count_by, map, ◌+◌, List, ℕ, ◌≤◌, ◌≡◌, false, [], ◌*◌, ◌^◌, length}
use Rattle.enf_formula.specs.meaning.Satisfaction.{Formula}
use Rattle.trace_meaning.specs.meaning.Traces.{Record}
use Rattle.past_state.specs.meaning.KeptRows.{all_operators}
use Rattle.obligations.specs.declared.actions.Action.{Action}
use Rattle.choice_step.specs.meaning.ActedSteps.{ActedStep}
use Rattle.save_codec.specs.declared.snapshots.Snapshot.{Snapshot}
use Rattle.enforce_types.specs.machine.TypedPolicies.{WorkTogether, typed_of}
use Rattle.log_gen.specs.meaning.GeneratedLogs.{generated_records}
use Rattle.log_gen.specs.meaning.Samples.{sample_entries, sample_rules}
use Rattle.enforcer_core.specs.declared.steps.StepOut.{StepOut}
use Rattle.enforcer_core.specs.machine.EnforcerSteps.{EnforcerTakes}
use Rattle.enforcer_core.specs.machine.MadeSteps.{acted_steps}
use Rattle.enforcer_core.specs.machine.Snapshots.{SavesTrace}
use Rattle.enforcer_core.specs.machine.Stands.{Stands, FollowsDrainFrom}
use Rattle.enf_run.specs.declared.drills.Drill.{Drill}
use Rattle.enf_run.specs.declared.drills.Drilled.{Drilled}
use Rattle.enf_run.specs.declared.drills.Tally.{Tally}
use Rattle.enf_run.specs.machine.LogRunEnds.{HasPlans}
use Rattle.enf_run.specs.meaning.Headline.{all_formulas}
use Rattle.enf_run.specs.meaning.Reports.{DrillFinds, is_cause, is_suppression, tally_of}

-- how many of the actions cause an event, and how many suppress one
abbrev pub causes_in : List Action → ℕ
causes_in actions = count_by (λ action. is_cause action.kind) actions

abbrev pub suppressions_in : List Action → ℕ
suppressions_in actions = count_by (λ action. is_suppression action.kind) actions

-- the operators on the past in guards, in the order in which windows are numbered
abbrev pub guard_operators : List (Formula × List VarId) → List Formula
guard_operators guards = all_operators (map (λ (guard : Formula × List VarId). guard.0) guards)

-- what a drill finds of the generated log under the sample policy
abbrev pub SampleDrillFinds : (start steps : ℕ) → Drilled → Type 0
SampleDrillFinds start steps found = DrillFinds sample_entries (all_formulas sample_rules)
    (generated_records start steps) found

-- counts, and those of some steps more
abbrev pub tally_with : Tally → List ActedStep → Tally
tally_with t out = record {
  steps = t.steps + (tally_of out).steps;
  inserted = t.inserted + (tally_of out).inserted;
  caused = t.caused + (tally_of out).caused;
  suppressed = t.suppressed + (tally_of out).suppressed;
}

-- each of the counts is at most so much
pub record TallyAtMost (most : ℕ) (t : Tally) : Type 0 where
  pub steps : t.steps ≤ most
  pub inserted : t.inserted ≤ most
  pub caused : t.caused ≤ most
  pub suppressed : t.suppressed ≤ most

-- a drill of the sample policy in which nothing was emitted
pub record IsNewDrill (drill : Drill) : Type 0 where
  pub planned : HasPlans sample_entries sample_rules drill.enforcer
  pub together : WorkTogether (typed_of drill.enforcer.policy)
  pub stands : Stands drill.enforcer []
  pub position : drill.enforcer.position ≡ 0
  pub clock : drill.enforcer.clock ≡ 0
  pub goes_on : drill.enforcer.stopped ≡ false
  pub tally : drill.tally ≡ tally_of []

-- a record was taken, and the steps that were emitted for it were counted
pub record TakesCounted (before : Drill) (next : Record) (after : Drill) : Type 0 where
  pub made : StepOut
  pub takes : EnforcerTakes before.enforcer next made after.enforcer
  pub tally : after.tally ≡ tally_with before.tally (acted_steps made.steps)
  pub few : (most : ℕ) → TallyAtMost most before.tally → TallyAtMost (most + length made.steps * 2 ^ 63)
      after.tally

-- what was kept and pending was counted, and then the steps that were emitted until nothing was pending
pub record FinishesDrill (before : Drill) (found : Drilled) : Type 0 where
  pub state : Snapshot
  pub saved : SavesTrace before.enforcer state
  pub kept : found.kept ≡ length state.kept
  pub pending : found.pending ≡ length state.pending
  pub last : List ActedStep
  pub drained : FollowsDrainFrom before.enforcer last
  pub tally : found.tally ≡ tally_with before.tally last
