-- What a run says: why it is refused, what its end leaves on the report, and what a drill finds.
use Rattle.enf_data.specs.declared.terms.VarId.{VarId}
use Rattle.std.specs.Prelude.{ℕ, List, ◌++◌, codes, decimal, ◌≡◌, ◌≢◌, [], Option, ◌⊎◌, Bool, true, false, count_by}
use Rattle.std.specs.Prelude.{sum_by, map, length, ◌<◌}
use Rattle.enf_io.specs.meaning.Exchange.{Exchange, Stream}
use Rattle.enf_io.specs.meaning.ExchangeGrowth.{Gave}
use Rattle.enf_io.specs.meaning.Files.{one_more}
use Rattle.enf_formula.specs.meaning.Satisfaction.{Formula}
use Rattle.signature.specs.declared.entries.NameEntry.{NameEntry}
use Rattle.signature.specs.declared.refusals.SignatureRefusal.{SignatureRefusal as TextRefusal}
use Rattle.trace_meaning.specs.declared.kinds.StepKind.{StepKind}
use Rattle.trace_meaning.specs.declared.kinds.StepKind.TheVariants.{System, Inserted}
use Rattle.trace_meaning.specs.meaning.Traces.{Record, clock_after}
use Rattle.formula_reader.specs.declared.policies.PolicyRefusal.{PolicyRefusal as ReadRefusal}
use Rattle.past_state.specs.meaning.KeptRows.{all_operators}
use Rattle.obligations.specs.declared.actions.Action.{Action}
use Rattle.obligations.specs.declared.literals.LiteralKind.{LiteralKind}
use Rattle.obligations.specs.declared.literals.LiteralKind.TheVariants.{Cause, Suppress}
use Rattle.choice_step.specs.meaning.ActedSteps.{ActedStep}
use Rattle.choice_step.specs.meaning.Follows.{steps_of, is_inserted}
use Rattle.save_codec.specs.declared.refusals.StateRefusal.{StateRefusal as KeptRefusal}
use Rattle.save_codec.specs.declared.snapshots.Snapshot.{Snapshot}
use Rattle.save_codec.specs.meaning.SavedTexts.{IsSnapshotOf}
use Rattle.enforce_types.specs.declared.refusals.TypeRefusal.{TypeRefusal}
use Rattle.log_gen.specs.meaning.GeneratedLogs.{generated_records}
use Rattle.log_gen.specs.meaning.Samples.{sample_entries, sample_rules}
use Rattle.enforcer_core.specs.meaning.FollowsPolicy.{FollowsToEnd}
use Rattle.enf_run.specs.declared.drills.Drilled.{Drilled}
use Rattle.enf_run.specs.declared.drills.Tally.{Tally}
use Rattle.enf_run.specs.declared.refusals.RecordRefusal.{RecordRefusal}
use Rattle.enf_run.specs.declared.refusals.Refusal.{Refusal}
use Rattle.enf_run.specs.declared.refusals.Status.{Status}
use Rattle.enf_run.specs.meaning.Calls.{Call}
use Rattle.enf_run.specs.meaning.Headline.{text_of_log_refusal, all_formulas}
use Rattle.signature.specs.declared.refusals.SignatureRefusal.TheVariants as answers
use Rattle.formula_reader.specs.declared.policies.PolicyRefusal.TheVariants as read
use Rattle.save_codec.specs.declared.refusals.StateRefusal.TheVariants as kept
use Rattle.enforce_types.specs.declared.refusals.TypeRefusal.TheVariants as types
use Rattle.enf_run.specs.declared.refusals.SignatureRefusal.TheVariants as signatures
use Rattle.enf_run.specs.declared.refusals.PolicyRefusal.TheVariants as policies
use Rattle.enf_run.specs.declared.refusals.StateRefusal.TheVariants as states
use Rattle.enf_run.specs.declared.refusals.RecordRefusal.TheVariants as records
use Rattle.enf_run.specs.declared.refusals.Refusal.TheVariants as refusals
use Rattle.enf_run.specs.declared.refusals.Status.TheVariants as statuses

-- ---- The lines that say why a run is refused.

abbrev pub usage_line : List ℕ
usage_line = codes "usage: enf enforce SIG POLICY [--resume FILE] [--save FILE] | check SIG POLICY"
    ++ codes " | audit SIG POLICY | gen START N | drill START N\n"

-- the last line on the report of a run in which memory ran out
abbrev pub no_memory_line : List ℕ
no_memory_line = codes "no memory\n"

-- what is said of a refusal of a signature's text, which has this name with it
abbrev pub text_of_signature : TextRefusal → List ℕ → List ℕ
text_of_signature (answers.Syntax place) name = codes "signature: syntax at " ++ decimal place ++ codes "\n"
text_of_signature (answers.Repeated number place) name =
    codes "signature: repeated " ++ name ++ codes " at " ++ decimal place ++ codes "\n"
text_of_signature (answers.Limit which place) name = codes "signature: limit at " ++ decimal place ++ codes "\n"
text_of_signature answers.NoMemory name = no_memory_line

-- what is said of a refusal of a policy's text
abbrev pub text_of_reading : ReadRefusal → List ℕ
text_of_reading (read.Syntax place) = codes "policy: syntax at " ++ decimal place ++ codes "\n"
text_of_reading (read.UnknownName place) = codes "policy: unknown name at " ++ decimal place ++ codes "\n"
text_of_reading (read.Arity place) = codes "policy: arity at " ++ decimal place ++ codes "\n"
text_of_reading (read.SortClash place) = codes "policy: sort at " ++ decimal place ++ codes "\n"
text_of_reading (read.FreeVariable place) = codes "policy: free variable at " ++ decimal place ++ codes "\n"
text_of_reading (read.Rebound place) = codes "policy: rebound at " ++ decimal place ++ codes "\n"
text_of_reading (read.Limit place) = codes "policy: limit at " ++ decimal place ++ codes "\n"
text_of_reading read.NoMemory = no_memory_line

-- what is said of a refusal of the typing, which is about this name
abbrev pub text_of_typing : TypeRefusal → List ℕ → List ℕ
text_of_typing (types.Unguarded place) name = codes "policy: unguarded at " ++ decimal place ++ codes "\n"
text_of_typing (types.NotEnforceable place) name = codes "policy: not enforceable at " ++ decimal place ++ codes "\n"
text_of_typing (types.RoleClash number) name = codes "policy: role clash " ++ name ++ codes "\n"
text_of_typing (types.Untriggered place) name = codes "policy: untriggered at " ++ decimal place ++ codes "\n"
text_of_typing (types.Cyclic number) name = codes "policy: cyclic " ++ name ++ codes "\n"
text_of_typing types.NoMemory name = no_memory_line

-- what is said of a state that is refused
abbrev pub text_of_state : KeptRefusal → List ℕ
text_of_state (kept.Syntax line) = codes "state: syntax at line " ++ decimal line ++ codes "\n"
text_of_state kept.OtherPolicy = codes "state: other policy\n"
text_of_state (kept.Inconsistent line) = codes "state: inconsistent at line " ++ decimal line ++ codes "\n"
text_of_state kept.NoMemory = no_memory_line

-- what is said of a record that is refused
abbrev pub text_of_record_refusal : RecordRefusal → List ℕ
text_of_record_refusal (records.Log why) = text_of_log_refusal why
text_of_record_refusal (records.Falling given clock) =
    codes "time " ++ decimal given ++ codes " is below " ++ decimal clock
text_of_record_refusal records.InputLimit = codes "input limit"

-- the last line on the report of a run that ends with this refusal
abbrev pub text_of_refusal : Refusal → List ℕ
text_of_refusal refusals.Words = usage_line
text_of_refusal (refusals.Signature signatures.TooLong) = codes "signature: too long\n"
text_of_refusal (refusals.Signature (signatures.Text why name)) = text_of_signature why name.items
text_of_refusal (refusals.Policy policies.TooLong) = codes "policy: too long\n"
text_of_refusal (refusals.Policy (policies.Text why)) = text_of_reading why
text_of_refusal (refusals.Policy (policies.Typing why name)) = text_of_typing why name.items
text_of_refusal (refusals.State states.TooLong) = codes "state: too long\n"
text_of_refusal (refusals.State (states.Text why)) = text_of_state why
text_of_refusal (refusals.Record number why) =
    codes "record " ++ decimal number ++ codes ": " ++ text_of_record_refusal why ++ codes "\n"
text_of_refusal refusals.ReadFault = codes "read fault\n"

-- the status with which a run ends that is refused so
abbrev pub refusal_status : Refusal → Status
refusal_status refusals.Words = statuses.Words
refusal_status (refusals.Record number why) = statuses.Record
refusal_status refusals.ReadFault = statuses.ReadFault
refusal_status why = statuses.Files

-- ---- A text that is given whole, or in part.

-- the count of faults where none is added
abbrev pub none_more : ℕ → ℕ
none_more count = count

-- a front of a text, and not the whole of it
pub record IsPart (front text : List ℕ) : Type 0 where
  pub rest : List ℕ
  pub some : rest ≢ []
  pub split : text ≡ front ++ rest

-- a device gained a front of the text, and not the whole of it
pub record AddsPart (text : List ℕ) (before after : Option Exchange) : Type 0 where
  pub front : List ℕ
  pub part : IsPart front text
  pub gave : Gave front before after

-- a part of the text was given; or the whole of it, and so many bytes, not none, are held back
abbrev pub AddsOrHolds : (held : ℕ) → List ℕ → Option Exchange → Option Exchange → Type 0
AddsOrHolds held text before after = AddsPart text before after ⊎ (Gave text before after × (0 < held))

-- a part of the text was given, or nothing was
abbrev pub AddsOrNothing : List ℕ → Option Exchange → Option Exchange → Type 0
AddsOrNothing text before after = AddsPart text before after ⊎ (after ≡ before)

-- the line is whole at the end of the report, or the count of write faults is one more and a part of the line is there
abbrev pub IsReported : List ℕ → Stream → Stream → Type 0
IsReported line before after = (Gave line before.told after.told × (after.write_faults ≡ before.write_faults))
    ⊎ (AddsPart line before.told after.told × (after.write_faults ≡ one_more before.write_faults))

-- a part of the line is at the end of the report, and no write to it failed
abbrev pub IsReportedInPart : List ℕ → Stream → Stream → Type 0
IsReportedInPart line before after = AddsPart line before.told after.told × (after.write_faults ≡ before.write_faults)

-- the line that memory ran out is at the end of the report, or a part of it
abbrev pub SaysNoMemory : Stream → Stream → Type 0
SaysNoMemory before after = IsReported no_memory_line before after ⊎ IsReportedInPart no_memory_line before after

-- ---- What the end of a run leaves on the report.

-- a run ends with a refusal of this status: after its work, which left the report so, comes the line that says it
pub record RefusesRun {Gate : Type 0} (call : Call Gate) (Meets : Stream → Refusal → Type 0) (status : Status)
    : Type 0 where
  pub why : Refusal
  pub status_is : status ≡ refusal_status why
  pub between : Stream
  pub meets : Meets between why
  pub line : IsReported (text_of_refusal why) between call.after.report

-- a run ends with a refusal, and memory ran out within its line on the report
pub record RunsOutInLine {Gate : Type 0} (call : Call Gate) (Meets : Stream → Refusal → Type 0) : Type 0 where
  pub why : Refusal
  pub between : Stream
  pub meets : Meets between why
  pub line : IsReportedInPart (text_of_refusal why) between call.after.report

-- a run ends since memory ran out: after its work the report gains the line that says so, or a part of it
pub record RunsOutOfMemory {Gate : Type 0} (call : Call Gate) (Lacks : Stream → Type 0) : Type 0 where
  pub between : Stream
  pub lacks : Lacks between
  pub line : SaysNoMemory between call.after.report

-- memory ran out in the work of a run, or within the line of a refusal
abbrev pub LacksMemoryInRun : {Gate : Type 0} → Call Gate → (Stream → Type 0) → (Stream → Refusal → Type 0) → Type 0
LacksMemoryInRun call Lacks Meets = RunsOutOfMemory call Lacks ⊎ RunsOutInLine call Meets

-- ---- What a drill finds of a generated log under the sample policy, and the line that says it.

-- whether a step is one of the log
abbrev pub is_system : StepKind → Bool
is_system System = true
is_system Inserted = false

abbrev pub is_cause : LiteralKind → Bool
is_cause Cause = true
is_cause Suppress = false

abbrev pub is_suppression : LiteralKind → Bool
is_suppression Cause = false
is_suppression Suppress = true

-- how many steps of the log and inserted ones there are, and how many actions of each kind made them
abbrev pub tally_of : List ActedStep → Tally
tally_of out = record {
  steps = count_by (λ o. is_system o.kind) out;
  inserted = count_by (λ o. is_inserted o.kind) out;
  caused = sum_by (λ (o : ActedStep). count_by (λ (action : Action). is_cause action.kind) o.actions) out;
  suppressed = sum_by (λ (o : ActedStep). count_by (λ (action : Action). is_suppression action.kind) o.actions) out;
}

-- what a drill of these records under a policy finds. One list of steps is emitted for the records and up to the end,
-- and no other: its steps and actions are counted. After the records, before the rest is served, so many rows are
-- kept and so many instances are pending
pub record DrillFinds (entries : List NameEntry) (policy : List Formula) (records : List Record) (found : Drilled)
    : Type 0 where
  pub out : List ActedStep
  pub decided : FollowsToEnd entries policy [] records out
  pub only : (others : List ActedStep) → FollowsToEnd entries policy [] records others → others ≡ out
  pub tally : found.tally ≡ tally_of out
  pub state : Snapshot
  pub saved : IsSnapshotOf decided.plans
      (all_operators (map (λ (guard : Formula × List VarId). guard.0) decided.guards)) (steps_of decided.first)
      (clock_after 0 records) state
  pub kept : found.kept ≡ length state.kept
  pub pending : found.pending ≡ length state.pending

-- a count after its name
abbrev pub count_text : (name : List ℕ) → ℕ → List ℕ
count_text name count = name ++ decimal count

-- the line of what was found
abbrev pub drill_line : Drilled → List ℕ
drill_line found = count_text (codes "steps ") found.tally.steps ++ count_text (codes " inserted ") found.tally.inserted
    ++ count_text (codes " caused ") found.tally.caused ++ count_text (codes " suppressed ") found.tally.suppressed
    ++ count_text (codes " kept ") found.kept ++ count_text (codes " pending ") found.pending ++ codes "\n"

-- a drill finds this of the generated log, and its line is given to a device like that
pub record SaysDrillLine (IsGiven : List ℕ → Option Exchange → Option Exchange → Type 0) (start steps : ℕ)
    (before after : Option Exchange) : Type 0 where
  pub found : Drilled
  pub finds : DrillFinds sample_entries (all_formulas sample_rules) (generated_records start steps) found
  pub given : IsGiven (drill_line found) before after

-- the line was not given whole, or nothing was given
abbrev pub SaysDrillOrNothing : (start steps : ℕ) → Option Exchange → Option Exchange → Type 0
SaysDrillOrNothing start steps before after = SaysDrillLine AddsPart start steps before after ⊎ (after ≡ before)
