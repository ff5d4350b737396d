-- What one turn of the audit of a log does, and what an audit has found.
use Rattle.std.specs.Prelude.{◌≡◌, ℕ, ◌≤◌, ◌<◌, List, ◌+◌, Option, None, Some, ◌⊎◌, [], length}
use Rattle.enf_io.specs.meaning.Exchange.{Stream}
use Rattle.signature.specs.declared.entries.NameEntry.{NameEntry}
use Rattle.trace_meaning.specs.meaning.Traces.{Record, StepRecord, Tick, time_of, recorded}
use Rattle.plan_terms.specs.machine.StoredPlans.{formulas_for}
use Rattle.plan_terms.specs.meaning.Plans.{Plan}
use Rattle.log_stream.specs.declared.items.LogItem.{LogItem}
use Rattle.log_stream.specs.declared.items.LogMode.TheVariants.{TraceLog}
use Rattle.log_stream.specs.meaning.LogGrammar.{BeginsWithRecord, IsPending, behind_blanks}
use Rattle.trace_audit.specs.declared.verdicts.Verdict.{Verdict as Found}
use Rattle.trace_audit.specs.declared.verdicts.Verdict.TheVariants.{Holds, Fails}
use Rattle.trace_audit.specs.machine.Auditors.{Auditing, HasTaken}
use Rattle.trace_audit.specs.meaning.Verdicts.{IsVerdict}
use Rattle.enf_run.specs.declared.audits.Audit.{Audit}
use Rattle.enf_run.specs.declared.audits.Audited.{Audited}
use Rattle.enf_run.specs.declared.endings.Finish.{Finish}
use Rattle.enf_run.specs.declared.intake.Next.{Next}
use Rattle.enf_run.specs.declared.intake.Verdict.{Verdict}
use Rattle.enf_run.specs.declared.refusals.RecordRefusal.{RecordRefusal}
use Rattle.enf_run.specs.machine.LogIntake.{reads_in, RefusesNext, TurnTakesPiece, EndsTurn, LosesBytes}
use Rattle.enf_run.specs.meaning.Headline.{record_of, records_of}
use Rattle.enf_run.specs.meaning.Outcomes.{trace_log, GaveNothing}
use Rattle.enf_run.specs.meaning.Readings.{ReadsLog, ReadsLogToEnd}
use Rattle.enf_run.specs.declared.refusals.RecordRefusal.TheVariants as records
use Rattle.enf_run.specs.declared.intake.Next.TheVariants as nexts
use Rattle.enf_run.specs.declared.endings.Finish.TheVariants as finishes

-- some of a log to audit was taken, and nothing was given by the time of each read
abbrev pub TakesTrace : List NameEntry → Stream → Stream → Type 0
TakesTrace entries before after = ReadsLog GaveNothing (trace_log entries) before after

abbrev pub TakesWholeTrace : List NameEntry → Verdict → Stream → Stream → Type 0
TakesWholeTrace entries verdict before after = ReadsLogToEnd GaveNothing (trace_log entries) verdict before after

-- memory ran out within the log, and nothing was given
pub record LosesLog (entries : List NameEntry) (before after : Stream) : Type 0 where
  pub log : TakesTrace entries before after
  pub nothing : log.given ≡ []
  pub reads : after.read_faults ≡ before.read_faults

-- a step goes to the auditor, and a tick does not
abbrev pub AuditorTakes : Record → Auditing → Auditing → Type 0
AuditorTakes (StepRecord step) before after = HasTaken before step.time step.events after
AuditorTakes (Tick time) before after = after ≡ before

-- the record was taken, and its time is the clock
pub record AuditsRecord (next : Record) (clock clock' : ℕ) (before after : Auditing) : Type 0 where
  pub not_below : clock ≤ time_of next
  pub clock_is : clock' ≡ time_of next
  pub taken : AuditorTakes next before after

-- the record was left since its time is below the clock
pub record LeavesRecord (next : Record) (why : RecordRefusal) (clock : ℕ) (before after : Auditing) : Type 0 where
  pub falls : why ≡ records.Falling (time_of next) clock
  pub below : time_of next < clock
  pub same : after ≡ before

abbrev pub AnswersRecord : Record → Next → (clock clock' : ℕ) → (before after : Auditing) → Type 0
AnswersRecord next nexts.Taken clock clock' before after = AuditsRecord next clock clock' before after
AnswersRecord next nexts.Pending clock clock' before after = ⊥
AnswersRecord next (nexts.Refused why) clock clock' before after = LeavesRecord next why clock before after

-- a whole record was taken from the front of the rest
pub record AuditsNext (entries : List NameEntry) (audit audit' : Audit) : Type 0 where
  pub item : LogItem
  pub begins : BeginsWithRecord entries TraceLog audit.intake.reader.rest item audit'.intake.reader.rest
  pub reader_is : audit'.intake.reader ≡ reads_in entries TraceLog audit'.intake.reader.rest
  pub taken : AuditsRecord (record_of item) audit.clock audit'.clock audit.auditor audit'.auditor

-- the piece of the intake and its counts are as they were
pub record LeavesCounts (audit audit' : Audit) : Type 0 where
  pub piece : audit'.intake.piece ≡ audit.intake.piece
  pub accepted : audit'.intake.accepted ≡ audit.intake.accepted
  pub taken : audit'.intake.taken ≡ audit.intake.taken

-- no record is whole yet, and blanks are let go
pub record WaitsAudit (entries : List NameEntry) (audit audit' : Audit) : Type 0 where
  pub pending : IsPending audit.intake.reader.rest
  pub reader_is : audit'.intake.reader ≡ reads_in entries TraceLog (behind_blanks audit.intake.reader.rest)
  pub auditor : audit'.auditor ≡ audit.auditor
  pub clock : audit'.clock ≡ audit.clock

abbrev pub AnswersAudit : List NameEntry → Next → Audit → Audit → Type 0
AnswersAudit entries nexts.Taken audit audit' = AuditsNext entries audit audit'
AnswersAudit entries nexts.Pending audit audit' = WaitsAudit entries audit audit'
AnswersAudit entries (nexts.Refused why) audit audit' =
    RefusesNext entries TraceLog audit.intake.reader.rest audit.clock why × (audit'.auditor ≡ audit.auditor)

-- a record was taken, and the gate was left
pub record AuditsOne (entries : List NameEntry) (audit audit' : Audit) (before after : Stream) : Type 0 where
  pub next : AuditsNext entries audit audit'
  pub accepted : audit'.intake.accepted ≡ audit.intake.accepted + 1
  pub taken : audit'.intake.taken ≡ audit.intake.taken
  pub gate : after ≡ before

-- a piece was taken, and the auditor was left as it was
pub record AuditsLater (entries : List NameEntry) (audit audit' : Audit) (before after : Stream) : Type 0 where
  pub piece : TurnTakesPiece entries TraceLog audit.intake audit'.intake before after
  pub auditor : audit'.auditor ≡ audit.auditor
  pub clock : audit'.clock ≡ audit.clock

abbrev pub AnswersAuditTurn : List NameEntry → Option Verdict → Audit → Audit → Stream → Stream → Type 0
AnswersAuditTurn entries None audit audit' before after =
    AuditsOne entries audit audit' before after ⊎ AuditsLater entries audit audit' before after
AnswersAuditTurn entries (Some verdict) audit audit' before after =
    (audit'.intake.accepted ≡ audit.intake.accepted) × (audit'.auditor ≡ audit.auditor)
    × EndsTurn entries TraceLog audit.clock audit.intake before after verdict

-- memory ran out and nothing was done, but that a piece may have been lost
abbrev pub LosesAuditTurn : Audit → Stream → Stream → Type 0
LosesAuditTurn audit before after =
    ((after.told ≡ before.told) ⊎ LosesBytes audit.intake before.told after.told)
    × (after.read_faults ≡ before.read_faults)

-- a run that finds this is done, or the log violates the policy
abbrev pub finish_after : Found → Finish
finish_after Holds = finishes.Done
finish_after (Fails rule position) = finishes.Violated

-- the log ended so after so many accepted records, nothing was given, and this is the verdict on the steps of these
-- records, by what the plans stand for
pub record HasAudited (entries : List NameEntry) (plans : List Plan) (audited : Audited) (before after : Stream)
    : Type 0 where
  pub ended : TakesWholeTrace entries audited.judged.verdict before after
  pub nothing : ended.log.given ≡ []
  pub count : audited.judged.accepted ≡ length ended.log.read
  pub found : IsVerdict (formulas_for plans) (recorded (records_of ended.log.read)) audited.found
