-- What holds of a run at each status, and where each status must come, by the form of its words.
use Rattle.std.specs.List.{flat_map, range_with_len}
use Rattle.std.specs.Prelude.{◌≡◌, ℕ, List, Option, ◌++◌, codes, Bool, true, false, decimal, [], length, slice_get, ◌+◌}
use Rattle.std.specs.Prelude.{Ok, Err, ◌≢◌, ◌⊎◌, ◌<◌}
use Rattle.enf_io.specs.declared.devices.IoRefusal.TheVariants.{Failed}
use Rattle.enf_io.specs.meaning.Exchange.{Stream, Exchange}
use Rattle.enf_io.specs.meaning.ExchangeGrowth.{Gave}
use Rattle.enf_io.specs.meaning.Files.{one_more}
use Rattle.signature.specs.declared.entries.NameEntry.{NameEntry}
use Rattle.trace_meaning.specs.meaning.Traces.{recorded}
use Rattle.formula_reader.specs.meaning.Resolution.{Rule}
use Rattle.formula_reader.specs.meaning.RuleText.{rule_text, name_text}
use Rattle.log_stream.specs.declared.items.LogMode.TheVariants.{TraceLog}
use Rattle.action_report.specs.meaning.ReportLines.{rule_name}
use Rattle.rank_check.specs.declared.rank_answers.Role.{Role}
use Rattle.rank_check.specs.declared.rank_answers.Role.TheVariants.{Free, Caused, Suppressed}
use Rattle.rank_check.specs.meaning.Ranked.{role_in, Ranked}
use Rattle.enforce_types.specs.meaning.PolicyRefusals.{IsTyped, Typed}
use Rattle.log_gen.specs.meaning.GeneratedLogs.{generated_text}
use Rattle.trace_audit.specs.declared.verdicts.Verdict.{Verdict as Found}
use Rattle.trace_audit.specs.declared.verdicts.Verdict.TheVariants.{Holds, Fails}
use Rattle.trace_audit.specs.meaning.Verdicts.{IsVerdict}
use Rattle.enf_run.specs.declared.intake.Verdict.{Verdict}
use Rattle.enf_run.specs.declared.refusals.RecordRefusal.{RecordRefusal}
use Rattle.enf_run.specs.declared.refusals.Refusal.{Refusal}
use Rattle.enf_run.specs.declared.refusals.StateRefusal.{StateRefusal}
use Rattle.enf_run.specs.declared.refusals.Status.{Status}
use Rattle.enf_run.specs.meaning.Calls.{Call, LeavesAll, MatchNoForm, LeavesFiles, IsCheckForm, IsAuditForm}
use Rattle.enf_run.specs.meaning.Calls.{NamesEnforce, IsDrillForm, IsGenerateForm, Form, Audit, Check, Drill, Enforce}
use Rattle.enf_run.specs.meaning.Calls.{Generate, NoForm, FormOf}
use Rattle.enf_run.specs.meaning.EnforceOutcomes.{AsksRefusedState, AsksToEnforceSo, BreaksOffLog, IsEnforceable}
use Rattle.enf_run.specs.meaning.EnforceOutcomes.{MissesState, RefusesRecord, RefusesStateFile, CutsLog, DrainsRun}
use Rattle.enf_run.specs.meaning.EnforceOutcomes.{RunsOutSaving, WritesRun}
use Rattle.enf_run.specs.meaning.Headline.{all_formulas, records_of}
use Rattle.enf_run.specs.meaning.Readings.{LogReading, ReadsLog, ReadsLogToEnd}
use Rattle.enf_run.specs.meaning.Reports.{IsPart, SaysDrillLine, SaysDrillOrNothing, AddsOrHolds, AddsOrNothing}
use Rattle.enf_run.specs.meaning.Reports.{none_more, AddsPart, LacksMemoryInRun, RefusesRun}
use Rattle.enf_run.specs.meaning.Sources.{AreBytesUnder, AsksPolicy, IsWholeLog, TellBytes, MissesFile}
use Rattle.enf_run.specs.meaning.Sources.{RefusesPolicyFile, RefusesSignatureFile, RunsOutBefore, AsksRefusedFile}
use Rattle.enf_run.specs.meaning.Sources.{MeetsReadFault, MeetsRefusedRecord, MeetsWriteFault}
use Rattle.enf_run.specs.declared.intake.Verdict.TheVariants as verdicts
use Rattle.enf_run.specs.declared.endings.Cut.TheVariants as cuts
use Rattle.enf_run.specs.declared.refusals.Refusal.TheVariants as refusals
use Rattle.enf_run.specs.declared.refusals.Status.TheVariants as statuses

-- ---- A run whose words match no form.

-- the words match no form, and nothing was touched
abbrev pub RefusesWords : {Gate : Type 0} → Call Gate → Stream → Type 0
RefusesWords call report = MatchNoForm call.words × LeavesAll call report

-- ---- A run that generates a log, or drills with one.

-- the words are of a form with a start and a number of steps, for which `IsGiven` holds at the gate, and the count of
-- its write faults is this one; nothing was taken from the gate, no read of it was made, and the files and the report
-- were not touched
pub record GivesFor {Gate : Type 0} (IsForm : List (List ℕ) → ℕ → ℕ → Type 0)
    (IsGiven : (start steps : ℕ) → Option Exchange → Option Exchange → Type 0) (faults : ℕ → ℕ) (call : Call Gate)
    (report : Stream) : Type 0 where
  pub start : ℕ
  pub steps : ℕ
  pub form : IsForm call.words start steps
  pub given : IsGiven start steps call.before.gate.told call.after.gate.told
  pub writes : call.after.gate.write_faults ≡ faults call.before.gate.write_faults
  pub reads : call.after.gate.read_faults ≡ call.before.gate.read_faults
  pub files : LeavesFiles call
  pub silent : report ≡ call.before.report

-- the generated log is given so
abbrev pub GivesLog : (List ℕ → Option Exchange → Option Exchange → Type 0) → (start steps : ℕ) → Option Exchange
    → Option Exchange → Type 0
GivesLog IsGiven start steps before after = IsGiven (generated_text start steps) before after

-- ---- A run that checks a policy, and the lines that it gives.

-- the canonical text of each rule, on a line
abbrev pub rule_lines : List NameEntry → List Rule → List ℕ
rule_lines entries policy = flat_map (λ (rule : Rule). rule_text entries rule ++ codes "\n") policy

-- whether the plans of the policy are transparent
abbrev pub mark_line : Bool → List ℕ
mark_line true = codes "transparent yes\n"
mark_line false = codes "transparent no\n"

-- the horizon of its plans, in units of time
abbrev pub horizon_line : ℕ → List ℕ
horizon_line horizon = codes "horizon " ++ decimal horizon ++ codes "\n"

-- what the policy does to the events of a name; nothing, where it leaves them
abbrev pub role_line : Role → (name : List ℕ) → List ℕ
role_line Free name = []
role_line Caused name = codes "cause " ++ name ++ codes "\n"
role_line Suppressed name = codes "suppress " ++ name ++ codes "\n"

-- the line of what a policy does to the events of the name with a number
abbrev pub numbered_role_line : List NameEntry → List Role → ℕ → List ℕ
numbered_role_line entries roles number =
    role_line (role_in roles (record { 0 = number })) (name_text entries (record { 0 = number }))

-- the lines of what a policy does to the events of all names, in the order of the signature
abbrev pub role_lines : List NameEntry → List Role → List ℕ
role_lines entries roles = flat_map (numbered_role_line entries roles) (range_with_len 0 (length entries))

-- all that is said of a policy under a signature, by what is known of its plans
abbrev pub check_text : List NameEntry → List Rule → Ranked → List ℕ
check_text entries policy ranked =
    rule_lines entries policy ++ mark_line ranked.transparent ++ horizon_line ranked.horizon
    ++ role_lines entries ranked.roles

-- the words ask to check an accepted policy, `IsGiven` holds at the gate of what is to be said of it, and the count of
-- its write faults is this one; nothing was taken from the gate, no read of it was made, and the files and the report
-- were not touched
pub record GivesCheckText {Gate : Type 0} (IsGiven : List ℕ → Option Exchange → Option Exchange → Type 0)
    (faults : ℕ → ℕ) (call : Call Gate) (report : Stream) : Type 0 where
  pub entries : List NameEntry
  pub policy : List Rule
  pub asks : AsksPolicy AreBytesUnder IsCheckForm call entries policy
  pub typed : Typed
  pub is_typed : IsTyped entries (all_formulas policy) typed
  pub given : IsGiven (check_text entries policy typed.ranked) call.before.gate.told call.after.gate.told
  pub writes : call.after.gate.write_faults ≡ faults call.before.gate.write_faults
  pub reads : call.after.gate.read_faults ≡ call.before.gate.read_faults
  pub files : LeavesFiles call
  pub silent : report ≡ call.before.report

-- ---- A run that audits a log, and the verdict that it gives.

-- the line that is given for what an audit found, under these rules
abbrev pub verdict_line : List Rule → Found → List ℕ
verdict_line rules Holds = codes "holds\n"
verdict_line rules (Fails rule position) =
    codes "violated " ++ rule_name (slice_get rules rule) ++ codes " at position " ++ decimal position ++ codes "\n"

-- the reading of a log that is audited: an enforced one, with its inserted steps, from the least time on
abbrev pub trace_log : List NameEntry → LogReading
trace_log entries = record { entries = entries; mode = TraceLog; clock = 0 }

-- nothing was given by the time of a read
abbrev pub GaveNothing : (taken given : List ℕ) → Type 0
GaveNothing taken given = given ≡ []

-- the words ask to audit a log under an accepted policy; the log ended so, nothing was given while it was read, and
-- the files and the report were not touched
pub record AuditsLog {Gate : Type 0} (call : Call Gate) (report : Stream) (ended : Verdict) : Type 0 where
  pub entries : List NameEntry
  pub policy : List Rule
  pub asks : AsksPolicy AreBytesUnder IsAuditForm call entries policy
  pub whole : ReadsLogToEnd GaveNothing (trace_log entries) ended call.before.gate call.after.gate
  pub files : LeavesFiles call
  pub silent : report ≡ call.before.report

-- the log was audited until it ended so, and nothing was given at its end
pub record GivesNoVerdict {Gate : Type 0} (call : Call Gate) (report : Stream) (ended : Verdict) : Type 0 where
  pub audit : AuditsLog call report ended
  pub nothing : audit.whole.log.given ≡ []
  pub writes : call.after.gate.write_faults ≡ call.before.gate.write_faults

-- the record of this number is refused, after the records that were audited, and no verdict is given
pub record RefusesAudited {Gate : Type 0} (call : Call Gate) (report : Stream) (number : ℕ) (why : RecordRefusal)
    : Type 0 where
  pub silence : GivesNoVerdict call report (verdicts.Refused why)
  pub number_is : number ≡ length silence.audit.whole.log.read + 1

-- the whole log was taken, and this is the verdict on the steps of its records
pub record FindsVerdict {Gate : Type 0} (call : Call Gate) (report : Stream) (found : Found) : Type 0 where
  pub audit : AuditsLog call report verdicts.Accepted
  pub is_verdict : IsVerdict (all_formulas audit.policy) (recorded (records_of audit.whole.log.read)) found

-- the line of the verdict was given whole
pub record SaysVerdict {Gate : Type 0} (call : Call Gate) (report : Stream) (found : Found) : Type 0 where
  pub finds : FindsVerdict call report found
  pub line : finds.audit.whole.log.given ≡ verdict_line finds.audit.policy found
  pub writes : call.after.gate.write_faults ≡ call.before.gate.write_faults

-- a text is given in part; or the whole of it, and so many bytes, not none, are held back
abbrev pub IsPartOrHeld : (held : ℕ) → (given text : List ℕ) → Type 0
IsPartOrHeld held given text = IsPart given text ⊎ ((given ≡ text) × (0 < held))

-- of the line of the verdict so much was given, and the count of write faults is this
pub record SaysVerdictInPart {Gate : Type 0} (IsSaid : (given line : List ℕ) → Type 0) (faults : ℕ → ℕ)
    (call : Call Gate) (report : Stream) : Type 0 where
  pub found : Found
  pub finds : FindsVerdict call report found
  pub part : IsSaid finds.audit.whole.log.given (verdict_line finds.audit.policy found)
  pub writes : call.after.gate.write_faults ≡ faults call.before.gate.write_faults

-- memory ran out within the log, and nothing was given
pub record RunsOutAuditing {Gate : Type 0} (call : Call Gate) (report : Stream) : Type 0 where
  pub entries : List NameEntry
  pub policy : List Rule
  pub asks : AsksPolicy AreBytesUnder IsAuditForm call entries policy
  pub log : ReadsLog GaveNothing (trace_log entries) call.before.gate call.after.gate
  pub nothing : log.given ≡ []
  pub reads : call.after.gate.read_faults ≡ call.before.gate.read_faults
  pub writes : call.after.gate.write_faults ≡ call.before.gate.write_faults
  pub files : LeavesFiles call
  pub silent : report ≡ call.before.report

-- the words ask to audit, and the files and the input are such that the audit must come to this verdict
pub record IsAuditable {Gate : Type 0} (call : Call Gate) (found : Found) : Type 0 where
  pub entries : List NameEntry
  pub policy : List Rule
  pub asks : AsksPolicy TellBytes IsAuditForm call entries policy
  pub whole : IsWholeLog (trace_log entries) call.before.gate.told
  pub is_verdict : IsVerdict (all_formulas policy) (recorded (records_of whole.read)) found

-- the words ask to audit a log, and this is how that is read
abbrev pub AsksToAudit : {Gate : Type 0} → Call Gate → LogReading → Type 0
AsksToAudit call r = (entries : List NameEntry) × (policy : List Rule)
    × AsksPolicy TellBytes IsAuditForm call entries policy × (r ≡ trace_log entries)

-- ---- The tables, by the form of the words.

-- what holds where the work of a run ends with a refusal, which leaves the report as given
abbrev pub RefusedOf : {Gate : Type 0} → Form → Call Gate → Stream → Refusal → Type 0
RefusedOf Enforce call report (refusals.Signature why) = RefusesSignatureFile NamesEnforce call report why
RefusedOf Enforce call report (refusals.Policy why) = RefusesPolicyFile NamesEnforce call report why
RefusedOf Enforce call report (refusals.State why) = RefusesStateFile call report why
RefusedOf Enforce call report (refusals.Record number why) = RefusesRecord call report number why
RefusedOf Enforce call report refusals.ReadFault =
    (MissesFile NamesEnforce call report ⊎ MissesState call report) ⊎ BreaksOffLog call report
RefusedOf Check call report (refusals.Signature why) = RefusesSignatureFile IsCheckForm call report why
RefusedOf Check call report (refusals.Policy why) = RefusesPolicyFile IsCheckForm call report why
RefusedOf Check call report refusals.ReadFault = MissesFile IsCheckForm call report
RefusedOf Audit call report (refusals.Signature why) = RefusesSignatureFile IsAuditForm call report why
RefusedOf Audit call report (refusals.Policy why) = RefusesPolicyFile IsAuditForm call report why
RefusedOf Audit call report (refusals.Record number why) = RefusesAudited call report number why
RefusedOf Audit call report refusals.ReadFault =
    MissesFile IsAuditForm call report ⊎ GivesNoVerdict call report verdicts.Fault
RefusedOf NoForm call report refusals.Words = RefusesWords call report
RefusedOf form call report other = ⊥

-- what holds where memory runs out in the work of a run, which leaves the report as given
abbrev pub LacksOf : {Gate : Type 0} → Form → Call Gate → Stream → Type 0
LacksOf Enforce call report = RunsOutBefore NamesEnforce call report
    ⊎ (CutsLog call report cuts.NoMemory ⊎ RunsOutSaving call report)
LacksOf Check call report = RunsOutBefore IsCheckForm call report ⊎ GivesCheckText AddsPart none_more call report
LacksOf Audit call report = RunsOutBefore IsAuditForm call report
    ⊎ (RunsOutAuditing call report ⊎ SaysVerdictInPart IsPart none_more call report)
LacksOf Generate call report = GivesFor IsGenerateForm (GivesLog AddsOrNothing) none_more call report
LacksOf Drill call report = GivesFor IsDrillForm SaysDrillOrNothing none_more call report
LacksOf NoForm call report = ⊥

-- what holds of a run at each status, by the form of its words: the work is done, or a write failed within it; or it
-- ended early, and the report says why
abbrev pub OutcomeOf : {Gate : Type 0} → Form → Call Gate → Status → Type 0
OutcomeOf Enforce call statuses.Done = DrainsRun call call.after.report ⊎ WritesRun call call.after.report (Ok tt)
OutcomeOf Enforce call statuses.WriteFault =
    CutsLog call call.after.report cuts.WriteFault ⊎ WritesRun call call.after.report (Err Failed)
OutcomeOf Check call statuses.Done = GivesCheckText Gave none_more call call.after.report
OutcomeOf Check call statuses.WriteFault =
    GivesCheckText (AddsOrHolds call.after.gate.held) one_more call call.after.report
OutcomeOf Audit call statuses.Done = SaysVerdict call call.after.report Holds
OutcomeOf Audit call statuses.Violated =
    (rule : ℕ) × (position : ℕ) × SaysVerdict call call.after.report (Fails rule position)
OutcomeOf Audit call statuses.WriteFault =
    SaysVerdictInPart (IsPartOrHeld call.after.gate.held) one_more call call.after.report
OutcomeOf Generate call statuses.Done = GivesFor IsGenerateForm (GivesLog Gave) none_more call call.after.report
OutcomeOf Generate call statuses.WriteFault =
    GivesFor IsGenerateForm (GivesLog (AddsOrHolds call.after.gate.held)) one_more call call.after.report
OutcomeOf Drill call statuses.Done = GivesFor IsDrillForm (SaysDrillLine Gave) none_more call call.after.report
OutcomeOf Drill call statuses.WriteFault =
    GivesFor IsDrillForm (SaysDrillLine (AddsOrHolds call.after.gate.held)) one_more call call.after.report
OutcomeOf form call statuses.NoMemory = LacksMemoryInRun call (LacksOf form call) (RefusedOf form call)
OutcomeOf form call status = RefusesRun call (RefusedOf form call) status

-- the words are of a form, and what its table of outcomes says at the status holds
pub record RunOutcome {Gate : Type 0} (call : Call Gate) (status : Status) : Type 0 where
  pub words : FormOf call.words
  pub holds : OutcomeOf words.form call status

-- where each status must come, of every gate and files that tell, by the form of the words: a run is done, or its
-- files, a record or its words are refused; a fault is due where one was met
abbrev pub DueOf : {Gate : Type 0} → Form → Call Gate → Status → Type 0
DueOf Enforce call statuses.Done = IsEnforceable call
DueOf Enforce call statuses.Files =
    AsksRefusedFile NamesEnforce call ⊎ ((why : StateRefusal) × AsksRefusedState TellBytes call why)
DueOf Enforce call statuses.Record = MeetsRefusedRecord (AsksToEnforceSo call) call
DueOf Check call statuses.Done =
    (entries : List NameEntry) × (policy : List Rule) × AsksPolicy TellBytes IsCheckForm call entries policy
DueOf Check call statuses.Files = AsksRefusedFile IsCheckForm call
DueOf Audit call statuses.Done = IsAuditable call Holds
DueOf Audit call statuses.Violated = (rule : ℕ) × (position : ℕ) × IsAuditable call (Fails rule position)
DueOf Audit call statuses.Files = AsksRefusedFile IsAuditForm call
DueOf Audit call statuses.Record = MeetsRefusedRecord (AsksToAudit call) call
DueOf Generate call statuses.Done = Unit {0}
DueOf Drill call statuses.Done = Unit {0}
DueOf NoForm call statuses.Words = Unit {0}
DueOf form call statuses.ReadFault = MeetsReadFault call
DueOf form call statuses.WriteFault = MeetsWriteFault call
DueOf form call other = ⊥

-- a run ends with this status, unless it was broken off, by a fault or since memory ran out
abbrev pub ComesToStatus : Status → Status → Type 0
ComesToStatus status result = (result ≡ status)
    ⊎ ((result ≡ statuses.ReadFault) ⊎ ((result ≡ statuses.WriteFault) ⊎ (result ≡ statuses.NoMemory)))

-- each status that is due by the table of the form of the words comes, unless the run is broken off. Where a write to
-- the report failed, the run is not done
pub record Dues {Gate : Type 0} (call : Call Gate) (result : Status) : Type 0 where
  pub words : FormOf call.words
  pub comes : (status : Status) → DueOf words.form call status → ComesToStatus status result
  pub report_fault : call.after.report.write_faults ≢ call.before.report.write_faults
      → (result ≢ statuses.Done) × (result ≢ statuses.Violated)
