-- Why the parts of a run end before they are done, with the status and what the report has then.
use Rattle.std.specs.Prelude.{ℕ, Result, Ok, Err, List, Option, ◌≡◌, ◌⊎◌, ◌<◌, IfErr, OnErr, OnOk}
use Rattle.enf_io.specs.declared.devices.IoRefusal.{IoRefusal}
use Rattle.enf_io.specs.declared.writing.WriteRefusal.{WriteRefusal}
use Rattle.enf_io.specs.meaning.Exchange.{Exchange, Stream}
use Rattle.enf_io.specs.meaning.ExchangeGrowth.{Gave}
use Rattle.enf_io.specs.meaning.Files.{one_more}
use Rattle.enf_run.specs.declared.endings.Cut.{Cut}
use Rattle.enf_run.specs.declared.endings.Ending.{Ending}
use Rattle.enf_run.specs.declared.endings.FileEnding.{FileEnding}
use Rattle.enf_run.specs.declared.endings.Finish.{Finish}
use Rattle.enf_run.specs.declared.refusals.PolicyRefusal.{PolicyRefusal}
use Rattle.enf_run.specs.declared.refusals.Refusal.{Refusal}
use Rattle.enf_run.specs.declared.refusals.Refusal.TheVariants.{ReadFault}
use Rattle.enf_run.specs.declared.refusals.SignatureRefusal.{SignatureRefusal}
use Rattle.enf_run.specs.declared.refusals.StateRefusal.{StateRefusal}
use Rattle.enf_run.specs.declared.refusals.Status.{Status}
use Rattle.enf_run.specs.meaning.HandedOn.{IsHandedOn}
use Rattle.enf_run.specs.meaning.Reports.{none_more, refusal_status, text_of_refusal, AddsPart}
use Rattle.enf_run.specs.meaning.Reports.{IsReported, IsReportedInPart, SaysNoMemory}
use Rattle.enf_io.specs.declared.writing.WriteRefusal.TheVariants as writes
use Rattle.enf_io.specs.declared.devices.IoRefusal.TheVariants as io
use Rattle.enf_run.specs.declared.refusals.Refusal.TheVariants as refusals
use Rattle.enf_run.specs.declared.endings.Cut.TheVariants as cuts
use Rattle.enf_run.specs.declared.endings.Ending.TheVariants as endings
use Rattle.enf_run.specs.declared.endings.FileEnding.TheVariants as files
use Rattle.enf_run.specs.declared.refusals.Status.TheVariants as statuses
use Rattle.enf_run.specs.declared.endings.Finish.TheVariants as finishes

-- the last lines on the report where a text is refused
abbrev pub text_of_signature_refusal : SignatureRefusal → List ℕ
text_of_signature_refusal why = text_of_refusal (refusals.Signature why)

abbrev pub text_of_policy_refusal : PolicyRefusal → List ℕ
text_of_policy_refusal why = text_of_refusal (refusals.Policy why)

abbrev pub text_of_state_refusal : StateRefusal → List ℕ
text_of_state_refusal why = text_of_refusal (refusals.State why)

-- the count of write faults after a cut: one more where a fault was its cause
abbrev pub faults_behind : Cut → ℕ → ℕ
faults_behind cuts.WriteFault count = one_more count
faults_behind cuts.NoMemory count = none_more count

-- why output ends after a refusal to write
abbrev pub cut_after : WriteRefusal → Cut
cut_after (writes.WriteFault written) = cuts.WriteFault
cut_after (writes.NoMemory written) = cuts.NoMemory

-- why a run ends after a write of a file was refused
abbrev pub cut_after_file : IoRefusal → Cut
cut_after_file io.Failed = cuts.WriteFault
cut_after_file io.NoMemory = cuts.NoMemory

-- why a run ends after a read of a file was refused
abbrev pub ending_after_read : IoRefusal → Ending
ending_after_read io.Failed = endings.Refused ReadFault
ending_after_read io.NoMemory = endings.Cut cuts.NoMemory

-- why a run ends after a file gave nothing; of what the file holds, the refusal is made
abbrev pub ending_after_file : {W : Type 0} → (W → Refusal) → FileEnding W → Ending
ending_after_file refusal_of (files.Refused why) = endings.Refused (refusal_of why)
ending_after_file refusal_of (files.NotRead why) = ending_after_read why

-- the count of write faults after output that may have been cut
abbrev pub write_faults_behind : {T : Type 0} → Result T Cut → ℕ → ℕ
write_faults_behind (Ok value) count = count
write_faults_behind (Err cut) count = faults_behind cut count

-- what was given of a text whose writing was cut
abbrev pub CutsText : List ℕ → Option Exchange → Option Exchange → Cut → Type 0
CutsText text before after cuts.WriteFault = AddsPart text before after
CutsText text before after cuts.NoMemory = AddsPart text before after ⊎ (after ≡ before)

-- the number that the program ends with
abbrev pub status_code : Status → ℕ
status_code statuses.Done = 0
status_code statuses.Words = 1
status_code statuses.Files = 2
status_code statuses.Record = 3
status_code statuses.ReadFault = 4
status_code statuses.WriteFault = 5
status_code statuses.NoMemory = 6
status_code statuses.Violated = 7

-- the text is whole at the end of the report, or a part of it where the writing was cut
abbrev pub AddsText : {T : Type 0} → List ℕ → Result T Cut → Option Exchange → Option Exchange → Type 0
AddsText text (Ok done) before after = Gave text before after
AddsText text (Err cut) before after = AddsPart text before after

-- the writing of a text to the report, and how it ends
pub record WritesText {T : Type 0} (text : List ℕ) (result : Result T Cut) (before after : Stream) : Type 0 where
  pub adds : AddsText text result before.told after.told
  pub writes : after.write_faults ≡ write_faults_behind result before.write_faults
  pub reads : after.read_faults ≡ before.read_faults
  pub late : after.late_reads ≡ before.late_reads

-- what the gate held back was handed on, all of it or, where that failed, not all; nothing was taken or given
pub record FlushesGate {T : Type 0} (result : Result T Cut) (before after : Stream) : Type 0 where
  pub told : after.told ≡ before.told
  pub whole : OnOk result (after.held ≡ 0)
  pub some_left : OnErr result (0 < after.held)
  pub failed : IfErr result (λ cut. cut ≡ cuts.WriteFault)
  pub writes : after.write_faults ≡ write_faults_behind result before.write_faults
  pub reads : after.read_faults ≡ before.read_faults
  pub late : after.late_reads ≡ before.late_reads

-- what the gate held back was handed on after output that ended as given, unless a write failed in it; it ends as
-- given, or by a failed write where not all was handed on
pub record FlushesAfter {T : Type 0} (given result : Result T Cut) (before after : Stream) : Type 0 where
  pub told : after.told ≡ before.told
  pub ends : (result ≡ given) ⊎ (0 < after.held)
  pub whole : (after.held ≡ 0) ⊎ (result ≡ Err cuts.WriteFault)
  pub writes : (count : ℕ) → before.write_faults ≡ write_faults_behind given count
      → after.write_faults ≡ write_faults_behind result count
  pub reads : after.read_faults ≡ before.read_faults
  pub late : after.late_reads ≡ before.late_reads

-- as `HandsOnAll`, of how the work of a run ends
abbrev pub HandsOnWork : {T : Type 0} → (before after : Stream) → Result T Ending → Type 0
HandsOnWork before after result =
    before.held ≡ 0 → IsHandedOn (result ≡ Err (endings.Cut cuts.WriteFault)) before after

-- the line is on the report with its status, or a part of it where memory ran out
abbrev pub ReportsRefusal : Refusal → Stream → Stream → Status → Type 0
ReportsRefusal refusal before after status =
    ((status ≡ refusal_status refusal) × IsReported (text_of_refusal refusal) before after)
    ⊎ ((status ≡ statuses.NoMemory) × IsReportedInPart (text_of_refusal refusal) before after)

-- what the end of a run leaves on the report, and its status
abbrev pub EndsRunWith : Ending → Stream → Stream → Status → Type 0
EndsRunWith (endings.Refused why) before after status = ReportsRefusal why before after status
EndsRunWith (endings.Cut cuts.WriteFault) before after status = (status ≡ statuses.WriteFault) × (after ≡ before)
EndsRunWith (endings.Cut cuts.NoMemory) before after status = (status ≡ statuses.NoMemory)
    × SaysNoMemory before after

-- what the end of the work leaves on the report, and the status; where it is done, nothing comes after it
abbrev pub Concludes : Result Finish Ending → Stream → Stream → Status → Type 0
Concludes (Ok finishes.Done) before after status = (status ≡ statuses.Done) × (after ≡ before)
Concludes (Ok finishes.Violated) before after status = (status ≡ statuses.Violated) × (after ≡ before)
Concludes (Err ending) before after status = EndsRunWith ending before after status
