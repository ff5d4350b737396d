-- The tables of outcomes, of refusals and of what is due, each at one form.
use Rattle.std.specs.Prelude.{codes, ℕ, List, ◌++◌, ◌≡◌, ◌⊎◌, Err, Ok}
use Rattle.enf_io.specs.declared.devices.IoRefusal.TheVariants.{Failed}
use Rattle.enf_io.specs.meaning.Exchange.{Stream}
use Rattle.signature.specs.declared.entries.NameEntry.{NameEntry}
use Rattle.formula_reader.specs.meaning.Resolution.{Rule}
use Rattle.formula_reader.specs.meaning.RuleText.{rule_text}
use Rattle.enf_run.specs.declared.refusals.Refusal.{Refusal}
use Rattle.enf_run.specs.declared.refusals.Status.{Status}
use Rattle.enf_run.specs.meaning.Calls.{Call, Audit, Check, Drill, Enforce, Generate, NoForm}
use Rattle.enf_run.specs.meaning.EnforceOutcomes.{CutsLog, DrainsRun, WritesRun}
use Rattle.enf_run.specs.meaning.Outcomes.{DueOf, LacksOf, OutcomeOf, RefusedOf}
use Rattle.enf_run.specs.declared.endings.Cut.TheVariants as cuts
use Rattle.enf_run.specs.declared.refusals.Status.TheVariants as statuses

-- ---- the outcomes

abbrev pub EnforceOutcome : {Gate : Type 0} → Call Gate → Status → Type 0
EnforceOutcome call status = OutcomeOf Enforce call status

abbrev pub CheckOutcome : {Gate : Type 0} → Call Gate → Status → Type 0
CheckOutcome call status = OutcomeOf Check call status

abbrev pub AuditOutcome : {Gate : Type 0} → Call Gate → Status → Type 0
AuditOutcome call status = OutcomeOf Audit call status

abbrev pub GenerateOutcome : {Gate : Type 0} → Call Gate → Status → Type 0
GenerateOutcome call status = OutcomeOf Generate call status

abbrev pub DrillOutcome : {Gate : Type 0} → Call Gate → Status → Type 0
DrillOutcome call status = OutcomeOf Drill call status

abbrev pub NoFormOutcome : {Gate : Type 0} → Call Gate → Status → Type 0
NoFormOutcome call status = OutcomeOf NoForm call status

-- ---- the refusals

abbrev pub EnforceRefused : {Gate : Type 0} → Call Gate → Stream → Refusal → Type 0
EnforceRefused call report why = RefusedOf Enforce call report why

abbrev pub CheckRefused : {Gate : Type 0} → Call Gate → Stream → Refusal → Type 0
CheckRefused call report why = RefusedOf Check call report why

abbrev pub AuditRefused : {Gate : Type 0} → Call Gate → Stream → Refusal → Type 0
AuditRefused call report why = RefusedOf Audit call report why

abbrev pub NoFormRefused : {Gate : Type 0} → Call Gate → Stream → Refusal → Type 0
NoFormRefused call report why = RefusedOf NoForm call report why

-- ---- where memory runs out

abbrev pub EnforceLacks : {Gate : Type 0} → Call Gate → Stream → Type 0
EnforceLacks call report = LacksOf Enforce call report

abbrev pub CheckLacks : {Gate : Type 0} → Call Gate → Stream → Type 0
CheckLacks call report = LacksOf Check call report

abbrev pub AuditLacks : {Gate : Type 0} → Call Gate → Stream → Type 0
AuditLacks call report = LacksOf Audit call report

-- ---- what is due

abbrev pub EnforceDue : {Gate : Type 0} → Call Gate → Status → Type 0
EnforceDue call status = DueOf Enforce call status

abbrev pub CheckDue : {Gate : Type 0} → Call Gate → Status → Type 0
CheckDue call status = DueOf Check call status

abbrev pub AuditDue : {Gate : Type 0} → Call Gate → Status → Type 0
AuditDue call status = DueOf Audit call status

abbrev pub GenerateDue : {Gate : Type 0} → Call Gate → Status → Type 0
GenerateDue call status = DueOf Generate call status

abbrev pub DrillDue : {Gate : Type 0} → Call Gate → Status → Type 0
DrillDue call status = DueOf Drill call status

abbrev pub NoFormDue : {Gate : Type 0} → Call Gate → Status → Type 0
NoFormDue call status = DueOf NoForm call status

-- ---- parts of these

-- the run is done: at its end all that was pending is served, or the state stands under the name of its file
abbrev pub IsEnforceDone : {Gate : Type 0} → Call Gate → Stream → Type 0
IsEnforceDone call report = DrainsRun call report ⊎ WritesRun call report (Ok tt)

-- a write to the gate, to the report or of the state failed
abbrev pub FailsToWrite : {Gate : Type 0} → Call Gate → Stream → Type 0
FailsToWrite call report = CutsLog call report cuts.WriteFault ⊎ WritesRun call report (Err Failed)

-- a run that ends with this status was broken off, by a fault or since memory ran out
abbrev pub IsBrokenOff : Status → Type 0
IsBrokenOff status = (status ≡ statuses.ReadFault) ⊎ ((status ≡ statuses.WriteFault) ⊎ (status ≡ statuses.NoMemory))

-- the canonical text of a rule, on a line
abbrev pub rule_line : List NameEntry → Rule → List ℕ
rule_line entries rule = rule_text entries rule ++ codes "\n"
