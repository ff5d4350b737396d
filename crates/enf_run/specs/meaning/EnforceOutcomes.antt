-- What holds of runs that enforce a log: drained, saved, refused within it or cut.
use Rattle.std.specs.Prelude.{ℕ, List, ◌≡◌, length, ◌+◌, Some, None, ◌<◌, ◌^◌, Result, Option}
use Rattle.enf_io.specs.declared.devices.IoRefusal.{IoRefusal}
use Rattle.enf_io.specs.meaning.Exchange.{Stream}
use Rattle.enf_io.specs.meaning.FileCalls.{WritesFile}
use Rattle.enf_io.specs.meaning.Files.{Contents}
use Rattle.signature.specs.declared.entries.NameEntry.{NameEntry}
use Rattle.trace_meaning.specs.meaning.Traces.{Start, start_behind}
use Rattle.formula_reader.specs.meaning.Resolution.{Rule}
use Rattle.choice_step.specs.meaning.ActedSteps.{out_steps}
use Rattle.save_codec.specs.declared.snapshots.Snapshot.{Snapshot}
use Rattle.save_codec.specs.meaning.SavedBounds.{SaveSetting as Bounds}
use Rattle.save_codec.specs.meaning.SavedTexts.{saved_text}
use Rattle.enf_run.specs.declared.endings.Cut.{Cut}
use Rattle.enf_run.specs.declared.files.TheConstants.{MOST_STATE_BYTES}
use Rattle.enf_run.specs.declared.intake.Judged.{Judged}
use Rattle.enf_run.specs.declared.refusals.RecordRefusal.{RecordRefusal}
use Rattle.enf_run.specs.declared.refusals.StateRefusal.{StateRefusal}
use Rattle.enf_run.specs.meaning.Calls.{Call, LeavesFiles, LeavesGate, LeavesAll, IsEnforceForm}
use Rattle.enf_run.specs.meaning.Headline.{States, IsStateText, IsReadyState, records_of}
use Rattle.enf_run.specs.meaning.LogRuns.{seen_of, RunsLogFor, TookLog, CutsRun, LostLog}
use Rattle.enf_run.specs.meaning.Readings.{LogSetting, enforced_from, IsOwedInAll, IsOwedSoFar, input_log, LogReading}
use Rattle.enf_run.specs.meaning.Sources.{FailsToRead, IsRefusedState, HoldsStart, IsBounds, IsStartOf, TellBytes}
use Rattle.enf_run.specs.meaning.Sources.{IsWholeLog, AreBytesUnder, AsksPolicy}
use Rattle.enf_run.specs.declared.intake.Verdict.TheVariants as verdicts

-- the words ask to enforce a policy, with these files for its states; a state that is resumed is within its bounds, and
-- the log is enforced from its clock on
pub record AsksToEnforce {Gate : Type 0} (call : Call Gate) (states : States) : Type 0 where
  pub entries : List NameEntry
  pub rules : List Rule
  pub asks : AsksPolicy AreBytesUnder (IsEnforceForm states) call entries rules
  pub bounds : Bounds
  pub are_bounds : IsBounds entries rules bounds
  pub state : List ℕ
  pub clock : ℕ
  pub holds_start : HoldsStart states.resumed call.before.files.contents asks.signature_bytes asks.policy_bytes bounds
      state clock

-- the run that the words ask for may start from there
abbrev pub MayStart : {Gate : Type 0} → {call : Call Gate} → (states : States) → AsksToEnforce call states
    → Start → Type 0
MayStart states a start =
    IsStartOf states.resumed a.entries a.rules a.asks.signature_bytes a.asks.policy_bytes a.state start

-- the property holds of the setting of the run, from wherever it may start
abbrev pub WhereItStarts : {Gate : Type 0} → {call : Call Gate} → (states : States) → AsksToEnforce call states
    → (LogSetting → Type 0) → Type 0
WhereItStarts states a P = (start : Start) → MayStart states a start → P (enforced_from a.entries a.rules start)

-- the words ask to enforce, and the log was taken until it ended as it was judged; from wherever the run starts, what
-- was given is what is owed in all to its accepted records, which are so many
pub record EnforcesLog {Gate : Type 0} (call : Call Gate) (report : Stream) (states : States) (judged : Judged)
    : Type 0 where
  pub asks : AsksToEnforce call states
  pub took : TookLog (input_log asks.entries asks.clock) judged (seen_of call.before.gate call.before.report)
      (seen_of call.after.gate report)
  pub ran : WhereItStarts states asks (λ s. RunsLogFor (IsOwedInAll s) s judged.verdict
      (seen_of call.before.gate call.before.report) (seen_of call.after.gate report))
  pub counts : (start : Start) → (starts : MayStart states asks start)
      → judged.accepted ≡ length (ran start starts).answers.read
  pub files : LeavesFiles call

-- the record of this number is refused, after the records that were enforced
pub record RefusesRecord {Gate : Type 0} (call : Call Gate) (report : Stream) (number : ℕ) (why : RecordRefusal)
    : Type 0 where
  pub states : States
  pub accepted : ℕ
  pub log : EnforcesLog call report states (record { accepted = accepted; verdict = verdicts.Refused why })
  pub number_is : number ≡ accepted + 1

-- the words ask to resume a state under an accepted policy, and its bytes, told so, are refused as one
pub record AsksRefusedState {Gate : Type 0} (Tells : Option (List ℕ → Contents) → List ℕ → List ℕ → Type 0)
    (call : Call Gate) (why : StateRefusal) : Type 0 where
  pub states : States
  pub file : List ℕ
  pub named : states.resumed ≡ Some file
  pub entries : List NameEntry
  pub rules : List Rule
  pub asks : AsksPolicy Tells (IsEnforceForm states) call entries rules
  pub bytes : List ℕ
  pub told : Tells call.before.files.contents file bytes
  pub bounds : Bounds
  pub are_bounds : IsBounds entries rules bounds
  pub refused : IsRefusedState why asks.signature_bytes asks.policy_bytes bounds bytes

-- the state is refused so, and nothing was touched
abbrev pub RefusesStateFile : {Gate : Type 0} → Call Gate → Stream → StateRefusal → Type 0
RefusesStateFile call report why = AsksRefusedState AreBytesUnder call why × LeavesAll call report

-- the words ask to resume a state after a signature and an accepted policy, the file of that state was not read, and
-- the gate and the report were not touched
pub record MissesState {Gate : Type 0} (call : Call Gate) (report : Stream) : Type 0 where
  pub states : States
  pub file : List ℕ
  pub named : states.resumed ≡ Some file
  pub entries : List NameEntry
  pub rules : List Rule
  pub asks : AsksPolicy AreBytesUnder (IsEnforceForm states) call entries rules
  pub failed : FailsToRead MOST_STATE_BYTES file call.before.files call.after.files
  pub gate : LeavesGate call
  pub silent : report ≡ call.before.report

-- a read of the log failed, after the records that were enforced
pub record BreaksOffLog {Gate : Type 0} (call : Call Gate) (report : Stream) : Type 0 where
  pub states : States
  pub accepted : ℕ
  pub log : EnforcesLog call report states (record { accepted = accepted; verdict = verdicts.Fault })

-- no state is to be saved: the whole log was taken, nothing is left after its accepted records, and what was given is
-- what is owed to them in all
pub record DrainsRun {Gate : Type 0} (call : Call Gate) (report : Stream) : Type 0 where
  pub states : States
  pub none_saved : states.saved ≡ None
  pub accepted : ℕ
  pub log : EnforcesLog call report states (record { accepted = accepted; verdict = verdicts.Accepted })

-- the state is to be saved to a file: the whole log was taken, nothing is left after its accepted records, and what
-- was given is what is owed to them so far
pub record PausesRun {Gate : Type 0} (call : Call Gate) (report : Stream) (file : List ℕ) : Type 0 where
  pub states : States
  pub saves : states.saved ≡ Some file
  pub asks : AsksToEnforce call states
  pub accepted : ℕ
  pub took : TookLog (input_log asks.entries asks.clock) (record { accepted = accepted; verdict = verdicts.Accepted })
      (seen_of call.before.gate call.before.report) (seen_of call.after.gate report)
  pub ran : WhereItStarts states asks (λ s. RunsLogFor (IsOwedSoFar s) s verdicts.Accepted
      (seen_of call.before.gate call.before.report) (seen_of call.after.gate report))

-- the start to which a run that was paused has come from its own start
abbrev pub comes_to : {Gate : Type 0} → {call : Call Gate} → {report : Stream} → {file : List ℕ}
    → (paused : PausesRun call report file) → (start : Start) → MayStart paused.states paused.asks start → Start
comes_to paused start starts = start_behind start (records_of (paused.ran start starts).answers.read)
    (out_steps (paused.ran start starts).answers.out)

-- a run was paused, and the state after what was given was written to the file, which ended so; a run can start from
-- that state where the number of its positions has 63 bits. Whatever was resumed, the bytes are the text of some
-- state
pub record WritesRun {Gate : Type 0} (call : Call Gate) (report : Stream) (ended : Result (Unit {0}) IoRefusal)
    : Type 0 where
  pub file : List ℕ
  pub paused : PausesRun call report file
  pub state : List ℕ
  pub kept : Snapshot
  pub text : state ≡ saved_text paused.asks.asks.signature_bytes paused.asks.asks.policy_bytes kept
  pub is_state : (start : Start) → (starts : MayStart paused.states paused.asks start)
      → IsStateText paused.asks.entries paused.asks.rules paused.asks.asks.signature_bytes paused.asks.asks.policy_bytes
      (comes_to paused start starts) state
  pub ready : (start : Start) → (starts : MayStart paused.states paused.asks start)
      → length (comes_to paused start starts).trace < 2 ^ 63 → IsReadyState paused.asks.entries paused.asks.rules
      paused.asks.asks.signature_bytes paused.asks.asks.policy_bytes (comes_to paused start starts) state
  pub written : WritesFile file state ended call.before.files call.after.files

-- the run of the log was cut so, after a front of the steps that it emits
pub record CutsLog {Gate : Type 0} (call : Call Gate) (report : Stream) (cut : Cut) : Type 0 where
  pub states : States
  pub asks : AsksToEnforce call states
  pub lost : LostLog (input_log asks.entries asks.clock) (seen_of call.before.gate call.before.report)
      (seen_of call.after.gate report) cut
  pub ran : WhereItStarts states asks (λ s. CutsRun s (seen_of call.before.gate call.before.report)
      (seen_of call.after.gate report) cut)
  pub files : LeavesFiles call

-- memory ran out after the log, as the state was to be saved
pub record RunsOutSaving {Gate : Type 0} (call : Call Gate) (report : Stream) : Type 0 where
  pub file : List ℕ
  pub paused : PausesRun call report file
  pub files : LeavesFiles call

-- files tell from which clock on a log is enforced: from 0; or, where a state is resumed, from that of the state, which
-- is within the bounds of a policy of the rules. It need not be the state of any trace
abbrev pub TellsClock : (resumed : Option (List ℕ)) → Option (List ℕ → Contents) → List NameEntry → List Rule
    → (signature policy : List ℕ) → (clock : ℕ) → Type 0
TellsClock None files entries rules signature policy clock = clock ≡ 0
TellsClock (Some name) files entries rules signature policy clock =
    (bytes : List ℕ) × (bounds : Bounds) × TellBytes files name bytes × IsBounds entries rules bounds
    × HoldsStart (Some name) files signature policy bounds bytes clock

-- the words ask to enforce, with these files for its states, under a signature that files tell and a policy that they
-- tell and that is accepted; and they tell from which clock on
pub record AsksToldEnforce {Gate : Type 0} (call : Call Gate) (entries : List NameEntry) (clock : ℕ) : Type 0 where
  pub states : States
  pub rules : List Rule
  pub asks : AsksPolicy TellBytes (IsEnforceForm states) call entries rules
  pub starts : TellsClock states.resumed call.before.files.contents entries rules asks.signature_bytes
      asks.policy_bytes clock

-- the words, the files and the input are such that the log can be enforced to its end
pub record IsEnforceable {Gate : Type 0} (call : Call Gate) : Type 0 where
  pub entries : List NameEntry
  pub clock : ℕ
  pub asks : AsksToldEnforce call entries clock
  pub whole : IsWholeLog (input_log entries clock) call.before.gate.told

-- the words ask to enforce a log, and this is how that is read
abbrev pub AsksToEnforceSo : {Gate : Type 0} → Call Gate → LogReading → Type 0
AsksToEnforceSo call r =
    (entries : List NameEntry) × (clock : ℕ) × AsksToldEnforce call entries clock × (r ≡ input_log entries clock)
