-- How the run of a log by an enforcer ends, and how its state is saved.
use Rattle.enf_data.specs.declared.steps.Step.{Step}
use Rattle.std.specs.Prelude.{Bool, false, true, List, ◌≡◌, ◌+◌, ◌++◌, length, ℕ, Result, Ok, Err, Option, None, Some}
use Rattle.std.specs.Prelude.{is_some, ◌⊎◌}
use Rattle.enf_io.specs.declared.devices.IoRefusal.{IoRefusal}
use Rattle.enf_io.specs.declared.devices.IoRefusal.TheVariants.{Failed}
use Rattle.enf_io.specs.meaning.FileCalls.{WritesFile}
use Rattle.enf_io.specs.meaning.Files.{FileView}
use Rattle.signature.specs.declared.entries.NameEntry.{NameEntry}
use Rattle.trace_meaning.specs.meaning.Traces.{Record, clock_after}
use Rattle.formula_reader.specs.meaning.Resolution.{Rule}
use Rattle.choice_step.specs.meaning.ActedSteps.{ActedStep}
use Rattle.choice_step.specs.meaning.Follows.{steps_of}
use Rattle.log_stream.specs.declared.items.LogItem.{LogItem}
use Rattle.log_stream.specs.declared.items.LogMode.TheVariants.{Input}
use Rattle.save_codec.specs.declared.snapshots.Snapshot.{Snapshot}
use Rattle.save_codec.specs.machine.StoredStates.{HasSmallNumbers}
use Rattle.save_codec.specs.meaning.SavedTexts.{IsTextOfLines, lines_of, saved_text}
use Rattle.enforce_types.specs.machine.TypedPolicies.{typed_of, WorkTogether}
use Rattle.enforce_types.specs.meaning.Elab.{ArePlanned}
use Rattle.enforcer_core.specs.machine.Enforcers.{Enforcing, start_of}
use Rattle.enforcer_core.specs.machine.Snapshots.{SavesTrace}
use Rattle.enforcer_core.specs.machine.Stands.{Stands}
use Rattle.enf_run.specs.declared.endings.Cut.{Cut}
use Rattle.enf_run.specs.declared.endings.Ending.{Ending}
use Rattle.enf_run.specs.declared.intake.Judged.{Judged}
use Rattle.enf_run.specs.declared.intake.Verdict.{Verdict}
use Rattle.enf_run.specs.declared.refusals.Refusal.{Refusal}
use Rattle.enf_run.specs.meaning.Headline.{all_formulas, records_of}
use Rattle.enf_run.specs.meaning.LogRuns.{Seen, RunsLogFor, TookLog, CutsRun, LostLog}
use Rattle.enf_run.specs.meaning.Readings.{GivesOwed, IsOwedInAll, IsOwedSoFar, LogSetting, reading_of, TakenLog}
use Rattle.enf_run.specs.meaning.Readings.{input_log, taken_log}
use Rattle.enf_run.specs.declared.intake.Verdict.TheVariants as verdicts
use Rattle.enf_run.specs.declared.refusals.Refusal.TheVariants as refusals
use Rattle.enf_run.specs.declared.endings.Cut.TheVariants as cuts
use Rattle.enf_run.specs.declared.endings.Ending.TheVariants as endings

-- what was taken of a log that is enforced in a setting
abbrev pub taken_log_of : LogSetting → List LogItem → (taken rest : List ℕ) → TakenLog
taken_log_of s read taken rest = taken_log (reading_of s) read taken rest

-- the bytes given are the text of what is owed so far to the records of the bytes taken, up to a rest
abbrev pub GivesSoFar : LogSetting → List ℕ → List ℕ → List ℕ → Type 0
GivesSoFar s taken given rest = GivesOwed (IsOwedSoFar s) s taken given rest

-- the log was taken until it ended so, and what is owed to its accepted records in all was given
abbrev pub RunsLog : LogSetting → Verdict → (before after : Seen) → Type 0
RunsLog s verdict before after = RunsLogFor (IsOwedInAll s) s verdict before after

-- the log was accepted to its end, and what is owed to its records so far was given
abbrev pub PausesLog : LogSetting → (before after : Seen) → Type 0
PausesLog s before after = RunsLogFor (IsOwedSoFar s) s verdicts.Accepted before after

-- where the state is to be saved at the end of a log, what is still owed then is left to the run that resumes
abbrev pub rest_left : (saves : Bool) → Verdict → Bool
rest_left saves verdicts.Accepted = saves
rest_left saves verdicts.Fault = false
rest_left saves (verdicts.Refused why) = false

abbrev pub IsOwedAtEnd : (left : Bool) → LogSetting → List Record → List ActedStep → Type 0
IsOwedAtEnd true s records out = IsOwedSoFar s records out
IsOwedAtEnd false s records out = IsOwedInAll s records out

-- the plans of an enforcer are those of the rules, with their guards
abbrev pub HasPlans : List NameEntry → List Rule → Enforcing → Type 0
HasPlans entries rules enforcer =
    ArePlanned entries (all_formulas rules) (typed_of enforcer.policy).plans (typed_of enforcer.policy).guards

-- an enforcer of the rules stands after what was given for the records, at their clock
pub record EnforcerStandsBehind (s : LogSetting) (records : List Record) (out : List ActedStep) (enforcer : Enforcing)
    : Type 0 where
  pub planned : HasPlans s.entries s.rules enforcer
  pub together : WorkTogether (typed_of enforcer.policy)
  pub clock : enforcer.clock ≡ clock_after s.start.clock records
  pub stands : Stands enforcer (s.start.trace ++ steps_of out)

abbrev pub EnforcerStandsWhereLeft : (left : Bool) → LogSetting → List Record → List ActedStep → Enforcing
    → Type 0
EnforcerStandsWhereLeft true s records out enforcer = EnforcerStandsBehind s records out enforcer
EnforcerStandsWhereLeft false s records out enforcer = Unit {0}

-- the run of the log ended so, after so many accepted records, and left the enforcer so
pub record RanSo (left : Bool) (s : LogSetting) (judged : Judged) (enforcer : Enforcing) (before after : Seen)
    : Type 0 where
  pub ran : RunsLogFor (IsOwedAtEnd left s) s judged.verdict before after
  pub count : judged.accepted ≡ length ran.answers.read
  pub behind : EnforcerStandsWhereLeft left s (records_of ran.answers.read) ran.answers.out enforcer

-- the run of the log ended as it was judged
abbrev pub RanAsJudged : (saves : Bool) → LogSetting → Judged → Enforcing → (before after : Seen) → Type 0
RanAsJudged saves s judged enforcer before after = RanSo (rest_left saves judged.verdict) s judged enforcer before after

-- what the judgement of the log makes of a run; the number is that of the record after the accepted ones
abbrev pub conclusion_of : ℕ → Verdict → Result (Unit {0}) Refusal
conclusion_of accepted verdicts.Accepted = Ok tt
conclusion_of accepted verdicts.Fault = Err refusals.ReadFault
conclusion_of accepted (verdicts.Refused why) = Err (refusals.Record (accepted + 1) why)

-- from where an enforcer stands for a trace
abbrev pub enforcer_setting : List NameEntry → List Rule → Enforcing → List Step → LogSetting
enforcer_setting entries rules enforcer trace =
    record { entries = entries; rules = rules; mode = Input; start = start_of enforcer trace }

-- the text of what is kept of the enforcer, under the bytes of a signature and of a policy, was written to the file,
-- and the write ended so; it has the form of such texts where its numbers are small enough for that
pub record WritesState (enforcer : Enforcing) (signature policy file : List ℕ) (ended : Result (Unit {0}) IoRefusal)
    (before after : FileView) : Type 0 where
  pub kept : Snapshot
  pub saves : SavesTrace enforcer kept
  pub form : HasSmallNumbers kept → IsTextOfLines (saved_text signature policy kept) signature policy (lines_of kept)
  pub written : WritesFile file (saved_text signature policy kept) ended before after

-- how a save ends: with the text under the file's name, with a fault of that write, or with nothing done
abbrev pub SavesState : Enforcing → (signature policy file : List ℕ) → FileView → FileView
    → Result (Unit {0}) Cut
    → Type 0
SavesState enforcer signature policy file before after (Ok done) =
    WritesState enforcer signature policy file (Ok tt) before after
SavesState enforcer signature policy file before after (Err cuts.WriteFault) =
    WritesState enforcer signature policy file (Err Failed) before after
SavesState enforcer signature policy file before after (Err cuts.NoMemory) = after ≡ before

-- the state is saved where a file is named for it, and else nothing is
abbrev pub SavesWhereAsked : (saved : Option (List ℕ)) → Enforcing
    → (signature policy : List ℕ) → FileView → FileView
    → Result (Unit {0}) Cut → Type 0
SavesWhereAsked None enforcer signature policy before after result = (result ≡ Ok tt) × (after ≡ before)
SavesWhereAsked (Some file) enforcer signature policy before after result =
    SavesState enforcer signature policy file before after result

-- the property holds in the setting of each trace for which the enforcer stood, where it has the plans of the rules
abbrev pub WhereStood : List NameEntry → List Rule → Enforcing → (LogSetting → Type 0) → Type 0
WhereStood entries rules first P =
    (trace : List Step) → HasPlans entries rules first → Stands first trace
    → P (enforcer_setting entries rules first trace)

-- the log was accepted to its end and what is owed then was given, and the save that was asked for ended so
pub record RunsWhole (saved : Option (List ℕ)) (signature policy : List ℕ) (entries : List NameEntry)
    (rules : List Rule) (first : Enforcing) (files files' : FileView) (before after : Seen)
    (ended : Result (Unit {0}) Cut) : Type 0 where
  pub accepted : ℕ
  pub enforcer : Enforcing
  pub took : TookLog (input_log entries first.clock) (record { accepted = accepted; verdict = verdicts.Accepted })
      before after
  pub ran : WhereStood entries rules first (λ s. RanSo (is_some saved) s
      (record { accepted = accepted; verdict = verdicts.Accepted }) enforcer before after)
  pub saves : SavesWhereAsked saved enforcer signature policy files files' ended

-- the judgement of the log is this refusal, and the files are as they were
pub record RunsRefused (saved : Option (List ℕ)) (entries : List NameEntry) (rules : List Rule) (first : Enforcing)
    (why : Refusal) (files files' : FileView) (before after : Seen) : Type 0 where
  pub judged : Judged
  pub enforcer : Enforcing
  pub took : TookLog (input_log entries first.clock) judged before after
  pub ran : WhereStood entries rules first (λ s. RanAsJudged (is_some saved) s judged enforcer before after)
  pub concluded : Err why ≡ conclusion_of judged.accepted judged.verdict
  pub same : files' ≡ files

-- the run of the log was cut, and the files are as they were
pub record RunsCut (entries : List NameEntry) (rules : List Rule) (first : Enforcing) (cut : Cut)
    (files files' : FileView) (before after : Seen) : Type 0 where
  pub lost : LostLog (input_log entries first.clock) before after cut
  pub ran : WhereStood entries rules first (λ s. CutsRun s before after cut)
  pub same : files' ≡ files

-- how the run of a log ends, whether its state is to be saved or not
abbrev pub RunsLogSo : (saved : Option (List ℕ)) → (signature policy : List ℕ) → List NameEntry
    → List Rule → Enforcing
    → (files files' : FileView) → (before after : Seen) → Result (Unit {0}) Ending → Type 0
RunsLogSo saved signature policy entries rules first files files' before after (Ok done) =
    RunsWhole saved signature policy entries rules first files files' before after (Ok tt)
RunsLogSo saved signature policy entries rules first files files' before after (Err (endings.Refused why)) =
    RunsRefused saved entries rules first why files files' before after
RunsLogSo saved signature policy entries rules first files files' before after (Err (endings.Cut cut)) =
    RunsCut entries rules first cut files files' before after
    ⊎ RunsWhole saved signature policy entries rules first files files' before after (Err cut)
