-- What one turn of the run of a log does, and what the drain at its end gives.
use Rattle.std.specs.Prelude.{ℕ, List, ◌≡◌, ◌^◌, ◌<◌, ◌≤◌, false, Option, None, Some, ◌⊎◌, ◌+◌, Bool, true}
use Rattle.enf_io.specs.meaning.Files.{one_more}
use Rattle.signature.specs.declared.entries.NameEntry.{NameEntry}
use Rattle.trace_meaning.specs.declared.kinds.StepKind.TheVariants.{Inserted}
use Rattle.trace_meaning.specs.meaning.Traces.{most_time, Record, time_of}
use Rattle.formula_reader.specs.meaning.Resolution.{Rule}
use Rattle.log_stream.specs.declared.items.LogItem.{LogItem}
use Rattle.log_stream.specs.declared.items.LogMode.TheVariants.{Input}
use Rattle.log_stream.specs.machine.LogReaders.{Reader}
use Rattle.log_stream.specs.meaning.LogGrammar.{BeginsWithRecord, IsPending, behind_blanks}
use Rattle.enforcer_core.specs.declared.steps.StepOut.{StepOut}
use Rattle.enforcer_core.specs.machine.EnforcerSteps.{EnforcerTakes, EnforcerDrains}
use Rattle.enforcer_core.specs.machine.Enforcers.{Enforcing}
use Rattle.enforcer_core.specs.machine.MadeSteps.{acted_steps}
use Rattle.enf_run.specs.declared.endings.Cut.{Cut}
use Rattle.enf_run.specs.declared.intake.Next.{Next}
use Rattle.enf_run.specs.declared.intake.Verdict.{Verdict}
use Rattle.enf_run.specs.declared.log_run.Enforcement.{Enforcement}
use Rattle.enf_run.specs.declared.refusals.RecordRefusal.{RecordRefusal}
use Rattle.enf_run.specs.machine.LineCuts.{GivesSteps, CutsSteps}
use Rattle.enf_run.specs.machine.LogIntake.{reads_in, IsNewIntake, RefusesNext, TurnTakesPiece, EndsTurn, LosesBytes}
use Rattle.enf_run.specs.meaning.LogRuns.{Seen}
use Rattle.enf_run.specs.meaning.Headline.{record_of}
use Rattle.enf_run.specs.declared.refusals.RecordRefusal.TheVariants as records
use Rattle.enf_run.specs.declared.endings.Cut.TheVariants as cuts
use Rattle.enf_run.specs.declared.intake.Next.TheVariants as nexts

-- the reader of a log that is enforced, which has refused nothing, with a rest
abbrev pub reads_on : List NameEntry → List ℕ → Reader
reads_on entries rest = reads_in entries Input rest

-- a log of which nothing was taken yet, under these entries, and an enforcer within the limits of saved states
pub record IsNewLog (entries : List NameEntry) (log : Enforcement) : Type 0 where
  pub intake : IsNewIntake entries Input log.intake
  pub going : log.enforcer.stopped ≡ false
  pub clock : log.enforcer.clock ≤ most_time Inserted
  pub position : log.enforcer.position < 2 ^ 63

-- an enforcer, and what is seen of the gate and the report, before a call or after it
pub record LogMoment : Type 0 where
  pub enforcer : Enforcing
  pub seen : Seen

abbrev pub log_moment : Enforcing → Seen → LogMoment
log_moment enforcer seen = record { enforcer = enforcer; seen = seen }

-- an enforcer, and what is seen of the gate and the report, with the reader of the log
pub record LogFront : Type 0 where
  pub reader : Reader
  pub now : LogMoment

abbrev pub log_front : Reader → Enforcing → Seen → LogFront
log_front reader enforcer seen = record { reader = reader; now = log_moment enforcer seen }

-- the record was taken, and the lines of what is emitted for it were given
pub record TakesItem (entries : List NameEntry) (rules : List Rule) (next : Record) (from to : LogMoment)
    : Type 0 where
  pub made : StepOut
  pub takes : EnforcerTakes from.enforcer next made to.enforcer
  pub given : GivesSteps entries rules (acted_steps made.steps) from.seen to.seen

pub record LeavesItem (next : Record) (why : RecordRefusal) (from to : LogMoment) : Type 0 where
  pub falls : why ≡ records.Falling (time_of next) from.enforcer.clock
  pub below : time_of next < from.enforcer.clock
  pub enforcer : to.enforcer ≡ from.enforcer
  pub seen : to.seen ≡ from.seen

abbrev pub AnswersItem : List NameEntry → List Rule → Record → Option RecordRefusal
    → LogMoment → LogMoment → Type 0
AnswersItem entries rules next None from to = TakesItem entries rules next from to
AnswersItem entries rules next (Some why) from to = LeavesItem next why from to

-- the record was taken, and its lines were not all given
pub record CutsAnswer (entries : List NameEntry) (rules : List Rule) (next : Record) (cut : Cut) (from : LogMoment)
    (seen : Seen) : Type 0 where
  pub made : StepOut
  pub after : Enforcing
  pub takes : EnforcerTakes from.enforcer next made after
  pub given : CutsSteps entries rules (acted_steps made.steps) cut from.seen seen

-- the answer to a record was cut; where memory ran out it may be that nothing was done
abbrev pub CutsItem : List NameEntry → List Rule → Record → LogMoment → Seen → Cut → Type 0
CutsItem entries rules next from seen cuts.WriteFault = CutsAnswer entries rules next cuts.WriteFault from seen
CutsItem entries rules next from seen cuts.NoMemory =
    (seen ≡ from.seen) ⊎ CutsAnswer entries rules next cuts.NoMemory from seen

-- a whole record was taken from the front of the rest and answered
pub record TakesNext (entries : List NameEntry) (rules : List Rule) (from to : LogFront) : Type 0 where
  pub item : LogItem
  pub begins : BeginsWithRecord entries Input from.reader.rest item to.reader.rest
  pub reader_is : to.reader ≡ reads_on entries to.reader.rest
  pub taken : TakesItem entries rules (record_of item) from.now to.now

-- no record is whole yet, and blanks are let go
pub record WaitsForMore (entries : List NameEntry) (from to : LogFront) : Type 0 where
  pub pending : IsPending from.reader.rest
  pub reader_is : to.reader ≡ reads_on entries (behind_blanks from.reader.rest)
  pub now : to.now ≡ from.now

abbrev pub AnswersNext : List NameEntry → List Rule → Next → LogFront → LogFront → Type 0
AnswersNext entries rules nexts.Taken from to = TakesNext entries rules from to
AnswersNext entries rules nexts.Pending from to = WaitsForMore entries from to
AnswersNext entries rules (nexts.Refused why) from to =
    RefusesNext entries Input from.reader.rest from.now.enforcer.clock why × (to.now ≡ from.now)

-- the answer of the record at the front was cut
pub record CutsTaken (entries : List NameEntry) (rules : List Rule) (rest : List ℕ) (cut : Cut) (from : LogMoment)
    (seen : Seen) : Type 0 where
  pub item : LogItem
  pub more : List ℕ
  pub begins : BeginsWithRecord entries Input rest item more
  pub answer : CutsAnswer entries rules (record_of item) cut from seen

abbrev pub CutsNext : List NameEntry → List Rule → List ℕ → LogMoment → Seen → Cut → Type 0
CutsNext entries rules rest from seen cuts.WriteFault = CutsTaken entries rules rest cuts.WriteFault from seen
CutsNext entries rules rest from seen cuts.NoMemory =
    (seen ≡ from.seen) ⊎ CutsTaken entries rules rest cuts.NoMemory from seen

-- a record was enforced
pub record EnforcesOne (entries : List NameEntry) (rules : List Rule) (log log' : Enforcement) (before after : Seen)
    : Type 0 where
  pub takes : TakesNext entries rules (log_front log.intake.reader log.enforcer before)
      (log_front log'.intake.reader log'.enforcer after)
  pub accepted : log'.intake.accepted ≡ log.intake.accepted + 1
  pub taken : log'.intake.taken ≡ log.intake.taken

-- no write was made, to the gate or to the report
pub record WritesNothing (before after : Seen) : Type 0 where
  pub gate : after.gate.write_faults ≡ before.gate.write_faults
  pub report : after.report ≡ before.report

-- a piece was taken, and the enforcer was left
pub record EnforcesLater (entries : List NameEntry) (log log' : Enforcement) (before after : Seen) : Type 0 where
  pub piece : TurnTakesPiece entries Input log.intake log'.intake before.gate after.gate
  pub enforcer : log'.enforcer ≡ log.enforcer
  pub nothing : WritesNothing before after

abbrev pub AnswersTurn : List NameEntry → List Rule → Option Verdict → Enforcement → Enforcement
    → Seen → Seen → Type 0
AnswersTurn entries rules None log log' before after =
    EnforcesOne entries rules log log' before after ⊎ EnforcesLater entries log log' before after
AnswersTurn entries rules (Some verdict) log log' before after =
    (log'.intake.accepted ≡ log.intake.accepted) × (log'.enforcer ≡ log.enforcer) × WritesNothing before after
    × EndsTurn entries Input log.enforcer.clock log.intake before.gate after.gate verdict

-- memory ran out and nothing was done, but that a piece may have been lost
pub record LosesTurn (log : Enforcement) (before after : Seen) : Type 0 where
  pub told : (after.gate.told ≡ before.gate.told) ⊎ LosesBytes log.intake before.gate.told after.gate.told
  pub reads : after.gate.read_faults ≡ before.gate.read_faults
  pub nothing : WritesNothing before after

-- what the gate held back was not handed on, since that failed, and nothing else was done
pub record HoldsTurn (before after : Seen) : Type 0 where
  pub told : after.gate.told ≡ before.gate.told
  pub held : 0 < after.gate.held
  pub writes : after.gate.write_faults ≡ one_more before.gate.write_faults
  pub reads : after.gate.read_faults ≡ before.gate.read_faults
  pub report : after.report ≡ before.report

-- the turn was cut: the lines for the record at the front were not all given, or nothing was done
abbrev pub CutsTurn : List NameEntry → List Rule → Enforcement → Seen → Seen → Cut → Type 0
CutsTurn entries rules log before after cuts.WriteFault = HoldsTurn before after
    ⊎ CutsTaken entries rules log.intake.reader.rest cuts.WriteFault (log_moment log.enforcer before) after
CutsTurn entries rules log before after cuts.NoMemory =
    LosesTurn log before after
    ⊎ CutsTaken entries rules log.intake.reader.rest cuts.NoMemory (log_moment log.enforcer before) after

-- what is still owed at the end of the log was given, all of it
pub record GivesDrain (entries : List NameEntry) (rules : List Rule) (from to : LogMoment) : Type 0 where
  pub made : StepOut
  pub drains : EnforcerDrains from.enforcer made to.enforcer
  pub given : GivesSteps entries rules (acted_steps made.steps) from.seen to.seen

-- what is still owed at the end of the log was given, or it is left and nothing was done
abbrev pub GivesRest : (left : Bool) → List NameEntry → List Rule → LogMoment → LogMoment → Type 0
GivesRest true entries rules from to = to ≡ from
GivesRest false entries rules from to = GivesDrain entries rules from to

-- the lines of what is still owed at the end of the log were not all given
pub record CutsDrainLines (entries : List NameEntry) (rules : List Rule) (cut : Cut) (from : LogMoment) (seen : Seen)
    : Type 0 where
  pub made : StepOut
  pub after : Enforcing
  pub drains : EnforcerDrains from.enforcer made after
  pub given : CutsSteps entries rules (acted_steps made.steps) cut from.seen seen

abbrev pub CutsDrain : List NameEntry → List Rule → LogMoment → Seen → Cut → Type 0
CutsDrain entries rules from seen cuts.WriteFault = CutsDrainLines entries rules cuts.WriteFault from seen
CutsDrain entries rules from seen cuts.NoMemory =
    (seen ≡ from.seen) ⊎ CutsDrainLines entries rules cuts.NoMemory from seen
