-- What a run of the log takes from the gate, gives to it and says on the report, by how it ends.
use Rattle.std.specs.List.{flat_map}
use Rattle.std.specs.Prelude.{◌≡◌, ℕ, List, ◌-◌, ◌++◌, length, take, map, ◌≢◌, [], ◌∷◌, ◌⊎◌, ◌<◌}
use Rattle.enf_io.specs.meaning.Exchange.{Stream}
use Rattle.enf_io.specs.meaning.ExchangeGrowth.{Gave}
use Rattle.enf_io.specs.meaning.Files.{one_more}
use Rattle.signature.specs.declared.entries.NameEntry.{NameEntry}
use Rattle.signature.specs.meaning.Grammar.{entry_names as names_of}
use Rattle.trace_meaning.specs.meaning.Traces.{Good, Record, last_time}
use Rattle.formula_reader.specs.meaning.Resolution.{Rule}
use Rattle.choice_step.specs.meaning.ActedSteps.{ActedStep, out_step, out_steps}
use Rattle.choice_step.specs.meaning.Follows.{steps_of}
use Rattle.log_stream.specs.declared.items.LogItem.{LogItem}
use Rattle.log_stream.specs.meaning.LogGrammar.{line_of, text_of}
use Rattle.enf_run.specs.declared.endings.Cut.{Cut}
use Rattle.enf_run.specs.declared.intake.Judged.{Judged}
use Rattle.enf_run.specs.declared.intake.Verdict.{Verdict}
use Rattle.enf_run.specs.meaning.Headline.{action_lines, step_action_lines, records_of}
use Rattle.enf_run.specs.meaning.Readings.{Exchanged, IsReadBegun, LogSetting, reading_of, GivesOwed, UpToDate}
use Rattle.enf_run.specs.meaning.Readings.{IsOwedInAll, IsOwedSoFar, policy_of, TakenLog, taken_log, LogEndsAs}
use Rattle.enf_run.specs.meaning.Readings.{AcceptsRecords, LogReading, ReadsLogToEnd, ReadsLog}
use Rattle.enf_run.specs.meaning.Reports.{IsPart, none_more}
use Rattle.enf_run.specs.declared.endings.Cut.TheVariants as cuts

-- ---- The report of the actions.

-- a device gained this text, and no call of it failed
pub record Gains (text : List ℕ) (before after : Stream) : Type 0 where
  pub gave : Gave text before.told after.told
  pub writes : after.write_faults ≡ before.write_faults
  pub reads : after.read_faults ≡ before.read_faults

-- the report gained the lines of the actions of these steps
abbrev pub SaysActions : List NameEntry → List Rule → List ActedStep → Stream → Stream → Type 0
SaysActions entries rules steps before after = Gains (action_lines entries rules steps) before after

-- a front of the text of pieces, one after the other, in which all pieces but the last are whole, and what is missing
-- of that text
pub record IsFrontOfPieces (pieces : List (List ℕ)) (front missing : List ℕ) : Type 0 where
  pub split : flat_map (λ piece. piece) pieces ≡ front ++ missing
  pub of_last : List ℕ
  pub begins : front ≡ flat_map (λ piece. piece) (take (length pieces - 1) pieces) ++ of_last

-- the report gained a front of the lines of the actions of these steps, in which those of all steps but the last are
-- whole, and the count of its write faults is this one
pub record SaysActionsInPart (entries : List NameEntry) (rules : List Rule) (steps : List ActedStep) (faults : ℕ → ℕ)
    (before after : Stream) : Type 0 where
  pub front : List ℕ
  pub missing : List ℕ
  pub is_front : IsFrontOfPieces (map (step_action_lines entries rules) steps) front missing
  pub gave : Gave front before.told after.told
  pub writes : after.write_faults ≡ faults before.write_faults
  pub reads : after.read_faults ≡ before.read_faults

-- what is seen of the gate and of the report at one moment
pub record Seen : Type 0 where
  pub gate : Stream
  pub report : Stream

abbrev pub seen_of : (gate report : Stream) → Seen
seen_of gate report = record { gate = gate; report = report }

-- ---- The run of the log.

-- the log was taken until it ended so, what was given is what is owed to its accepted records, and the report gained
-- the lines of the actions of the steps that were given
pub record RunsLogFor (IsOwed : List Record → List ActedStep → Type 0) (s : LogSetting) (verdict : Verdict)
    (before after : Seen) : Type 0 where
  pub taken : List ℕ
  pub given : List ℕ
  pub exchanged : Exchanged (UpToDate s) taken given before.gate.told after.gate.told
  pub rest : List ℕ
  pub answers : GivesOwed IsOwed s taken given rest
  pub ends : LogEndsAs (taken_log (reading_of s) answers.read taken rest) before.gate after.gate verdict
  pub writes : after.gate.write_faults ≡ before.gate.write_faults
  pub actions : SaysActions s.entries s.rules answers.out before.report after.report

-- a part of the line of the next step, which is cut; nothing where no step is left
abbrev pub IsCutLine : List (List ℕ) → List ActedStep → List ℕ → Type 0
IsCutLine names [] front = front ≡ []
IsCutLine names (next ∷ behind) front = IsPart front (line_of names (out_step next))

-- the steps are owed to the accepted records so far, where no read failed; where the log has ended after these
-- records, the steps may be owed in all
abbrev pub IsOwedWhere : LogSetting → TakenLog → (before after : Stream) → List ActedStep → Type 0
IsOwedWhere s t before after out = (IsOwedSoFar s (records_of t.read) out × (after.read_faults ≡ before.read_faults))
    ⊎ ((IsOwedSoFar s (records_of t.read) out ⊎ IsOwedInAll s (records_of t.read) out)
    × ((verdict : Verdict) × LogEndsAs t before after verdict))

-- some of the log was taken; of the steps that are owed to its first accepted records the first were given, in
-- whole lines, and of the next one's line at most a part; those that were given whole can be continued well
pub record RunsShort (s : LogSetting) (before after : Stream) : Type 0 where
  pub taken : List ℕ
  pub given : List ℕ
  pub exchanged : Exchanged (UpToDate s) taken given before.told after.told
  pub read : List LogItem
  pub rest : List ℕ
  pub accepts : AcceptsRecords s.entries s.mode s.start.clock taken read rest
  pub out : List ActedStep
  pub owed : IsOwedWhere s (taken_log (reading_of s) read taken rest) before after out
  pub whole : List ActedStep
  pub behind : List ActedStep
  pub split : out ≡ whole ++ behind
  pub cut : List ℕ
  pub line : IsCutLine (names_of s.entries) behind cut
  pub lines : given ≡ text_of (names_of s.entries) (out_steps whole) ++ cut
  pub good : Good (policy_of s) (s.start.trace ++ steps_of whole) (last_time (s.start.trace ++ steps_of whole))

-- a write to the gate failed, after a read at least and with a line still to give; the report gained the lines of the
-- actions of all steps whose lines are whole on the gate
pub record FailsAtGate (s : LogSetting) (before after : Seen) : Type 0 where
  pub short : RunsShort s before.gate after.gate
  pub more : short.behind ≢ []
  pub begun : IsReadBegun before.gate.told after.gate.told
  pub writes : after.gate.write_faults ≡ one_more before.gate.write_faults
  pub actions : SaysActions s.entries s.rules short.whole before.report after.report

-- a write to the report failed, within the lines of the actions of the last step whose line is whole on the gate,
-- after which nothing was given, and which holds nothing back; something of these lines is missing
pub record FailsAtReport (s : LogSetting) (before after : Seen) : Type 0 where
  pub short : RunsShort s before.gate after.gate
  pub none : short.cut ≡ []
  pub handed : after.gate.held ≡ 0
  pub begun : IsReadBegun before.gate.told after.gate.told
  pub writes : after.gate.write_faults ≡ before.gate.write_faults
  pub actions : SaysActionsInPart s.entries s.rules short.whole one_more before.report after.report
  pub some : actions.missing ≢ []

-- the run stopped, with this count of write faults of the gate: of the lines of the actions of the last step whose line
-- is whole on the gate, some may be missing on the report, or one may be cut
pub record StopsShort (faults : ℕ → ℕ) (s : LogSetting) (before after : Seen) : Type 0 where
  pub short : RunsShort s before.gate after.gate
  pub writes : after.gate.write_faults ≡ faults before.gate.write_faults
  pub actions : SaysActionsInPart s.entries s.rules short.whole none_more before.report after.report

-- the run of the log was cut: by a write that failed, by a flush that did and left some held back, or by running out of
-- memory
abbrev pub CutsRun : LogSetting → Seen → Seen → Cut → Type 0
CutsRun s before after cuts.WriteFault = FailsAtGate s before after
    ⊎ (FailsAtReport s before after ⊎ (StopsShort one_more s before after × (0 < after.gate.held)))
CutsRun s before after cuts.NoMemory = StopsShort none_more s before after

-- ---- A log that was taken, whatever the enforcer stands for.

-- nothing is asked of what was taken and given
abbrev pub AnyExchange : (taken given : List ℕ) → Type 0
AnyExchange taken given = Unit {0}

-- the log was taken until it ended as it was judged, after so many accepted records; no write failed, and the report
-- gained a text
pub record TookLog (r : LogReading) (judged : Judged) (before after : Seen) : Type 0 where
  pub whole : ReadsLogToEnd AnyExchange r judged.verdict before.gate after.gate
  pub count : judged.accepted ≡ length whole.log.read
  pub writes : after.gate.write_faults ≡ before.gate.write_faults
  pub said : List ℕ
  pub report : Gains said before.report after.report

-- a cut by a fault leaves one write more that failed, to the gate or to the report; one by running out of memory
-- leaves none
abbrev pub HasWriteFault : Cut → (before after : Seen) → Type 0
HasWriteFault cuts.WriteFault before after = ((after.gate.write_faults ≡ one_more before.gate.write_faults)
    × (after.report.write_faults ≡ before.report.write_faults)) ⊎ ((after.gate.write_faults ≡ before.gate.write_faults)
    × (after.report.write_faults ≡ one_more before.report.write_faults))
HasWriteFault cuts.NoMemory before after =
    (after.gate.write_faults ≡ before.gate.write_faults) × (after.report.write_faults ≡ before.report.write_faults)

-- some of the log was taken, and the run of it was cut so
pub record LostLog (r : LogReading) (before after : Seen) (cut : Cut) : Type 0 where
  pub log : ReadsLog AnyExchange r before.gate after.gate
  pub fault : HasWriteFault cut before after
