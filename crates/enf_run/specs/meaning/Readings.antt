-- How a log is read, which of its records are accepted and how it ends after them, and which steps are owed to these.
use Rattle.enf_data.specs.meaning.Data.{IsTrace}
use Rattle.std.specs.Prelude.{ℕ, ◌+◌, List, [], ◌∷◌, ◌++◌, map, ◌≤◌, ◌<◌, ◌≡◌, length, Option, ◌⊎◌}
use Rattle.enf_io.specs.meaning.Exchange.{Exchange, AtEachMark, taken_bytes, OfCalls, Stream}
use Rattle.enf_io.specs.meaning.ExchangeGrowth.{GrewWhereTold}
use Rattle.enf_io.specs.meaning.Files.{one_more}
use Rattle.enf_formula.specs.meaning.Satisfaction.{Formula}
use Rattle.signature.specs.declared.entries.NameEntry.{NameEntry}
use Rattle.signature.specs.meaning.Grammar.{entry_names as names_of}
use Rattle.trace_meaning.specs.meaning.Traces.{NeverFall, time_of, clock_after, Lawful, Satisfies, Start, Record}
use Rattle.trace_meaning.specs.meaning.Traces.{recorded, trace_of}
use Rattle.formula_reader.specs.meaning.Resolution.{Rule}
use Rattle.choice_step.specs.meaning.ActedSteps.{ActedStep, out_steps, untouched}
use Rattle.log_stream.specs.declared.items.LogItem.{LogItem}
use Rattle.log_stream.specs.declared.items.LogMode.{LogMode}
use Rattle.log_stream.specs.declared.items.LogMode.TheVariants.{Input}
use Rattle.log_stream.specs.meaning.LogGrammar.{SpellsRecords, BeginsWithRecord, IsPending, IsTruncated, RefusesFront}
use Rattle.log_stream.specs.meaning.LogGrammar.{behind_blanks, text_of}
use Rattle.enforce_types.specs.meaning.Elab.{is_causable, is_suppressible}
use Rattle.enforcer_core.specs.meaning.FollowsPolicy.{FollowsPolicy, FollowsToEnd}
use Rattle.enforcer_core.specs.meaning.JustifiedByPolicy.{IsJustifiedByPolicy}
use Rattle.enf_run.specs.declared.intake.Verdict.{Verdict}
use Rattle.enf_run.specs.declared.refusals.RecordRefusal.{RecordRefusal}
use Rattle.enf_run.specs.meaning.Headline.{most_log_bytes, records_of, record_of, IsTakenToEnd, all_formulas}
use Rattle.enf_run.specs.meaning.Headline.{IsGoodSoFar, IsTransparentPolicy}
use Rattle.log_stream.specs.declared.items.LogRefusal.TheVariants as log
use Rattle.enf_run.specs.declared.refusals.RecordRefusal.TheVariants as records
use Rattle.enf_run.specs.declared.intake.Verdict.TheVariants as verdicts

-- ---- What is taken from the gate and given to it, read by read.

-- how many bytes were taken when each read began, and at last
abbrev pub taken_counts : Exchange → List ℕ
taken_counts x = map (λ mark. mark.0) x.marks ++ x.taken ∷ []

-- the greatest number of bytes that one read takes
abbrev pub most_read_bytes : ℕ
most_read_bytes = 65536

-- P holds of each of these numbers and the next one
abbrev pub AtEachNext : (ℕ → ℕ → Type 0) → List ℕ → Type 0
AtEachNext P [] = Unit {0}
AtEachNext P (from ∷ []) = Unit {0}
AtEachNext P (from ∷ to ∷ others) = P from to × AtEachNext P (to ∷ others)

-- these bytes were taken, piece by piece, and these were given; at each read P held of the bytes that were taken and
-- given until then, and each read but the last took something
pub record IsExchange (P : List ℕ → List ℕ → Type 0) (taken given : List ℕ) (x : Exchange) : Type 0 where
  pub took : taken_bytes x ≡ taken
  pub gave : x.given ≡ given
  pub marks : AtEachMark P x
  pub pieces : AtEachNext (λ from to. to ≤ from + most_read_bytes) (taken_counts x)
  pub rising : AtEachNext (λ from to. from < to) (map (λ mark. mark.0) x.marks)

-- the calls of a run took and gave these bytes, where the gate tells, and at each read P held of them; no more was
-- taken than may be taken of a log
pub record Exchanged (P : List ℕ → List ℕ → Type 0) (taken given : List ℕ)
    (before after : Option Exchange) : Type 0 where
  pub limit : length taken ≤ most_log_bytes
  pub grew : GrewWhereTold before after
  pub calls : OfCalls (IsExchange P taken given) before after

-- a read was begun, where the gate tells
abbrev pub IsReadBegun : Option Exchange → Option Exchange → Type 0
IsReadBegun before after = OfCalls (λ x. 0 < length x.marks) before after

-- ---- The records that are accepted, and the end of the log.

-- whole records whose times never fall from a clock on are accepted, in order, and a rest is left
pub record AcceptsRecords (entries : List NameEntry) (mode : LogMode) (clock : ℕ) (bytes : List ℕ)
    (read : List LogItem) (rest : List ℕ) : Type 0 where
  pub spelled : SpellsRecords entries mode bytes read rest
  pub rising : NeverFall clock (records_of read)

-- a record stands at the front of the rest, and its time is below the clock
pub record IsFallingRecord (entries : List NameEntry) (mode : LogMode) (clock : ℕ) (rest : List ℕ)
    (given : ℕ) : Type 0 where
  pub item : LogItem
  pub more : List ℕ
  pub begins : BeginsWithRecord entries mode rest item more
  pub time : given ≡ time_of (record_of item)
  pub below : time_of (record_of item) < clock

-- how a log is read: under which names, as what, and from which clock on
pub record LogReading : Type 0 where
  pub entries : List NameEntry
  pub mode : LogMode
  pub clock : ℕ

-- how a log that is enforced is read
abbrev pub input_log : List NameEntry → (clock : ℕ) → LogReading
input_log entries clock = record { entries = entries; mode = Input; clock = clock }

-- what was taken of a log: how it is read, the records that were accepted of it, how many bytes in all, and the rest of
-- them after these records
pub record TakenLog : Type 0 where
  pub reading : LogReading
  pub read : List LogItem
  pub count : ℕ
  pub rest : List ℕ

abbrev pub taken_log : LogReading → List LogItem → (taken rest : List ℕ) → TakenLog
taken_log r read taken rest = record { reading = r; read = read; count = length taken; rest = rest }

-- the clock after the accepted records
abbrev pub clock_behind : TakenLog → ℕ
clock_behind t = clock_after t.reading.clock (records_of t.read)

-- why the rest after the accepted records is refused: its record is refused by the reader of logs, or is not ended
-- where the input ends, or has a time below the clock, or no more bytes may be taken
abbrev pub IsRestRefusedAs : TakenLog → Stream → RecordRefusal → Type 0
IsRestRefusedAs t after (records.Log why) = RefusesFront t.reading.entries t.reading.mode t.rest why
    ⊎ ((why ≡ log.Truncated) × IsTruncated t.rest × IsTakenToEnd t.count after)
IsRestRefusedAs t after (records.Falling given at) =
    (at ≡ clock_behind t) × IsFallingRecord t.reading.entries t.reading.mode (clock_behind t) t.rest given
IsRestRefusedAs t after records.InputLimit = IsPending t.rest × (t.count ≡ most_log_bytes)

-- how the log ends after the accepted records: nothing is left of it, a read failed, or a record is refused
abbrev pub LogEndsAs : TakenLog → (before after : Stream) → Verdict → Type 0
LogEndsAs t before after verdicts.Accepted =
    (behind_blanks t.rest ≡ []) × IsTakenToEnd t.count after × (after.read_faults ≡ before.read_faults)
LogEndsAs t before after verdicts.Fault = IsPending t.rest × (after.read_faults ≡ one_more before.read_faults)
LogEndsAs t before after (verdicts.Refused why) = IsRestRefusedAs t after why × (after.read_faults ≡ before.read_faults)

-- these bytes of a log were taken, which are accepted records and a rest, and these bytes were given; at each read P
-- held of the bytes that were taken and given by then
pub record ReadsLog (P : List ℕ → List ℕ → Type 0) (r : LogReading) (before after : Stream) : Type 0 where
  pub taken : List ℕ
  pub given : List ℕ
  pub exchanged : Exchanged P taken given before.told after.told
  pub read : List LogItem
  pub rest : List ℕ
  pub accepts : AcceptsRecords r.entries r.mode r.clock taken read rest

-- bytes of a log were taken, which are accepted records and a rest, and after these records the log ended so
pub record ReadsLogToEnd (P : List ℕ → List ℕ → Type 0) (r : LogReading) (verdict : Verdict) (before after : Stream)
    : Type 0 where
  pub log : ReadsLog P r before after
  pub ends : LogEndsAs (taken_log r log.read log.taken log.rest) before after verdict

-- ---- The steps that are owed to records.

-- a log that is enforced: the names and rules under which it is enforced, as what it is read, and from where
pub record LogSetting : Type 0 where
  pub entries : List NameEntry
  pub rules : List Rule
  pub mode : LogMode
  pub start : Start

-- the records of the bytes taken, up to a rest, are accepted, and the bytes given are the text of what is owed to them
pub record GivesOwed (IsOwed : List Record → List ActedStep → Type 0) (s : LogSetting)
    (taken given rest : List ℕ) : Type 0 where
  pub read : List LogItem
  pub accepts : AcceptsRecords s.entries s.mode s.start.clock taken read rest
  pub out : List ActedStep
  pub text : given ≡ text_of (names_of s.entries) (out_steps out)
  pub owed : IsOwed (records_of read) out

-- the policy under which a log is enforced
abbrev pub policy_of : LogSetting → List Formula
policy_of s = all_formulas s.rules

-- these steps are owed to the records so far: they are a lawful change of them, with inserted steps below the clock,
-- that can be continued well, each change is justified, and the policy decides these and no others; under the mark the
-- steps of the records are emitted alone, as they came, where they can be continued well
pub record IsOwedSoFar (s : LogSetting) (records : List Record) (out : List ActedStep) : Type 0 where
  pub lawful : Lawful (is_causable s.entries) (is_suppressible s.entries) records (out_steps out)
  pub so_far : IsGoodSoFar s.entries s.rules s.start records out
  pub justified : IsJustifiedByPolicy s.entries (policy_of s) s.start.trace records out
  pub decided : FollowsPolicy s.entries (policy_of s) s.start.trace records out
  pub only : (others : List ActedStep) → FollowsPolicy s.entries (policy_of s) s.start.trace records others
      → others ≡ out

-- all whole records of the bytes taken are answered so far, and none after them is refused
pub record UpToDate (s : LogSetting) (taken given : List ℕ) : Type 0 where
  pub rest : List ℕ
  pub answers : GivesOwed (IsOwedSoFar s) s taken given rest
  pub pending : IsPending rest

-- how a log that is enforced is read
abbrev pub reading_of : LogSetting → LogReading
reading_of s = record { entries = s.entries; mode = s.mode; clock = s.start.clock }

-- how a log is enforced from a start
abbrev pub enforced_from : List NameEntry → List Rule → Start → LogSetting
enforced_from entries rules start = record { entries = entries; rules = rules; mode = Input; start = start }

-- these steps are owed to the records in all, once the log has ended: with those that serve what is pending they
-- satisfy the policy, each change is justified, and the policy decides these and no others; under the mark the steps
-- of the records are emitted alone, as they came, where they satisfy the policy
pub record IsOwedInAll (s : LogSetting) (records : List Record) (out : List ActedStep) : Type 0 where
  pub lawful : Lawful (is_causable s.entries) (is_suppressible s.entries) records (out_steps out)
  pub is_trace : IsTrace (s.start.trace ++ trace_of (out_steps out))
  pub satisfied : Satisfies (s.start.trace ++ trace_of (out_steps out)) (policy_of s)
  pub justified : IsJustifiedByPolicy s.entries (policy_of s) s.start.trace records out
  pub decided : FollowsToEnd s.entries (policy_of s) s.start.trace records out
  pub only : (others : List ActedStep) → FollowsToEnd s.entries (policy_of s) s.start.trace records others
      → others ≡ out
  pub alone : IsTransparentPolicy s.entries (policy_of s) → Satisfies (s.start.trace ++ recorded records) (policy_of s)
      → out ≡ untouched (recorded records)
