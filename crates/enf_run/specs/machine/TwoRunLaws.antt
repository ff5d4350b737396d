-- Two runs that take one log, the second from where the first was saved, give what one run gives.
use Rattle.std.specs.Prelude.{List, Bool, ◌++◌, ◌≡◌, ℕ, [], ◌≢◌, ◌⊎◌}
use Rattle.trace_meaning.specs.machine.Laws.{ClockJoins, ClockRises, FrontIsGood, GoodIsTrace, LastIsTheNew}
use Rattle.trace_meaning.specs.machine.Laws.{RecordsJoin, SatisfyingIsGood, TraceGrows, WithinJoins}
use Rattle.trace_meaning.specs.meaning.Traces.{start_behind, Record, NeverFall}
use Rattle.choice_step.specs.machine.Laws.{AreDistinct}
use Rattle.choice_step.specs.meaning.ActedSteps.{ActedStep, out_steps}
use Rattle.log_stream.specs.declared.items.LogMode.TheVariants.{Input}
use Rattle.log_stream.specs.meaning.LogGrammar.{behind_blanks}
use Rattle.enforce_types.specs.machine.PolicyLaws.{OnePlans}
use Rattle.enf_run.specs.declared.intake.Verdict.{Verdict}
use Rattle.enf_run.specs.machine.LogRunEnds.{IsOwedAtEnd, PausesLog, GivesSoFar}
use Rattle.enf_run.specs.meaning.LogRuns.{Seen, RunsLogFor}
use Rattle.enf_run.specs.meaning.Headline.{records_of}
use Rattle.enf_run.specs.meaning.Readings.{LogSetting, IsOwedSoFar, GivesOwed}
use Rattle.log_stream.specs.declared.items.LogRefusal.TheVariants as log
use Rattle.enf_run.specs.declared.intake.Verdict.TheVariants as verdicts
use Rattle.enf_run.specs.declared.refusals.RecordRefusal.TheVariants as refusals

-- the laws on which it rests that two runs give what one run gives
pub record TwoRunJoins : Type 0 where
  pub plans : OnePlans
  pub records : RecordsJoin
  pub clock : ClockJoins
  pub rises : ClockRises
  pub within : WithinJoins
  pub satisfying : SatisfyingIsGood
  pub front : FrontIsGood
  pub is_trace : GoodIsTrace
  pub grows : TraceGrows
  pub new : LastIsTheNew

-- ---- what is owed

-- how a log is enforced after these records and what was given for them
abbrev pub setting_behind : LogSetting → List Record → List ActedStep → LogSetting
setting_behind s records out = record {
  entries = s.entries;
  rules = s.rules;
  mode = s.mode;
  start = start_behind s.start records (out_steps out);
}

-- what is owed to records so far, and after that to more of them, so far or in all, is what is owed so to all of them
abbrev pub OwedJoins : Type 0
OwedJoins = (left : Bool) (s : LogSetting) (records more : List Record) (out others : List ActedStep)
    → NeverFall s.start.clock (records ++ more) → AreDistinct (records ++ more)
    → IsOwedSoFar s records out → IsOwedAtEnd left (setting_behind s records out) more others
    → IsOwedAtEnd left s (records ++ more) (out ++ others)

-- the steps that are owed to records are no others
abbrev pub OwedIsOne : Type 0
OwedIsOne = (left : Bool) (s : LogSetting) (records : List Record) (out others : List ActedStep)
    → IsOwedAtEnd left s records out → IsOwedAtEnd left s records others → out ≡ others

-- ---- logs

-- how a log is enforced after another log that was answered so
abbrev pub setting_after : (s : LogSetting) → {taken given rest : List ℕ} → GivesSoFar s taken given rest
    → LogSetting
setting_after s first = setting_behind s (records_of first.read) first.out

-- the records and what was emitted for them are those of both
pub record IsBothLogs {P Q R : List Record → List ActedStep → Type 0} {s t u : LogSetting}
    {taken given rest taken' given' rest' taken'' given'' rest'' : List ℕ}
    (first : GivesOwed P s taken given rest) (second : GivesOwed Q t taken' given' rest')
    (whole : GivesOwed R u taken'' given'' rest'') : Type 0 where
  pub read : whole.read ≡ first.read ++ second.read
  pub out : whole.out ≡ first.out ++ second.out

-- a log of which nothing is left, and more of it that is answered after that, are answered together by what was given
-- for both
abbrev pub GivesJoins : Type 0
GivesJoins = (left : Bool) (s : LogSetting) (taken given rest taken' given' rest' : List ℕ) → s.mode ≡ Input
    → (first : GivesSoFar s taken given rest) → behind_blanks rest ≡ []
    → (second : GivesOwed (IsOwedAtEnd left (setting_after s first)) (setting_after s first) taken' given' rest')
    → (whole : GivesOwed (IsOwedAtEnd left s) s (taken ++ taken') (given ++ given') rest')
    × IsBothLogs first second whole

-- ---- runs of logs

-- a record is refused that would be so whatever came after the bytes that were taken
abbrev pub RefusesForGood : Verdict → Type 0
RefusesForGood verdicts.Accepted = ⊥
RefusesForGood verdicts.Fault = ⊥
RefusesForGood (verdicts.Refused (refusals.Log why)) = why ≢ log.Truncated
RefusesForGood (verdicts.Refused (refusals.Falling given at)) = Unit {0}
RefusesForGood (verdicts.Refused refusals.InputLimit) = ⊥

-- a log has ended so that no more records of it are accepted, where this much of it was not taken
abbrev pub IsLogOver : Verdict → (more : List ℕ) → Type 0
IsLogOver verdict more = (more ≡ []) ⊎ RefusesForGood verdict

-- the log ended so by itself: no read failed, and more might have been taken
abbrev pub IsEndOfLog : Verdict → Type 0
IsEndOfLog verdicts.Accepted = Unit {0}
IsEndOfLog verdicts.Fault = ⊥
IsEndOfLog (verdicts.Refused (refusals.Log why)) = Unit {0}
IsEndOfLog (verdicts.Refused (refusals.Falling given at)) = Unit {0}
IsEndOfLog (verdicts.Refused refusals.InputLimit) = ⊥

-- a run that was saved at the end of its log, one begun after it, and one that takes the log of both: it gave what
-- both gave, for the records of both, and where the log ended by itself, it ended as the second
abbrev pub RunsAreOne : Type 0
RunsAreOne = (left : Bool) (s : LogSetting) (verdict other : Verdict) (a a' b b' c c' : Seen) → s.mode ≡ Input
    → (first : PausesLog s a a')
    → (second : RunsLogFor (IsOwedAtEnd left (setting_after s first.answers)) (setting_after s first.answers)
    verdict b b')
    → (whole : RunsLogFor (IsOwedAtEnd left s) s other c c')
    → (more more' : List ℕ) → IsLogOver verdict more → IsLogOver other more'
    → (first.taken ++ second.taken) ++ more ≡ whole.taken ++ more'
    → IsBothLogs first.answers second.answers whole.answers × (whole.given ≡ first.given ++ second.given)
    × (IsEndOfLog verdict → IsEndOfLog other → other ≡ verdict)
