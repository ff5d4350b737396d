-- What a run has saved is not refused by a run that resumes it under the same signature and policy.
use Rattle.std.specs.Prelude.{◌≤◌, List, ℕ, ◌≡◌, length, Option, None, Some, ◌<◌, ◌^◌, Ok}
use Rattle.enf_io.specs.meaning.Exchange.{Stream}
use Rattle.enf_io.specs.meaning.Files.{Contents, FileBytes}
use Rattle.signature.specs.declared.entries.NameEntry.{NameEntry}
use Rattle.trace_meaning.specs.declared.kinds.StepKind.TheVariants.{System}
use Rattle.trace_meaning.specs.meaning.Traces.{Start, from_nothing, most_time}
use Rattle.formula_reader.specs.meaning.Resolution.{Rule}
use Rattle.enforce_types.specs.machine.VariableSorts.{TraceFits}
use Rattle.enf_run.specs.declared.files.TheConstants.{MOST_STATE_BYTES}
use Rattle.enf_run.specs.machine.TwoRunCalls.{GoesOnFromSaved}
use Rattle.enf_run.specs.meaning.Calls.{Call, IsEnforceForm}
use Rattle.enf_run.specs.meaning.EnforceOutcomes.{MayStart, PausesRun, comes_to, AsksToldEnforce, WritesRun}
use Rattle.enf_run.specs.meaning.Headline.{IsAskedRun, States}
use Rattle.enf_run.specs.meaning.Outcomes.{RunOutcome}
use Rattle.enf_run.specs.declared.refusals.Status.TheVariants as statuses

-- ---- from where a run starts

-- each event of the trace is of a name of the signature, with a value of its sort in each column, and the clock is a
-- time that a record can have
pub record IsFittingStart (entries : List NameEntry) (start : Start) : Type 0 where
  pub events : TraceFits entries start.trace
  pub in_time : start.clock ≤ most_time System

-- a run that starts from nothing starts where that fits the signature
abbrev pub FromNothingFits : Type 0
FromNothingFits = (entries : List NameEntry) → IsFittingStart entries from_nothing

-- a run that starts where that fits the signature comes to where it fits again
abbrev pub ComesToFitting : Type 0 → Type 0
ComesToFitting Gate = (call : Call Gate) (report : Stream) (file : List ℕ) (paused : PausesRun call report file)
    (start : Start) (starts : MayStart paused.states paused.asks start)
    → IsFittingStart paused.asks.entries start → IsFittingStart paused.asks.entries (comes_to paused start starts)

-- ---- a run that resumes

-- the file to resume has no more bytes than a state may have
abbrev pub IsShortState : (resumed : Option (List ℕ)) → (files : List ℕ → Contents) → Type 0
IsShortState None files = Unit {0}
IsShortState (Some file) files = (state : List ℕ) → files file ≡ FileBytes state
    → length state ≤ MOST_STATE_BYTES

-- the files that the words name are taken: they tell all that is wanted where a run is due, and none of them is refused
pub record AreFilesTaken {Gate : Type 0} (call : Call Gate) (entries : List NameEntry) (start : Start) : Type 0 where
  pub asks : AsksToldEnforce call entries start.clock
  pub not_refused : RunOutcome call statuses.Files → ⊥

-- the files that the words name are taken where files tell what the headline asks for, and the start fits
abbrev pub AskedIsTaken : Type 0 → Type 0
AskedIsTaken Gate = (call : Call Gate) (states : States) (start : Start) (entries : List NameEntry)
    (rules : List Rule) → (asked : IsAskedRun call.words call.before.files.contents states start entries rules)
    → IsFittingStart entries start → length start.trace < 2 ^ 63 → IsShortState states.resumed asked.files
    → AreFilesTaken call entries start

-- ---- two runs

-- a run has saved its state, and started where it fits; the number of positions to which it came has 63 bits, and the
-- state has no more bytes than a state may have
pub record SavesFitting {Gate : Type 0} {call : Call Gate} {report : Stream} (saved : WritesRun call report (Ok tt))
    : Type 0 where
  pub start : Start
  pub starts : MayStart saved.paused.states saved.paused.asks start
  pub fits : IsFittingStart saved.paused.asks.entries start
  pub few : length (comes_to saved.paused start starts).trace < 2 ^ 63
  pub short : length saved.state ≤ MOST_STATE_BYTES

-- the words of another call ask to enforce, and name files that hold that state, and the same signature and policy
pub record TakesUp {Gate : Type 0} {first : Call Gate} {report : Stream} (saved : WritesRun first report (Ok tt))
    (second : Call Gate) : Type 0 where
  pub states : States
  pub signature_file : List ℕ
  pub policy_file : List ℕ
  pub form : IsEnforceForm states second.words signature_file policy_file
  pub resumed : List ℕ
  pub named : states.resumed ≡ Some resumed
  pub files : List ℕ → Contents
  pub tell : second.before.files.contents ≡ Some files
  pub signature : files signature_file ≡ FileBytes saved.paused.asks.asks.signature_bytes
  pub policy : files policy_file ≡ FileBytes saved.paused.asks.asks.policy_bytes
  pub state : files resumed ≡ FileBytes saved.state

-- a call that takes up the state of a first one takes its files, from where the first has come to
abbrev pub SavedIsTaken : Type 0 → Type 0
SavedIsTaken Gate = (first second : Call Gate) (report : Stream) (saved : WritesRun first report (Ok tt))
    → (fitting : SavesFitting saved) → TakesUp saved second
    → AreFilesTaken second saved.paused.asks.entries (comes_to saved.paused fitting.start fitting.starts)

-- a run that goes on from a saved state and saves its own starts where that fits, so that a chain of runs can go on
abbrev pub FittingGoesOn : Type 0 → Type 0
FittingGoesOn Gate = (first second : Call Gate) (report report' : Stream) (saved : WritesRun first report (Ok tt))
    (fitting : SavesFitting saved) (next : WritesRun second report' (Ok tt))
    → GoesOnFromSaved saved next.paused.states next.paused.asks
    → (starts : MayStart next.paused.states next.paused.asks (comes_to saved.paused fitting.start fitting.starts))
    × IsFittingStart next.paused.asks.entries (comes_to saved.paused fitting.start fitting.starts)
