-- Two calls of `run` that take one log, and a call that takes all of it.
use Rattle.std.specs.Prelude.{◌≡◌, Option, Some, ℕ, List, ◌≢◌, ◌+◌, ◌<◌, ◌++◌, length}
use Rattle.std.specs.Prelude.{◌⊎◌, Ok, ◌^◌}
use Rattle.enf_io.specs.meaning.Exchange.{Exchange, exchange_since, Stream, taken_bytes}
use Rattle.enf_io.specs.meaning.Files.{Contents, FileBytes}
use Rattle.trace_meaning.specs.meaning.Traces.{Start}
use Rattle.enf_run.specs.declared.intake.Judged.{Judged}
use Rattle.enf_run.specs.declared.intake.Verdict.{Verdict}
use Rattle.enf_run.specs.meaning.Calls.{Call}
use Rattle.enf_run.specs.meaning.EnforceOutcomes.{AsksToEnforce, WritesRun, MayStart, comes_to, EnforcesLog, PausesRun}
use Rattle.enf_run.specs.meaning.Headline.{States, most_log_bytes}
use Rattle.enf_run.specs.declared.intake.Verdict.TheVariants as verdicts

-- ---- calls of `run`

-- a device tells before and after
pub record TellsCalls (before after : Option Exchange) : Type 0 where
  pub first : Exchange
  pub last : Exchange
  pub was : before ≡ Some first
  pub now : after ≡ Some last

-- what a device tells of the calls between two moments
abbrev pub calls_of : {before after : Option Exchange} → TellsCalls before after → Exchange
calls_of told = exchange_since told.first told.last

-- the gate and the report of a call tell, up to some view of the report
pub record TellsCall {Gate : Type 0} (call : Call Gate) (said : Stream) : Type 0 where
  pub gate : TellsCalls call.before.gate.told call.after.gate.told
  pub report : TellsCalls call.before.report.told said.told

-- the whole input of a call, what it took of it, what it gave and what it said
abbrev pub input_of : {Gate : Type 0} → {call : Call Gate} → {said : Stream} → TellsCall call said
    → List ℕ
input_of told = (calls_of told.gate).input

abbrev pub taken_of_call : {Gate : Type 0} → {call : Call Gate} → {said : Stream} → TellsCall call said
    → List ℕ
taken_of_call told = taken_bytes (calls_of told.gate)

abbrev pub given_of : {Gate : Type 0} → {call : Call Gate} → {said : Stream} → TellsCall call said
    → List ℕ
given_of told = (calls_of told.gate).given

abbrev pub said_of : {Gate : Type 0} → {call : Call Gate} → {said : Stream} → TellsCall call said
    → List ℕ
said_of told = (calls_of told.report).given

-- the third call has the logs of the first two as its input, one after the other, fewer bytes than may be taken of a
-- log, and no read of a log failed
abbrev pub TakesLogs : {Gate : Type 0} → {first second whole : Call Gate} → {said said' said'' : Stream}
    → TellsCall first said → TellsCall second said' → TellsCall whole said'' → (verdict other : Verdict)
    → Type 0
TakesLogs first second whole verdict other =
    (input_of whole ≡ input_of first ++ input_of second) × (length (input_of whole) < most_log_bytes)
    × (verdict ≢ verdicts.Fault) × (other ≢ verdicts.Fault)

-- the third call has the logs of the first two as its input and took just what they took of them
abbrev pub TakesBoth : {Gate : Type 0} → {first second whole : Call Gate} → {said said' said'' : Stream}
    → TellsCall first said → TellsCall second said' → TellsCall whole said'' → (verdict other : Verdict)
    → Type 0
TakesBoth first second whole verdict other =
    TakesLogs first second whole verdict other
    ⊎ (taken_of_call whole ≡ taken_of_call first ++ taken_of_call second)

-- the third call gives what the first two give, and says what they say
pub record GivesBoth {Gate : Type 0} {first second whole : Call Gate} {said said' said'' : Stream}
    (one : TellsCall first said) (other : TellsCall second said') (both : TellsCall whole said'') : Type 0 where
  pub given : given_of both ≡ given_of one ++ given_of other
  pub says : said_of both ≡ said_of one ++ said_of other

-- two calls are asked for the same signature and policy
pub record SameSources {Gate : Type 0} {call other : Call Gate} {states states' : States}
    (asks : AsksToEnforce call states) (also : AsksToEnforce other states') : Type 0 where
  pub signature : also.asks.signature_bytes ≡ asks.asks.signature_bytes
  pub policy : also.asks.policy_bytes ≡ asks.asks.policy_bytes

-- a call goes on from the state that another one has saved: its words name a file to resume that holds this state
pub record GoesOnFromSaved {Gate : Type 0} {first second : Call Gate} {report : Stream}
    (saved : WritesRun first report (Ok tt))
    (states : States) (asks : AsksToEnforce second states) : Type 0 where
  pub sources : SameSources saved.paused.asks asks
  pub resumed : List ℕ
  pub names : states.resumed ≡ Some resumed
  pub files : List ℕ → Contents
  pub tell : second.before.files.contents ≡ Some files
  pub holds : files resumed ≡ FileBytes saved.state

-- the second call goes on from the state that the first has saved, and the third starts where the first did, for the
-- same signature and policy; the number of positions that the first comes to has 63 bits
pub record TakeTurns {Gate : Type 0} {first second whole : Call Gate} {report : Stream}
    (saved : WritesRun first report (Ok tt)) (states : States) (asks : AsksToEnforce second states)
    (states' : States) (all : AsksToEnforce whole states') : Type 0 where
  pub goes_on : GoesOnFromSaved saved states asks
  pub sources : SameSources saved.paused.asks all
  pub start : Start
  pub starts : MayStart saved.paused.states saved.paused.asks start
  pub starts' : MayStart states' all start
  pub short : length (comes_to saved.paused start starts).trace < 2 ^ 63

-- the third call gives and says what the first two do, where the second and the third end with the drain, up to the
-- line that refuses a record: that line is the one of the second, but that its number counts the records of both
abbrev pub CallsAreOne : Type 0 → Type 0
CallsAreOne Gate = (first second whole : Call Gate) (said said' said'' : Stream) (states states' : States)
    (judged judged' : Judged) → (saved : WritesRun first said (Ok tt))
    → (next : EnforcesLog second said' states judged) → (all : EnforcesLog whole said'' states' judged')
    → (turns : TakeTurns saved states next.asks states' all.asks)
    → (one : TellsCall first said) (other : TellsCall second said') (both : TellsCall whole said'')
    → TakesBoth one other both judged.verdict judged'.verdict
    → GivesBoth one other both
    × (judged'.accepted
    ≡ length (saved.paused.ran turns.start turns.starts).answers.read + judged.accepted)
    × (TakesLogs one other both judged.verdict judged'.verdict → judged'.verdict ≡ judged.verdict)

-- the third call gives and says what the first two do, where the second and the third are to save their state, which
-- then is that of the same trace and clock; and the second may start where the first has come to
abbrev pub PausesAreOne : Type 0 → Type 0
PausesAreOne Gate = (first second whole : Call Gate) (said said' said'' : Stream) (file file' : List ℕ)
    → (saved : WritesRun first said (Ok tt)) → (next : PausesRun second said' file)
    → (all : PausesRun whole said'' file') → (turns : TakeTurns saved next.states next.asks all.states all.asks)
    → (one : TellsCall first said) (other : TellsCall second said') (both : TellsCall whole said'')
    → TakesBoth one other both verdicts.Accepted verdicts.Accepted
    → GivesBoth one other both
    × ((starts : MayStart next.states next.asks (comes_to saved.paused turns.start turns.starts))
    × (comes_to all turns.start turns.starts'
    ≡ comes_to next (comes_to saved.paused turns.start turns.starts) starts))
