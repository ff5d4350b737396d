-- The statements of the laws of records, traces, lawful change and good prefixes.
use Rattle.enf_data.specs.declared.events.NameId.{NameId}
use Rattle.enf_data.specs.declared.steps.Step.{Step}
use Rattle.enf_data.specs.meaning.Data.{IsTrace, step_at}
use Rattle.enf_data.specs.meaning.Membership.{HasNoRepeats}
use Rattle.std.specs.Prelude.{ℕ, ◌+◌, List, ◌++◌, ◌≡◌, ◌≤◌, [], ◌∷◌, length, ◌<◌}
use Rattle.std.specs.Prelude.{slice_index_or, Bool}
use Rattle.enf_formula.specs.meaning.Satisfaction.{Formula}
use Rattle.trace_meaning.specs.meaning.Traces.{last_time, Good, Satisfies, AreInOrder, IsLaterThan, Lawful, OutStep}
use Rattle.trace_meaning.specs.meaning.Traces.{IsWithin, Record, NeverFall, clock_after}
use Rattle.trace_meaning.specs.machine.Enforced.{GoodPrefix}

-- records, and then more of them, whose times never fall from where the first ones leave the clock
abbrev pub RecordsJoin : Type 0
RecordsJoin = (clock : ℕ) (records more : List Record)
    → NeverFall clock records → NeverFall (clock_after clock records) more → NeverFall clock (records ++ more)

abbrev pub ClockJoins : Type 0
ClockJoins = (clock : ℕ) (records more : List Record)
    → clock_after clock (records ++ more) ≡ clock_after (clock_after clock records) more

-- the clock does not go back
abbrev pub ClockRises : Type 0
ClockRises = (clock : ℕ) (records : List Record) → NeverFall clock records → clock ≤ clock_after clock records

-- a trace with one more step that is not earlier
abbrev pub TraceGrows : Type 0
TraceGrows = (trace : List Step) (step : Step)
    → IsTrace trace → last_time trace ≤ step.time → HasNoRepeats step.events → IsTrace (trace ++ step ∷ [])

-- the time of a step that was put at the end of a trace is the last one
abbrev pub LastIsTheNew : Type 0
LastIsTheNew = (trace : List Step) (step : Step) → last_time (trace ++ step ∷ []) ≡ step.time

-- the last time is that of the last position
abbrev pub LastIsAtTheEnd : Type 0
LastIsAtTheEnd = (trace : List Step) (position : ℕ) → position + 1 ≡ length trace
    → last_time trace ≡ (step_at trace position).time

-- no position of a trace has a time later than the last one
abbrev pub NoneIsLater : Type 0
NoneIsLater = (trace : List Step) (position : ℕ) → IsTrace trace → position < length trace
    → (step_at trace position).time ≤ last_time trace

-- of two steps that are in order the later one has no smaller time, and a greater one
-- where a system step comes after an inserted one
abbrev pub OrderOfAny : Type 0
OrderOfAny = (out : List OutStep) (i j : ℕ) (d e : OutStep) → AreInOrder out → i < j → j < length out
    → IsLaterThan (slice_index_or out i d).kind (slice_index_or out j e).kind
    (slice_index_or out i d).step.time (slice_index_or out j e).step.time

-- what is emitted up to a time of the clock and what is emitted from it on
abbrev pub WithinJoins : Type 0
WithinJoins = (start middle end : ℕ) (out more : List OutStep) → start ≤ middle → middle ≤ end
    → IsWithin start middle out → IsWithin middle end more → IsWithin start end (out ++ more)

-- what is lawful for records and lawful for more of them is lawful for both
abbrev pub LawfulJoins : Type 0
LawfulJoins = (causable suppressible : NameId → Bool) (start middle end : ℕ)
    (records records' : List Record) (out out' : List OutStep)
    → IsWithin start middle out → IsWithin middle end out'
    → Lawful causable suppressible records out → Lawful causable suppressible records' out'
    → Lawful causable suppressible (records ++ records') (out ++ out')

-- a trace that satisfies a policy is its own continuation
abbrev pub SatisfyingIsGood : Type 0
SatisfyingIsGood = (policy : List Formula) (trace : List Step) (clock : ℕ)
    → IsTrace trace → Satisfies trace policy → Good policy trace clock

-- what can be continued well from a clock on can be so from an earlier clock on
abbrev pub GoodFromEarlier : Type 0
GoodFromEarlier = (policy : List Formula) (trace : List Step) (clock earlier : ℕ)
    → earlier ≤ clock → Good policy trace clock → Good policy trace earlier

-- a front of a trace that can be continued well, with no time below the clock after it, can be continued well itself
abbrev pub GoodFromLonger : Type 0
GoodFromLonger = (policy : List Formula) (trace more : List Step) (clock : ℕ)
    → ((i : ℕ) → i < length more → clock ≤ (slice_index_or more i (record { time = 0; events = [] })).time)
    → Good policy (trace ++ more) clock → Good policy trace clock

-- in truth with any times after it, since those of a trace never fall
abbrev pub FrontIsGood : Type 0
FrontIsGood = (policy : List Formula) (trace more : List Step) (clock : ℕ)
    → Good policy (trace ++ more) clock → GoodPrefix policy trace

-- what can be continued well is a trace
abbrev pub GoodIsTrace : Type 0
GoodIsTrace = (policy : List Formula) (trace : List Step) (clock : ℕ) → Good policy trace clock → IsTrace trace
