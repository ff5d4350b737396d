-- The statements of the laws of slices.
use Rattle.enf_data.specs.declared.events.Event.{Event}
use Rattle.enf_data.specs.declared.events.NameId.{NameId}
use Rattle.enf_data.specs.declared.steps.Step.{Step}
use Rattle.enf_data.specs.declared.values.Value.{Value}
use Rattle.enf_data.specs.meaning.Data.{IsTrace, step_at}
use Rattle.enf_data.specs.meaning.Membership.{HasNoRepeats}
use Rattle.enf_data.specs.meaning.Valuations.{no_values}
use Rattle.enf_formula.specs.meaning.Satisfaction.{Formula, Sat}
use Rattle.slices.specs.declared.hindrances.Hindrance.{Hindrance}
use Rattle.slices.specs.meaning.SlicedRules.{HoldsForKey, IsRuleInTheWay, IsSlicedPolicy, IsSlicedRule}
use Rattle.slices.specs.meaning.Slices.{IsLeftOut, Keying, cut_events, cut_step, origin, slice_of}
use Rattle.slices.specs.meaning.SlicedLogs.{AreOfOtherKeys, IsChangeOf, IsChangedForKeys, IsPartOf, StepPart}
use Rattle.slices.specs.meaning.SlicedLogs.{all_changes, slice_of_log}
use Rattle.std.specs.Prelude.{All, ℕ, List, length, Bool, IsTrue, false, ◌≡◌, ◌<◌, ◌↔◌, ◌⊎◌, [], ◌∷◌, ◌++◌}
use Rattle.trace_meaning.specs.machine.Enforced.{Enforced}
use Rattle.std.specs.Prelude.{map}
use Rattle.trace_meaning.specs.meaning.Traces.{event_of, Lawful, OutStep, from_nothing, trace_of}
use Rattle.trace_meaning.specs.meaning.Traces.{Good, Satisfies, Change, Leads, NeverFall, Record, clock_after, recorded}

-- ---- Slices of traces.

-- the steps of the slice come from steps of the trace, in their order, and each other step is left out
pub record ComesFromTrace (keying : Keying) (keys : Value → Bool) (trace : List Step) : Type 0 where
  pub cut : (place : ℕ) → step_at (slice_of keying keys trace) place
      ≡ cut_step keying keys (step_at trace (origin keying keys trace place))
  pub there : (place : ℕ) → place < length (slice_of keying keys trace) → origin keying keys trace place < length trace
  pub rises : (place later : ℕ) → place < later → origin keying keys trace place < origin keying keys trace later
  pub rest : (i : ℕ) → i < length trace
      → ((place : ℕ) × (place < length (slice_of keying keys trace)) × (origin keying keys trace place ≡ i))
      ⊎ IsLeftOut keying keys (step_at trace i)

abbrev pub SlicesComeFromTraces : Type 0
SlicesComeFromTraces = (keying : Keying) (keys : Value → Bool) (trace : List Step) → ComesFromTrace keying keys trace

abbrev pub SlicesAreTraces : Type 0
SlicesAreTraces = (keying : Keying) (keys : Value → Bool) (trace : List Step) → IsTrace trace
    → IsTrace (slice_of keying keys trace)

-- ---- The truth of rules.

-- nothing is in the way of a rule where it is of one key, and only there
abbrev pub NothingIsInTheWay : Type 0
NothingIsInTheWay = (keying : Keying) (rule : Formula)
    → ((h : Hindrance) → IsRuleInTheWay keying rule h → ⊥) ↔ IsSlicedRule keying rule

-- a rule of one key holds where it holds for each key
abbrev pub HoldsByKeys : Type 0
HoldsByKeys = (keying : Keying) (trace : List Step) (i : ℕ) (rule : Formula) → IsSlicedRule keying rule
    → Sat trace i no_values rule ↔ ((key : Value) → HoldsForKey keying key trace i rule)

-- for a key of the set it has the same truth at a step of the slice and at the step of the trace from which this comes
abbrev pub TruthStays : Type 0
TruthStays = (keying : Keying) (keys : Value → Bool) (key : Value) (trace : List Step) (place : ℕ) (rule : Formula)
    → IsSlicedRule keying rule → IsTrue (keys key) → place < length (slice_of keying keys trace)
    → HoldsForKey keying key trace (origin keying keys trace place) rule
    ↔ HoldsForKey keying key (slice_of keying keys trace) place rule

-- it holds for such a key at each step that the slice leaves out
abbrev pub HoldsWhereLeftOut : Type 0
HoldsWhereLeftOut = (keying : Keying) (keys : Value → Bool) (key : Value) (trace : List Step) (i : ℕ) (rule : Formula)
    → IsSlicedRule keying rule → IsTrue (keys key) → IsLeftOut keying keys (step_at trace i)
    → HoldsForKey keying key trace i rule

-- for each other key it holds throughout the slice
abbrev pub HoldsForOtherKeys : Type 0
HoldsForOtherKeys = (keying : Keying) (keys : Value → Bool) (key : Value) (trace : List Step) (i : ℕ) (rule : Formula)
    → IsSlicedRule keying rule → keys key ≡ false → HoldsForKey keying key (slice_of keying keys trace) i rule

-- ---- Policies.

-- each key is in one of the sets
abbrev pub CoverAllKeys : (ℕ → Value → Bool) → Type 0
CoverAllKeys sets = (key : Value) → (c : ℕ) × IsTrue (sets c key)

-- a trace satisfies a policy of one key where its slices for such sets do, and only there
abbrev pub SlicesDecide : Type 0
SlicesDecide = (keying : Keying) (sets : ℕ → Value → Bool) (trace : List Step) (policy : List Formula)
    → IsSlicedPolicy keying policy → CoverAllKeys sets
    → ((c : ℕ) → Satisfies (slice_of keying (sets c) trace) policy) ↔ Satisfies trace policy

-- a trace whose slice for each set is that of a trace that satisfies the policy does so itself: however such traces are
-- merged
abbrev pub MergesSatisfy : Type 0
MergesSatisfy = (keying : Keying) (sets : ℕ → Value → Bool) (trace : List Step) (parts : ℕ → List Step)
    (policy : List Formula) → IsSlicedPolicy keying policy → CoverAllKeys sets
    → ((c : ℕ) → Satisfies (parts c) policy)
    → ((c : ℕ) → slice_of keying (sets c) trace ≡ slice_of keying (sets c) (parts c)) → Satisfies trace policy

-- what can be continued well has slices that can
abbrev pub SlicesAreGood : Type 0
SlicesAreGood = (keying : Keying) (keys : Value → Bool) (trace : List Step) (clock : ℕ) (policy : List Formula)
    → IsSlicedPolicy keying policy → Good policy trace clock → Good policy (slice_of keying keys trace) clock

-- ---- Logs.

-- the slice of a log has the slice of its steps, and the same clock, which never falls
pub record HasSlicedSteps (keying : Keying) (keys : Value → Bool) (records : List Record) : Type 0 where
  pub steps : recorded (slice_of_log keying keys records) ≡ slice_of keying keys (recorded records)
  pub clock : (clock : ℕ) → clock_after clock (slice_of_log keying keys records) ≡ clock_after clock records
  pub rising : (clock : ℕ) → NeverFall clock records → NeverFall clock (slice_of_log keying keys records)

abbrev pub LogsHaveSlicedSteps : Type 0
LogsHaveSlicedSteps = (keying : Keying) (keys : Value → Bool) (records : List Record)
    → HasSlicedSteps keying keys records

-- where the steps of a log can be continued well at its clock those of its slice can
abbrev pub GoodLogsStayGood : Type 0
GoodLogsStayGood = (keying : Keying) (keys : Value → Bool) (records : List Record) (policy : List Formula)
    → IsSlicedPolicy keying policy → Good policy (recorded records) (clock_after 0 records)
    → Good policy (recorded (slice_of_log keying keys records)) (clock_after 0 (slice_of_log keying keys records))

-- lawful changes of the events of some keys, as they are made in the slice of a step, can be made in the step
abbrev pub ChangesMerge : Type 0
ChangesMerge = (causable suppressible : NameId → Bool) (keying : Keying) (keys : Value → Bool)
    (changes : List Change) (before part : List Event) → All (IsChangeOf keying keys) changes
    → Leads causable suppressible changes (cut_events keying keys before) part
    → (whole : List Event) × IsChangedForKeys causable suppressible keying keys changes before part whole

-- what was done at a step in slices for sets without a common key can be done at the step, one after another
abbrev pub StepsMerge : Type 0
StepsMerge = (causable suppressible : NameId → Bool) (keying : Keying) (parts : List StepPart) (before : List Event)
    → AreOfOtherKeys parts → All (IsPartOf causable suppressible keying before) parts
    → (whole : List Event) × Leads causable suppressible (all_changes parts) before whole
    × All (λ part. cut_events keying part.keys whole ≡ part.events) parts

-- and where each changes no event twice, all together do not
abbrev pub ChangesStayOnce : Type 0
ChangesStayOnce = (keying : Keying) (parts : List StepPart) → AreOfOtherKeys parts
    → All (λ part. All (IsChangeOf keying part.keys) part.changes) parts
    → All (λ part. HasNoRepeats (map event_of part.changes)) parts
    → HasNoRepeats (map event_of (all_changes parts))

-- what is lawful for a log, with for each set the slice of what was enforced on the log's slice, is enforced on the log
abbrev pub MergesAreEnforced : Type 0
MergesAreEnforced = (causable suppressible : NameId → Bool) (keying : Keying) (sets : ℕ → Value → Bool)
    (policy : List Formula) (records : List Record) (parts : ℕ → List OutStep) (out : List OutStep)
    → IsSlicedPolicy keying policy → CoverAllKeys sets
    → ((c : ℕ) → Enforced causable suppressible policy from_nothing (slice_of_log keying (sets c) records) (parts c))
    → Lawful causable suppressible records out → IsTrace (trace_of out)
    → ((c : ℕ) → slice_of keying (sets c) (trace_of out) ≡ slice_of keying (sets c) (trace_of (parts c)))
    → Enforced causable suppressible policy from_nothing records out

-- ---- What no slice sees, and so what may differ in a merge.

-- a step that is left out may be missing
abbrev pub MissingIsUnseen : Type 0
MissingIsUnseen = (keying : Keying) (keys : Value → Bool) (front : List Step) (step : Step) (back : List Step)
    → IsLeftOut keying keys step
    → slice_of keying keys (front ++ step ∷ back) ≡ slice_of keying keys (front ++ back)

-- two steps of which the slice has one at most may stand in either order
abbrev pub OrderIsUnseen : Type 0
OrderIsUnseen = (keying : Keying) (keys : Value → Bool) (front : List Step) (step next : Step) (back : List Step)
    → IsLeftOut keying keys step ⊎ IsLeftOut keying keys next
    → slice_of keying keys (front ++ step ∷ next ∷ back) ≡ slice_of keying keys (front ++ next ∷ step ∷ back)

-- a step may be two at its time, where the slice has one of these at most
abbrev pub SplitIsUnseen : Type 0
SplitIsUnseen = (keying : Keying) (keys : Value → Bool) (front : List Step) (time : ℕ) (events more : List Event)
    (back : List Step)
    → (cut_events keying keys events ≡ []) ⊎ (cut_events keying keys more ≡ [])
    → slice_of keying keys (front ++ record { time = time; events = events ++ more } ∷ back)
    ≡ slice_of keying keys (front ++ record { time = time; events = events }
    ∷ record { time = time; events = more } ∷ back)
