-- The pairs of rows and times that windows and slots store, and that they can be made of.
use Rattle.enf_data.specs.declared.intervals.Interval.{Interval}
use Rattle.enf_data.specs.declared.terms.VarId.{VarId}
use Rattle.enf_data.specs.declared.values.Value.{Value}
use Rattle.enf_data.specs.meaning.Membership.{HasNoRepeats}
use Rattle.enf_data.specs.meaning.Valuations.{valuation_of}
use Rattle.std.specs.Prelude.{List, ◌↔◌, ℕ, ◌<◌, Contains, ◌≡◌, length, [], map, Option, None, Some}
use Rattle.std.specs.Prelude.{All, ◌≤◌}
use Rattle.windows.specs.declared.kept_pairs.KeptPair.{KeptPair}
use Rattle.windows.specs.declared.steps.LastStep.{LastStep}
use Rattle.windows.specs.machine.CommittedSteps.{CommittedStep, IsKeptTime}
use Rattle.windows.specs.machine.WindowEntries.{HasTime}
use Rattle.windows.specs.machine.Windows.{Window, StandsForSteps}
use Rattle.windows.specs.meaning.KeptPairs.{IsRisingBy, IsPairBefore, pair, ChosenBy}

abbrev pub AreRising : List KeptPair → Type 0
AreRising pairs = IsRisingBy IsPairBefore pairs

-- all times of the row, in order
pub record AreTimesOf (entries : List (List Value × List ℕ)) (row : List Value) (times : List ℕ) : Type 0 where
  pub rise : IsRisingBy ◌<◌ times
  pub exact : (time : ℕ) → Contains times time ↔ HasTime entries row time

-- the window has the row with this time
abbrev pub Stores : Window → List Value → ℕ → Type 0
Stores window row time = (times : List ℕ) × Contains window.kept (row, times) × Contains times time

-- the pairs are those that the window has
abbrev pub ArePairsOf : Window → List KeptPair → Type 0
ArePairsOf window pairs = (row : List Value) (time : ℕ) → Contains pairs (pair row time) ↔ Stores window row time

-- the pairs are those to be kept of each list of steps for which the window stands
abbrev pub ArePairsKept : Window → List KeptPair → Type 0
ArePairsKept window pairs = (steps : List CommittedStep) → StandsForSteps window steps
    → (row : List Value) (time : ℕ)
    → length row ≡ length window.columns
    → Contains pairs (pair row time) ↔ IsKeptTime window.interval window.last steps
    (valuation_of window.columns row) time

-- the rows of the last step, each with its time
abbrev pub pairs_of_last : Option LastStep → List KeptPair
pairs_of_last None = []
pairs_of_last (Some last) = map (λ row. pair row last.time) last.rows.rows

-- the time of the last step
abbrev pub last_step_time : Option LastStep → Option ℕ
last_step_time None = None
last_step_time (Some last) = Some last.time

-- each pair has the last time, and there is none without one
abbrev pub AreOfLast : Option ℕ → List KeptPair → Type 0
AreOfLast None pairs = pairs ≡ []
AreOfLast (Some time) pairs = All (λ p. p.time ≡ time) pairs

-- pairs that a window of these columns can have at its last time, in order: of the times of each row none is past the
-- end of the interval, and none could be left out
pub record AreKeepable (interval : Interval) (columns : List VarId) (last : ℕ) (pairs : List KeptPair) : Type 0 where
  pub fit : All (λ p. length p.row ≡ length columns) pairs
  pub up_to : All (λ p. p.time ≤ last) pairs
  pub rising : AreRising pairs
  pub chosen : (row : List Value) (time : ℕ) → Contains pairs (pair row time)
      → ChosenBy interval.high interval.low last (λ other. Contains pairs (pair row other)) time

-- each of the pairs is before this one
abbrev pub AreBefore : List KeptPair → KeptPair → Type 0
AreBefore pairs p = (q : KeptPair) → Contains pairs q → IsPairBefore q p

-- the rows of the pairs, no row twice, each with its times in order
pub record AreEntriesOf (pairs : List KeptPair) (entries : List (List Value × List ℕ)) : Type 0 where
  pub exact : (p : KeptPair) → HasTime entries p.row p.time ↔ Contains pairs p
  pub fit : All (λ e. (0 < length e.1) × IsRisingBy ◌<◌ e.1) entries
  pub unique : HasNoRepeats (map (λ e. e.0) entries)
