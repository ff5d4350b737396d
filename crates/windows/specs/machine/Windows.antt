-- What an operator `since` on the past has to remember, for which steps it stands, and the plain walk.
use Rattle.enf_data.specs.declared.intervals.Interval.{Interval}
use Rattle.enf_data.specs.declared.terms.VarId.{VarId}
use Rattle.enf_data.specs.declared.values.Value.{Value}
use Rattle.enf_data.specs.meaning.Membership.{HasNoRepeats, IsIn}
use Rattle.enf_data.specs.meaning.Valuations.{Valuation}
use Rattle.std.specs.Prelude.{ℕ, List, map, ◌≡◌, length, Some, Contains, All, ◌-◌, ◌↔◌, ◌⊎◌}
use Rattle.std.specs.Prelude.{◌≤◌, Bool, filter, IfSome, Option}
use Rattle.valuations.specs.machine.Tables.{AgreesWithRow, HasValuation, Relation, IsTable}
use Rattle.windows.specs.declared.surviving_rows.Surviving.{Surviving}
use Rattle.windows.specs.declared.surviving_rows.Surviving.TheVariants.{All as Whole, Only, AllBut}
use Rattle.windows.specs.machine.CommittedSteps.{to_the_end, StepsAnswer, AreUpTo, HasColumns, CommittedStep, HasPair}
use Rattle.windows.specs.machine.CommittedSteps.{IsKeptTime, with_committed_step}
use Rattle.windows.specs.machine.RowTimes.{AreLeastTimes, RiseTo, IsEndedTime, IsServedTime, is_some_time}
use Rattle.windows.specs.machine.DueQueues.{Queue, IsCompact, IsQueueAt}
use Rattle.windows.specs.machine.RowIndexes.{IsIndexOf, PartIndex}
use Rattle.windows.specs.machine.WindowEntries.{AreWindowEntries, AreLeast, count_pairs, rows_of}

-- rows, each with times at which it was right; the last time is 0 where no step is committed
pub record Window : Type 0 where
  pub interval : Interval
  pub columns : List VarId
  pub last : ℕ
  pub kept : List (List Value × List ℕ)

-- whether the row of an entry has a time
abbrev pub has_times : List Value × List ℕ → Bool
has_times e = is_some_time e.1

-- the rows that have times, with these
abbrev pub kept_entries : List (List Value × List ℕ) → List (List Value × List ℕ)
kept_entries entries = filter has_times entries

-- the columns are distinct, the rows are as long as they, and of the times of each just the least are kept, or none;
-- where the interval has an end, the times are queued; where there is an index, it has the places of the rows; rows and
-- what is queued are not many against the times, of which there are at least so many
pub record IsWindow (interval : Interval) (columns : List VarId) (last : ℕ)
    (entries : List (List Value × List ℕ))
    (queue : Queue) (index : Option PartIndex) (pairs : ℕ) : Type 0 where
  pub distinct : HasNoRepeats columns
  pub kept : AreWindowEntries (length columns) last entries
  pub least : AreLeast interval last entries
  pub queued : IsQueueAt interval last entries queue
  pub indexed : IfSome index (IsIndexOf columns (rows_of entries))
  pub compact : IsCompact entries queue
  pub counted : pairs ≤ count_pairs entries

-- a row with the valuation's values has this time
abbrev pub HasRow : Window → Valuation → ℕ → Type 0
HasRow window v time = (row : List Value) × (times : List ℕ) × Contains window.kept (row, times)
    × Contains times time × AgreesWithRow v window.columns row

-- a row that is as long as the columns, with the least times up to the last one
pub record HasLeast (window : Window) (e : List Value × List ℕ) : Type 0 where
  pub long : length e.0 ≡ length window.columns
  pub rise : RiseTo window.last e.1
  pub least : AreLeastTimes window.interval.high window.interval.low window.last e.1

-- the columns are distinct, each row is such a one, and none stands twice
pub record KeepsLeast (window : Window) : Type 0 where
  pub distinct : HasNoRepeats window.columns
  pub rows : All (HasLeast window) window.kept
  pub unique : HasNoRepeats (map (λ e. e.0) window.kept)

-- one of its times is at a distance in the interval
abbrev pub WindowRemembersIn : Interval → Window → ℕ → Valuation → Type 0
WindowRemembersIn interval window time v = (earlier : ℕ) × IsIn interval (time - earlier) × HasRow window v earlier

-- what it remembers gives the valuation at the time, where each remembered row survives
abbrev pub WindowRemembers : Window → ℕ → Valuation → Type 0
WindowRemembers window time v = WindowRemembersIn window.interval window time v

-- the window remembers the valuation for this time or a later one: the time is not past the end of the interval
abbrev pub WindowKeeps : Window → ℕ → Valuation → Type 0
WindowKeeps window time v = WindowRemembersIn (to_the_end window.interval) window time v

-- which valuations survive a step
abbrev pub SurvivesFor : Surviving → Valuation → Type 0
SurvivesFor Whole v = Unit {0}
SurvivesFor (Only rows) v = HasValuation rows.now v
SurvivesFor (AllBut rows) v = HasValuation rows.now v → ⊥

-- a table tells the same for each valuation that the window keeps
abbrev pub TellsFor : Window → (Valuation → Type 0) → Relation → Type 0
TellsFor window S surviving = (v : Valuation) → WindowKeeps window window.last v → HasValuation surviving v ↔ S v

-- the table that tells it has these columns
abbrev pub FitsColumns : List VarId → Surviving → Type 0
FitsColumns columns Whole = Unit {0}
FitsColumns columns (Only rows) = rows.now.columns ≡ columns
FitsColumns columns (AllBut rows) = rows.now.columns ≡ columns

-- what is known of that table
abbrev pub AreTables : Surviving → Type 0
AreTables Whole = Unit {0}
AreTables (Only rows) = IsTable rows.now
AreTables (AllBut rows) = IsTable rows.now

-- the window stands for the steps: at each time from its last one on it remembers what the plain walk over them gives,
-- and keeps what that walk gives at that time or can give later. Its rows and times are just those to be kept of the
-- steps, and each time that is not past the end has one of them that serves in its place
pub record StandsForSteps (window : Window) (steps : List CommittedStep) : Type 0 where
  pub fits : All (HasColumns window.columns) steps
  pub up_to : AreUpTo window.last steps
  pub remembers : (time : ℕ) → window.last ≤ time → (v : Valuation)
      → WindowRemembers window time v ↔ StepsAnswer window.interval time steps v
  pub keeps : (time : ℕ) → window.last ≤ time → (v : Valuation)
      → WindowKeeps window time v ↔ StepsAnswer (to_the_end window.interval) time steps v
  pub kept : (v : Valuation) (time : ℕ) → HasRow window v time ↔ IsKeptTime window.interval window.last steps v
      time
  pub served : (v : Valuation) (time : ℕ) → HasPair steps v time
      → IsServedTime window.interval.high window.interval.low window.last (HasRow window v) time
      ⊎ IsEndedTime window.interval.high window.last time

-- at a step at this time a window gives the rows that are right at it, where 0 is in the interval, and those of the
-- remembered ones that survive it
abbrev pub AnswersBy : Window → ℕ → (Valuation → Type 0) → Relation → Valuation → Type 0
AnswersBy window time S right v = (IsIn window.interval 0 × HasValuation right v)
    ⊎ (WindowRemembers window time v × S v)

abbrev pub AnswersNow : Window → ℕ → Relation → Relation → Valuation → Type 0
AnswersNow window time surviving right v = AnswersBy window time (HasValuation surviving) right v

-- with the step at this time committed: those of the ones before that survive it, and those that are right at it
abbrev pub HasRowAfterStep : Window → ℕ → (Valuation → Type 0) → Relation → Valuation → ℕ → Type 0
HasRowAfterStep before now S right v time = (HasRow before v time × S v) ⊎ ((time ≡ now) × HasValuation right v)

-- with the step committed the window remembers, and keeps, those that are right at it, by the distance from its time,
-- and those of the ones before that survive it. It has none but these, and each is served or past the end; of the times
-- of a row it has the least
pub record IsCommittedBy (before : Window) (time : ℕ) (S : Valuation → Type 0) (right : Relation) (after : Window)
    : Type 0 where
  pub interval_is : after.interval ≡ before.interval
  pub columns_are : after.columns ≡ before.columns
  pub last_is : after.last ≡ time
  pub remembers : (later : ℕ) → time ≤ later → (v : Valuation)
      → WindowRemembers after later v
      ↔ ((IsIn before.interval (later - time) × HasValuation right v) ⊎ (WindowRemembers before later v × S v))
  pub keeps : (later : ℕ) → time ≤ later → (v : Valuation)
      → WindowKeeps after later v
      ↔ ((IsIn (to_the_end before.interval) (later - time) × HasValuation right v)
      ⊎ (WindowKeeps before later v × S v))
  pub from : (v : Valuation) (earlier : ℕ) → HasRow after v earlier
      → HasRowAfterStep before time S right v earlier
  pub serves : (v : Valuation) (earlier : ℕ) → HasRowAfterStep before time S right v earlier
      → IsServedTime before.interval.high before.interval.low time (HasRow after v) earlier
      ⊎ IsEndedTime before.interval.high time earlier
  pub least : KeepsLeast after

abbrev pub IsCommitted : Window → ℕ → Relation → Relation → Window → Type 0
IsCommitted before time surviving right after = IsCommittedBy before time (HasValuation surviving) right after

-- the columns and the interval stay
pub record IsSameKind (before after : Window) : Type 0 where
  pub interval_is : after.interval ≡ before.interval
  pub columns_are : after.columns ≡ before.columns

-- the table is that of the walk over each list of steps for which the window stands, with this step more
abbrev pub IsWalkedNow : Window → ℕ → Relation → Relation → Relation → Type 0
IsWalkedNow window time surviving right t = (steps : List CommittedStep) → StandsForSteps window steps
    → (v : Valuation)
    → HasValuation t v ↔ StepsAnswer window.interval time (with_committed_step steps time surviving right) v

-- it has the rows that a step at the last time or later can answer by a step of such a list
abbrev pub IsWalkedLater : Window → Relation → Type 0
IsWalkedLater window t = (steps : List CommittedStep) → StandsForSteps window steps → (v : Valuation)
    → HasValuation t v ↔ StepsAnswer (to_the_end window.interval) window.last steps v

-- the window stands for such a list with this step more
abbrev pub StandsWithStep : Window → ℕ → Relation → Relation → Window → Type 0
StandsWithStep before time surviving right after = (steps : List CommittedStep) → StandsForSteps before steps
    → StandsForSteps after (with_committed_step steps time surviving right)
