-- Rows with their times, as a window keeps them, and what is added to them and left out of them.
use Rattle.enf_data.specs.declared.intervals.Interval.{Interval}
use Rattle.enf_data.specs.declared.values.Value.{Value}
use Rattle.enf_data.specs.meaning.Membership.{HasNoRepeats, IsIn}
use Rattle.std.specs.Prelude.{ℕ, List, Contains, drop, ◌≡◌, ◌<◌, All, [], length, map, ◌⊎◌, Some, ◌-◌}
use Rattle.std.specs.Prelude.{◌≤◌, ◌↔◌, ◌+◌, ◌∷◌, slice_get}
use Rattle.windows.specs.declared.surviving_rows.Surviving.{Surviving}
use Rattle.windows.specs.declared.surviving_rows.Surviving.TheVariants.{All as Whole, Only, AllBut}
use Rattle.windows.specs.machine.RowTimes.{RiseTo, AreLeastTimes, IsEndedTime, IsServedTime}

-- the rows, in their places
abbrev pub rows_of : List (List Value × List ℕ) → List (List Value)
rows_of entries = map (λ e. e.0) entries

-- how many there are in all
abbrev pub count_times : List (List ℕ) → ℕ
count_times [] = 0
count_times (times ∷ others) = length times + count_times others

-- how many pairs of a row and one of its times there are
abbrev pub count_pairs : List (List Value × List ℕ) → ℕ
count_pairs entries = count_times (map (λ e. e.1) entries)

-- the row stands in the list, and the time is one of its times
abbrev pub HasTime : List (List Value × List ℕ) → List Value → ℕ → Type 0
HasTime entries row time =
    (times : List ℕ) × Contains entries (row, times) × Contains times time

-- the row stands in the list, and the time is one of its times, but not the first of them
abbrev pub HasBehind : List (List Value × List ℕ) → List Value → ℕ → Type 0
HasBehind entries row time =
    (times : List ℕ) × Contains entries (row, times) × Contains (drop 1 times) time

-- no row stands twice, each is so long, and its times rise; a row that was let go has none
pub record AreWindowEntries (long last : ℕ) (entries : List (List Value × List ℕ)) : Type 0 where
  pub fit : All (λ e. (length e.0 ≡ long) × RiseTo last e.1) entries
  pub unique : HasNoRepeats (map (λ e. e.0) entries)

-- the times of each row that has some are just the least
abbrev pub AreLeast : Interval → ℕ → List (List Value × List ℕ) → Type 0
AreLeast interval last entries =
    All (λ e. (e.1 ≡ []) ⊎ AreLeastTimes interval.high interval.low last e.1) entries

-- a time was added to the times of a row, or was not
pub record AddsAtMost (now : ℕ) (before after : List ℕ) : Type 0 where
  pub from : (time : ℕ) → Contains after time → Contains before time ⊎ (time ≡ now)
  pub behind : (time : ℕ) → Contains (drop 1 after) time → Contains (drop 1 before) time ⊎ (time ≡ now)

-- a time was added to those of a row, and each time before it is served or past the end
pub record AddsTime (interval : Interval) (now : ℕ) (before after : List ℕ) : Type 0 where
  pub serves : (time : ℕ) → Contains before time
      → IsServedTime interval.high interval.low now (Contains after) time ⊎ IsEndedTime interval.high now time
  pub added : IsServedTime interval.high interval.low now (Contains after) now

-- a time was added to the times of each row for which R holds, or was not
pub record AddAtMost (now : ℕ) (R : List Value → Type 0)
    (before after : List (List Value × List ℕ)) : Type 0 where
  pub from : (row : List Value) (time : ℕ) → HasTime after row time
      → HasTime before row time ⊎ ((time ≡ now) × R row)
  pub behind : (row : List Value) (time : ℕ) → HasBehind after row time
      → HasBehind before row time ⊎ ((time ≡ now) × R row)

pub record AddsTimes (interval : Interval) (now : ℕ) (R : List Value → Type 0)
    (before after : List (List Value × List ℕ)) : Type 0 where
  pub serves : (row : List Value) (time : ℕ) → HasTime before row time
      → IsServedTime interval.high interval.low now (HasTime after row) time ⊎ IsEndedTime interval.high now time
  pub added : (row : List Value) → R row → IsServedTime interval.high interval.low now (HasTime after row) now

-- times at the front of those of a row are left out, each of which is past the end, or is served
pub record ForgetsTimes (high low now : ℕ) (before after : List ℕ) : Type 0 where
  pub from : (time : ℕ) → Contains after time → Contains before time
  pub behind : (time : ℕ) → Contains (drop 1 after) time → Contains (drop 1 before) time
  pub serves : (time : ℕ) → Contains before time
      → IsServedTime (Some high) low now (Contains after) time ⊎ IsEndedTime (Some high) now time

-- so they are left out, and the others are the least
pub record SettlesTimes (high low now : ℕ) (before after : List ℕ) : Type 0 where
  pub forgets : ForgetsTimes high low now before after
  pub rise : RiseTo now after
  pub least : (after ≡ []) ⊎ AreLeastTimes (Some high) low now after

-- times at the front of the times of rows are left out, each of which is past the end, or is served; the rows keep
-- their places
pub record Forgets (interval : Interval) (now : ℕ) (before after : List (List Value × List ℕ)) : Type 0 where
  pub rows : rows_of after ≡ rows_of before
  pub from : (row : List Value) (time : ℕ) → HasTime after row time → HasTime before row time
  pub behind : (row : List Value) (time : ℕ) → HasBehind after row time → HasBehind before row time
  pub serves : (row : List Value) (time : ℕ) → HasTime before row time
      → IsServedTime interval.high interval.low now (HasTime after row) time ⊎ IsEndedTime interval.high now time

-- where S holds the times stay, and else none does
abbrev pub IsLetGoUnless : Type 0 → List ℕ → List ℕ → Type 0
IsLetGoUnless S before after = (S × (after ≡ before)) ⊎ ((S → ⊥) × (after ≡ []))

-- just the rows for which S holds stay, and others keep their place with no times
pub record KeepsRows (S : List Value → Type 0) (before after : List (List Value × List ℕ)) : Type 0 where
  pub among : (e : List Value × List ℕ) → Contains after e
      → Contains before e ⊎ ((e.1 ≡ []) × Contains (map (λ x. x.0) before) e.0)
  pub exact : (row : List Value) (time : ℕ) → HasTime after row time ↔ (HasTime before row time × S row)
  pub unique : HasNoRepeats (map (λ e. e.0) before) → HasNoRepeats (map (λ e. e.0) after)

-- the row survives
abbrev pub RowSurvives : Surviving → List Value → Type 0
RowSurvives Whole row = Unit {0}
RowSurvives (Only rows) row = Contains rows.now.rows row
RowSurvives (AllBut rows) row = Contains rows.now.rows row → ⊥

-- one of the times is at a distance in the interval
abbrev pub IsSomeIn : Interval → ℕ → List ℕ → Type 0
IsSomeIn interval now times = (time : ℕ) × Contains times time × IsIn interval (now - time)

-- the row has such a time, and S holds for it
abbrev pub GivesRow : Interval → ℕ → (List Value → Type 0)
    → List (List Value × List ℕ) → List Value → Type 0
GivesRow interval now S entries row =
    ((times : List ℕ) × Contains entries (row, times) × IsSomeIn interval now times) × S row

-- so it is with the row at this place
abbrev pub GivesRowAt : Interval → ℕ → (List Value → Type 0)
    → List (List Value × List ℕ) → ℕ → List Value → Type 0
GivesRowAt interval now S entries place row =
    (times : List ℕ) × (slice_get entries place ≡ Some (row, times)) × IsSomeIn interval now times × S row

-- some row has such a time
abbrev pub GivesSomeRow : Interval → ℕ → List (List Value × List ℕ) → Type 0
GivesSomeRow interval now entries = (row : List Value) × GivesRow interval now (λ any. Unit {0}) entries row

-- there is a row in the list
abbrev pub IsAnyRow : List (List Value × List ℕ) → Type 0
IsAnyRow entries = (e : List Value × List ℕ) × Contains entries e
