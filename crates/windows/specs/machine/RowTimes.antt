-- The times at which one row was right, of which some are kept.
use Rattle.std.specs.Prelude.{ℕ, ◌<◌, ◌≤◌, List, [], ◌∷◌, All, ◌≡◌, ◌-◌, Option, None, Some}
use Rattle.std.specs.Prelude.{◌⊎◌, Bool, true, false}

-- whether there is a time
abbrev pub is_some_time : List ℕ → Bool
is_some_time [] = false
is_some_time (time ∷ times) = true

-- the times rise, and none is later than the last
abbrev pub RiseTo : ℕ → List ℕ → Type 0
RiseTo last [] = Unit {0}
RiseTo last (time ∷ times) = (time ≤ last) × All (λ later. time < later) times × RiseTo last times

-- there is a time. Of an interval without end it is alone; else the first is not past the end at the last time, and
-- each other one is not far enough there
abbrev pub AreLeastTimes : Option ℕ → ℕ → ℕ → List ℕ → Type 0
AreLeastTimes high low last [] = ⊥
AreLeastTimes None low last (time ∷ times) = times ≡ []
AreLeastTimes (Some high) low last (time ∷ times) = (last - time ≤ high) × All (λ later. last - later < low) times

-- the time is past the end of an interval, at this time and later
abbrev pub IsEndedTime : Option ℕ → ℕ → ℕ → Type 0
IsEndedTime None now time = ⊥
IsEndedTime (Some high) now time = high < now - time

-- one of these times serves in its place, now and later: of an interval without end an earlier one; else itself, or a
-- later one that is far enough already
abbrev pub IsServedTime : Option ℕ → ℕ → ℕ → (ℕ → Type 0) → ℕ → Type 0
IsServedTime None low now Is time = (other : ℕ) × (other ≤ time) × Is other
IsServedTime (Some high) low now Is time =
    (other : ℕ) × (time ≤ other) × ((other ≡ time) ⊎ (low ≤ now - other)) × Is other

-- the first time is past the end, or the second is far enough
abbrev pub IsFirstPassed : ℕ → ℕ → ℕ → List ℕ → Type 0
IsFirstPassed high low now [] = ⊥
IsFirstPassed high low now (first ∷ []) = high < now - first
IsFirstPassed high low now (first ∷ second ∷ times) = (high < now - first) ⊎ (low ≤ now - second)
