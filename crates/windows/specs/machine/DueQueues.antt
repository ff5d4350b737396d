-- Times of rows in their order, each with the place of its row, of which a number at the front is known to be far
-- enough.
use Rattle.enf_data.specs.declared.intervals.Interval.{Interval}
use Rattle.enf_data.specs.declared.values.Value.{Value}
use Rattle.std.specs.Prelude.{ℕ, List, ◌≤◌, ◌<◌, ◌+◌, ◌*◌, [], ◌∷◌, ◌++◌, All, ◌≡◌, ◌-◌, Option, None, Some}
use Rattle.std.specs.Prelude.{drop, map, length, suc, slice_get, Contains, ◌⊎◌}
use Rattle.windows.specs.declared.queue.Due.{Due}
use Rattle.windows.specs.machine.WindowEntries.{count_pairs}

pub record Queue : Type 0 where
  pub dues : List Due
  pub far : ℕ

abbrev pub due : ℕ → ℕ → Due
due time place = record { time = time; place = place }

-- the times never fall
abbrev pub DuesNeverFall : List Due → Type 0
DuesNeverFall [] = Unit {0}
DuesNeverFall (d ∷ dues) = All (λ later. d.time ≤ later.time) dues × DuesNeverFall dues

-- none is later than the time
abbrev pub AreUpToTime : ℕ → List Due → Type 0
AreUpToTime time dues = All (λ d. d.time ≤ time) dues

-- none is there for longer than it is asked for: none where the interval has no end, else none past the end
abbrev pub AreInReach : Option ℕ → ℕ → List Due → Type 0
AreInReach None last dues = dues ≡ []
AreInReach (Some high) last dues = All (λ d. last - d.time ≤ high) dues

pub record IsDueQueue (queue : Queue) : Type 0 where
  pub ordered : DuesNeverFall queue.dues
  pub within : queue.far ≤ length queue.dues

-- those that are not known to be far enough
abbrev pub waiting_of : Queue → List Due
waiting_of queue = drop queue.far queue.dues

-- the time is one of those of the row at the place, and not the first of them
abbrev pub HasTimeAt : List (List Value × List ℕ) → (place time : ℕ) → Type 0
HasTimeAt entries place time = (e : List Value × List ℕ) × (slice_get entries place ≡ Some e) × Contains e.1 time

abbrev pub HasBehindAt : List (List Value × List ℕ) → (place time : ℕ) → Type 0
HasBehindAt entries place time =
    (e : List Value × List ℕ) × (slice_get entries place ≡ Some e) × Contains (drop 1 e.1) time

-- of the row at the place no time is past the end, and none but the first is far enough
abbrev pub IsSettledAt : ℕ → ℕ → ℕ → List (List Value × List ℕ) → ℕ → Type 0
IsSettledAt high low now entries place = (time : ℕ)
    → (HasTimeAt entries place time → now - time ≤ high) × (HasBehindAt entries place time → now - time < low)

-- each time of a row is there with its place, and each but the first is not known to be far enough
pub record AreQueued (entries : List (List Value × List ℕ)) (queue : Queue) : Type 0 where
  pub times : (place time : ℕ) → HasTimeAt entries place time → Contains queue.dues (due time place)
  pub waiting : (place time : ℕ) → HasBehindAt entries place time → Contains (waiting_of queue) (due time place)

-- of an interval with an end the times of the rows are queued; none is later than the last, or past the end
pub record IsQueueAt (interval : Interval) (last : ℕ) (entries : List (List Value × List ℕ)) (queue : Queue)
    : Type 0 where
  pub up_to : AreUpToTime last queue.dues
  pub in_reach : AreInReach interval.high last queue.dues
  pub queued : (high : ℕ) → interval.high ≡ Some high → AreQueued entries queue

-- each stays, and waits where it waits
pub record KeepsDues (before after : Queue) : Type 0 where
  pub stays : (d : Due) → Contains before.dues d → Contains after.dues d
  pub waits : (d : Due) → Contains (waiting_of before) d → Contains (waiting_of after) d

-- those are taken out for whose times Gone holds, and others for whose times Passed holds wait no longer
pub record LetsGo (Gone Passed : ℕ → Type 0) (before after : Queue) : Type 0 where
  pub among : (d : Due) → Contains after.dues d → Contains before.dues d
  pub stays : (d : Due) → Contains before.dues d → Gone d.time ⊎ Contains after.dues d
  pub waits : (d : Due) → Contains (waiting_of before) d → Passed d.time ⊎ Contains (waiting_of after) d

-- the times of rows that stand from this place on, each with its place
abbrev pub dues_from : ℕ → List (List ℕ) → List Due
dues_from place [] = []
dues_from place (times ∷ others) = map (λ time. due time place) times ++ dues_from (suc place) others

-- the rows, and what is queued of them, are not many against the times of the rows
pub record IsCompact (entries : List (List Value × List ℕ)) (queue : Queue) : Type 0 where
  pub rows : length entries ≤ 2 * count_pairs entries + 64
  pub dues : length queue.dues ≤ 2 * count_pairs entries + 64
