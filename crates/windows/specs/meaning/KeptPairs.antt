-- Rows with the times at which they held: their order, and which times have to be kept.
use Rattle.enf_data.specs.declared.intervals.Interval.{Interval}
use Rattle.enf_data.specs.declared.values.Value.{Value}
use Rattle.enf_data.specs.meaning.Values.{row_cmp}
use Rattle.std.specs.Prelude.{ℕ, ◌-◌, ◌≤◌, Option, None, Some, List, [], ◌∷◌, All, ◌≡◌, ◌⊎◌, ◌<◌}
use Rattle.std.specs.declared.cmp.Ordering.TheVariants.{Less}
use Rattle.windows.specs.declared.kept_pairs.KeptPair.{KeptPair}

-- this time has to be kept of those for which P holds: where the interval has no end, it is the earliest; else it is
-- not past the end at the last time, and where it is far enough for the interval, it is the latest of those that are
abbrev pub ChosenBy : Option ℕ → ℕ → ℕ → (ℕ → Type 0) → ℕ → Type 0
ChosenBy None low last P time = (other : ℕ) → P other → time ≤ other
ChosenBy (Some high) low last P time = (last - time ≤ high)
    × (low ≤ last - time → (other : ℕ) → P other → low ≤ last - other → other ≤ time)

abbrev pub Chosen : Interval → ℕ → (ℕ → Type 0) → ℕ → Type 0
Chosen interval last P time = P time × ChosenBy interval.high interval.low last P time

abbrev pub pair : List Value → ℕ → KeptPair
pair row time = record { row = row; time = time }

-- each item is before all that stand after it
abbrev pub IsRisingBy : {X : Type 0} → (X → X → Type 0) → List X → Type 0
IsRisingBy Before [] = Unit {0}
IsRisingBy Before (x ∷ xs) = All (Before x) xs × IsRisingBy Before xs

-- the order of pairs: by row, and then by time
abbrev pub IsPairBefore : KeptPair → KeptPair → Type 0
IsPairBefore p q = (row_cmp p.row q.row ≡ Less) ⊎ ((p.row ≡ q.row) × (p.time < q.time))
