-- How many lists of values there are for which something holds.
use Rattle.count_guard.specs.declared.counting.CountKind.{CountKind}
use Rattle.count_guard.specs.declared.counting.CountKind.TheVariants.{AtLeast, AtMost, Exactly}
use Rattle.enf_data.specs.declared.values.Value.{Value}
use Rattle.enf_data.specs.meaning.Membership.{HasNoRepeats}
use Rattle.enf_formula.specs.meaning.Satisfaction.{Classically}
use Rattle.std.specs.List.{AllByRecursion}
use Rattle.std.specs.Prelude.{ℕ, ◌+◌, ◌≡◌, List, length}

-- there are k different lists of so many values for which it holds
abbrev pub HoldsForDifferent : (k width : ℕ) → (List Value → Type 0) → Type 0
HoldsForDifferent k width Holds = Classically ((lists : List (List Value)) × (length lists ≡ k) × HasNoRepeats lists
    × AllByRecursion (λ values. (length values ≡ width) × Holds values) lists)

-- there are at least, at most, or exactly k
abbrev pub IsCount : CountKind → (k width : ℕ) → (List Value → Type 0) → Type 0
IsCount AtLeast k width Holds = HoldsForDifferent k width Holds
IsCount AtMost k width Holds = HoldsForDifferent (k + 1) width Holds → ⊥
IsCount Exactly k width Holds = HoldsForDifferent k width Holds × (HoldsForDifferent (k + 1) width Holds → ⊥)
