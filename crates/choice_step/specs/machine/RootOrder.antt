-- Roots of rules that are to be asked again, before those that were not asked yet.
use Rattle.std.specs.Prelude.{◌≡◌, ◌⊎◌, ◌<◌, ◌≤◌, ◌+◌, ◌-◌, ℕ, List, Contains, length}

-- the least of some rules, if it is below one
pub record IsFirstRoot (from : ℕ) (again : List ℕ) (first : ℕ) : Type 0 where
  pub within : first ≤ from
  pub least : (rule : ℕ) → Contains again rule → first ≤ rule
  pub there : (first ≡ from) ⊎ Contains again first

-- a rule goes from those that are to be asked again, or it was the next
pub record PassesRoot (rule from : ℕ) (again : List ℕ) (next : ℕ) (left : List ℕ) : Type 0 where
  pub behind : (other : ℕ) → other < next → (other < from) ⊎ (other ≡ rule)
  pub kept : (other : ℕ) → Contains again other → Contains left other ⊎ (other ≡ rule)
  pub fewer : (all : ℕ) → rule < all → (rule ≡ from) ⊎ Contains again rule
      → length left + (all - next) < length again + (all - from)
