-- Numbers of groups, noted under what wakes their entries.
use Rattle.enf_data.specs.declared.events.Event.{Event}
use Rattle.enf_data.specs.declared.seeds.Seed.{Seed}
use Rattle.std.specs.List.{AllByRecursion}
use Rattle.std.specs.Prelude.{List, Contains, ◌≡◌, ℕ, ◌⊎◌, Bool, Option, None, Some, [], true, ◌<◌}
use Rattle.sleepers.specs.declared.keys.Shape.{Shape}
use Rattle.sleepers.specs.declared.patterns.Pattern.{Pattern}
use Rattle.sleepers.specs.machine.PatternKeys.{pattern_key, shape_of}
use Rattle.sleepers.specs.machine.Patterns.{HasNone}

module _ {X : Type 0} where
  -- all of the first list are in the second
  abbrev pub IsContainedIn : List X → List X → Type 0
  IsContainedIn fewer more = (x : X) → Contains fewer x → Contains more x

-- all but the pairs of one group
abbrev pub IsWithinBut : ℕ → List (ℕ × ℕ) → List (ℕ × ℕ) → Type 0
IsWithinBut group old new = (pair : ℕ × ℕ) → Contains old pair → (group ≡ pair.1) ⊎ Contains new pair

-- groups by the keys of patterns and by times, the shapes of all patterns, whether all groups are noted, and the seed
-- of the keys
pub record Noted : Type 0 where
  pub patterns : List (ℕ × ℕ)
  pub ends : List (ℕ × ℕ)
  pub shapes : List Shape
  pub is_begun : Bool
  pub seed : Seed

-- from which time on one with these patterns and this end is awake whatever happens
abbrev pub awake_from : Option (List Pattern) → ℕ → ℕ
awake_from None end = 0
awake_from (Some patterns) end = end

abbrev pub listed_patterns : Option (List Pattern) → List Pattern
listed_patterns None = []
listed_patterns (Some patterns) = patterns

-- the group is noted under the pattern
pub record IsNoted (noted : Noted) (group : ℕ) (pattern : Pattern) : Type 0 where
  pub shape : Contains noted.shapes (shape_of pattern)
  pub listed : Contains noted.patterns (pattern_key noted.seed pattern.name pattern.args, group)

-- under each of the patterns, and under the end
pub record IsGroupFound (noted : Noted) (group : ℕ) (patterns : Option (List Pattern)) (end : ℕ) : Type 0 where
  pub by_end : Contains noted.ends (awake_from patterns end, group)
  pub by_pattern : AllByRecursion (IsNoted noted group) (listed_patterns patterns)

-- once all groups are noted
abbrev pub CanBeFound : Noted → (group : ℕ) → (patterns : Option (List Pattern)) → (end : ℕ) → Type 0
CanBeFound noted group patterns end = noted.is_begun ≡ true → IsGroupFound noted group patterns end

-- as IsAsleep has it
pub record PatternsSleep (events : List Event) (time : ℕ) (patterns : Option (List Pattern)) (end : ℕ) : Type 0
  where
    pub some : List Pattern
    pub waits : patterns ≡ Some some
    pub none : HasNone some events
    pub in_time : time < end

-- nothing is lost
pub record KeepsAll (old new : Noted) : Type 0 where
  pub patterns : IsContainedIn old.patterns new.patterns
  pub ends : IsContainedIn old.ends new.ends
  pub shapes : IsContainedIn old.shapes new.shapes
  pub is_begun : new.is_begun ≡ old.is_begun
  pub seed : new.seed ≡ old.seed

-- nothing but of one group
pub record KeepsOthers (group : ℕ) (old new : Noted) : Type 0 where
  pub patterns : IsWithinBut group old.patterns new.patterns
  pub ends : IsWithinBut group old.ends new.ends
  pub shapes : IsContainedIn old.shapes new.shapes
  pub is_begun : new.is_begun ≡ old.is_begun
  pub seed : new.seed ≡ old.seed
