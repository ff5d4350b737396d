-- Differences of times in an interval, lists without repeats, and taking an item out of a list.
use Rattle.enf_data.specs.declared.intervals.Interval.{Interval}
use Rattle.std.specs.Prelude.{ℕ, ◌≤◌, Option, None, Some, List, [], ◌∷◌, Contains, ◌≡◌, ◌++◌}

-- a difference is no more than the end, where there is one
abbrev pub IsUpTo : Option ℕ → ℕ → Type 0
IsUpTo None difference = Unit {0}
IsUpTo (Some high) difference = difference ≤ high

-- both ends are in: [a,b] has the differences from a to b, [a,*] all from a on (the intervals of metric temporal logic,
-- Basin et al., JACM 62(2), 2015)
abbrev pub IsIn : Interval → ℕ → Type 0
IsIn interval difference = (interval.low ≤ difference) × IsUpTo interval.high difference

-- no item stands twice
abbrev pub HasNoRepeats : {X : Type 0} → List X → Type 0
HasNoRepeats [] = Unit {0}
HasNoRepeats (x ∷ xs) = (Contains xs x → ⊥) × HasNoRepeats xs

-- x was taken out of a list without repeats, and the rest keeps its order
pub record TakesOut {X : Type 0} (x : X) (before after : List X) : Type 0 where
  pub front : List X
  pub back : List X
  pub was : before ≡ front ++ x ∷ back
  pub is : after ≡ front ++ back
