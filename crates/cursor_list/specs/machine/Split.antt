-- A list that a cursor splits in two.
use Rattle.std.specs.Prelude.{List, ◌++◌}

-- the items in front of the cursor, and those after it
pub record Split (T : Type 0) : Type 0 where
  pub before : List T
  pub after : List T

module _ {T : Type 0} where
  -- all items, in order
  abbrev pub items : Split T → List T
  items split = split.before ++ split.after
