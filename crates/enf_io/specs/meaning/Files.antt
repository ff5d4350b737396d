-- All that is seen of files: contents by name, and counts of faults.
use Rattle.std.specs.Cmp.Lexicographic.{pointwise}
use Rattle.std.specs.Prelude.{ℕ, List, ◌==◌, if◌then◌else◌, ◌+◌, ◌-◌, ◌^◌, min, max, Bool, Option}

-- a name has no file, or one with these bytes
pub data Contents : Type 0 where
  NoFile : Contents
  FileBytes : (bytes : List ℕ) → Contents

-- the files after one of them has these contents
abbrev pub with_contents : List ℕ → Contents → (List ℕ → Contents) → List ℕ → Contents
with_contents name contents files other = if pointwise ◌==◌ name other then contents else files other

-- one more, where the count is not at its last value
abbrev pub one_more : ℕ → ℕ
one_more count = max count (min (count + 1) (2 ^ 64 - 1))

-- the contents by name, if they are told, whether only a missing file fails to be read, and the counts by name
pub record FileView : Type 0 where
  pub contents : Option (List ℕ → Contents)
  pub is_calm : Bool
  pub read_faults : List ℕ → ℕ
  pub write_faults : List ℕ → ℕ
