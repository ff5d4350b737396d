-- The keys of the program.
use Rattle.std.specs.List.{slice_index_or}
use Rattle.std.specs.Prelude.{ℕ, List, Option, None}
use Rattle.slices.specs.meaning.Slices.{Keying}

-- the key arguments of the names in turn; names behind them are shared
abbrev pub keying_of : List (Option ℕ) → Keying
keying_of columns name = slice_index_or columns name.0 None
