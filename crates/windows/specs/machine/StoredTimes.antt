-- How the times of a row are stored: none, one by itself, or more of them behind one another.
use Rattle.std.specs.Prelude.{ℕ, List, [], ◌∷◌}
use Rattle.windows.specs.declared.times.Stored.{Stored}
use Rattle.windows.specs.declared.times.Stored.TheVariants.{Empty, One, Several}

abbrev pub stored_times : Stored → List ℕ
stored_times Empty = []
stored_times (One time) = time ∷ []
stored_times (Several times) = times.value.items
