-- Where nodes lie, before and after a change.
use Rattle.std.specs.Prelude.{◌≡◌, ℕ, List, ◌<◌, ◌-◌}
use Rattle.std_collections.specs.LinkedList.Links.{Link, place_of}
use denote.RawPtr.{Ptr}

-- the first n nodes lie where they lay
abbrev pub KeepsPlaces : ℕ → List Link → List Link → Type 0
KeepsPlaces n old new = (i : ℕ) → i < n → place_of new i ≡ place_of old i

-- the last of the first n nodes lies at p
abbrev pub IsLastOf : ℕ → List Link → Ptr → Type 0
IsLastOf n links p = 0 < n → p ≡ place_of links (n - 1)
