-- Places, and lists in their order: what is begun at one goes on from it with a later beginning.
use Rattle.std.specs.Cmp.Lexicographic.{slice_cmp}
use Rattle.std.specs.List.{AllByRecursion}
use Rattle.std.specs.Ordering.{nat_cmp, ordering_then}
use Rattle.std.specs.Prelude.{ℕ, List, ◌≡◌, ◌<◌, ◌⊎◌, [], ◌∷◌, Contains, zero, suc, ◌++◌}
use Rattle.std.specs.Prelude.{Bool, cond}
use Rattle.std.specs.declared.cmp.Ordering.{Ordering}
use Rattle.sleepers.specs.declared.places.Beginning.{Beginning}

abbrev pub beginning_at : (number among : ℕ) → Beginning
beginning_at number among = record { number = number; among = among }

abbrev pub Place : Type 0
Place = List Beginning

abbrev pub BeginsBefore : Beginning → Beginning → Type 0
BeginsBefore s t = (s.number < t.number) ⊎ ((s.number ≡ t.number) × (s.among < t.among))

-- the order of places: by the first beginning that differs; a front stands before what goes on with it
abbrev pub IsPlaceBefore : Place → Place → Type 0
IsPlaceBefore p [] = ⊥
IsPlaceBefore [] (t ∷ q) = Unit {0}
IsPlaceBefore (s ∷ p) (t ∷ q) = BeginsBefore s t ⊎ ((s ≡ t) × IsPlaceBefore p q)

-- the order of beginnings, as a comparison
abbrev pub beginning_cmp : Beginning → Beginning → Ordering
beginning_cmp s t = ordering_then (nat_cmp s.number t.number) (nat_cmp s.among t.among)

abbrev pub place_cmp : Place → Place → Ordering
place_cmp p q = slice_cmp beginning_cmp p q

-- each stands before all that come later
abbrev pub ArePlacesInOrder : List Place → Type 0
ArePlacesInOrder [] = Unit {0}
ArePlacesInOrder (p ∷ ps) = ((q : Place) → Contains ps q → IsPlaceBefore p q) × ArePlacesInOrder ps

-- ---- what comes at a step

-- a place that was made before: its first beginning is below one number, and each later one above another
abbrev pub WasMade : (first later : ℕ) → Place → Type 0
WasMade first later [] = ⊥
WasMade first later (t ∷ place) = (t.number < first) × AllByRecursion (λ u. later < u.number) place

-- the places of so many that are begun at one beginning, counted from k on
abbrev pub places_from : Place → (number k count : ℕ) → List Place
places_from place number k zero = []
places_from place number k (suc count) = (place ++ beginning_at number k ∷ []) ∷ places_from place number (suc k)
    count

-- what becomes of an entry: whether it stays, and how many are begun for it
pub record PlaceChange : Type 0 where
  pub place : Place
  pub stays : Bool
  pub begun : ℕ

abbrev pub places_of : (later : ℕ) → PlaceChange → List Place
places_of later c = cond c.stays (c.place ∷ []) [] ++ places_from c.place later 0 c.begun

abbrev pub places_behind : (later : ℕ) → List PlaceChange → List Place
places_behind later [] = []
places_behind later (c ∷ changes) = places_of later c ++ places_behind later changes
