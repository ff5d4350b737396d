-- Refusals by their places: the places of points rise, so that the first has the least place.
use Rattle.std.specs.List.{AllByRecursion}
use Rattle.std.specs.Prelude.{ℕ, ◌<◌, List, [], ◌∷◌, ◌≡◌, ◌⊎◌, Some, ◌≤◌}
use Rattle.signature.specs.declared.entries.NameEntry.{NameEntry}
use Rattle.policy_syntax.specs.meaning.Trees.{PolicyRule}
use Rattle.formula_reader.specs.declared.policies.PolicyRefusal.{PolicyRefusal}
use Rattle.formula_reader.specs.declared.policies.PolicyRefusal.TheVariants.{Syntax, UnknownName, Arity, SortClash}
use Rattle.formula_reader.specs.declared.policies.PolicyRefusal.TheVariants.{FreeVariable, Rebound, Limit, NoMemory}
use Rattle.formula_reader.specs.meaning.Resolution.{Point, EventName, Binder, Use, points}
use Rattle.formula_reader.specs.meaning.SortRefusals.{known_after, point_refusal}

-- the place of a point
abbrev pub place_of_point : Point → ℕ
place_of_point (EventName place name terms) = place
place_of_point (Binder place taken) = place
place_of_point (Use place term wanted) = place

-- the place of a refusal
abbrev pub refusal_place : PolicyRefusal → ℕ
refusal_place (Syntax place) = place
refusal_place (UnknownName place) = place
refusal_place (Arity place) = place
refusal_place (SortClash place) = place
refusal_place (FreeVariable place) = place
refusal_place (Rebound place) = place
refusal_place (Limit place) = place
refusal_place NoMemory = 0

-- the place of each point is above that of the point before
abbrev pub PlacesRise : List Point → Type 0
PlacesRise [] = Unit {0}
PlacesRise (point ∷ rest) = AllByRecursion (λ p. place_of_point point < place_of_point p) rest × PlacesRise rest

-- the refusal stands at one of the points, after others of which the latest stands first
abbrev pub RefusalStands : List NameEntry → (before : List Point) → List Point → PolicyRefusal → Type 0
RefusalStands entries before [] refusal = ⊥
RefusalStands entries before (point ∷ rest) refusal =
    (point_refusal entries (known_after before) point ≡ Some refusal)
    ⊎ RefusalStands entries (point ∷ before) rest refusal

-- the refusal stands, and none stands at a lower place
pub record IsLeastRefusal (entries : List NameEntry) (points : List Point) (refusal : PolicyRefusal) : Type 0 where
  pub stands : RefusalStands entries [] points refusal
  pub least : (other : PolicyRefusal) → RefusalStands entries [] points other
      → refusal_place refusal ≤ refusal_place other

-- the refusal stands at a point of one of the rules
abbrev pub StandsInRules : List NameEntry → List PolicyRule → PolicyRefusal → Type 0
StandsInRules entries [] refusal = ⊥
StandsInRules entries (rule ∷ rules) refusal =
    RefusalStands entries [] (points entries [] [] rule.formula) refusal ⊎ StandsInRules entries rules refusal

-- the refusal stands at a point of one of the rules, and no refusal stands there at a lower place
pub record IsLeastInRules (entries : List NameEntry) (rules : List PolicyRule) (refusal : PolicyRefusal) : Type 0 where
  pub stands : StandsInRules entries rules refusal
  pub least : (other : PolicyRefusal) → StandsInRules entries rules other
      → refusal_place refusal ≤ refusal_place other
