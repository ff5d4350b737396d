-- Patterns of events, and events that are of one.
use Rattle.enf_data.specs.declared.events.Event.{Event}
use Rattle.enf_data.specs.declared.values.Value.{Value}
use Rattle.std.specs.List.{AllByRecursion}
use Rattle.std.specs.Prelude.{◌≡◌, Option, None, Some, List, [], ◌∷◌, Contains}
use Rattle.sleepers.specs.declared.patterns.Pattern.{Pattern}

abbrev pub FitsArg : Option Value → Value → Type 0
FitsArg None value = Unit {0}
FitsArg (Some fixed) value = value ≡ fixed

abbrev pub FitArgs : List (Option Value) → List Value → Type 0
FitArgs [] [] = Unit {0}
FitArgs [] (value ∷ values) = ⊥
FitArgs (arg ∷ args) [] = ⊥
FitArgs (arg ∷ args) (value ∷ values) = FitsArg arg value × FitArgs args values

-- the event has the name, and the arguments that are fixed
pub record MatchesPattern (pattern : Pattern) (event : Event) : Type 0 where
  pub name : event.name ≡ pattern.name
  pub args : FitArgs pattern.args event.args

-- no event is of the pattern
abbrev pub MatchesNone : Pattern → List Event → Type 0
MatchesNone pattern events = (event : Event) → Contains events event → MatchesPattern pattern event → ⊥

-- no event is of one of the patterns
abbrev pub HasNone : List Pattern → List Event → Type 0
HasNone patterns events = AllByRecursion (λ pattern. MatchesNone pattern events) patterns
