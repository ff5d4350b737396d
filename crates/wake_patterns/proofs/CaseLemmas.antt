-- Patterns of one argument, in the worked cases.
use Rattle.wake_patterns.proofs.Vocabulary.{List, [], ◌∷◌, Option, Some, map, NameId, Value, Pattern}

abbrev pub of_names : List NameId → Option Value → Option (List Pattern)
of_names names argument = Some (map (λ (name : NameId). record { name = name; args = argument ∷ [] }) names)
