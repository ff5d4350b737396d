-- Numbers that a pattern has in common with each event that is of it.
use Rattle.enf_data.specs.declared.events.NameId.{NameId}
use Rattle.enf_data.specs.declared.values.Value.{Value}
use Rattle.enf_data.specs.declared.values.Value.TheVariants.{Num, Text}
use Rattle.std.specs.Hash.{HashWrites}
use Rattle.std.specs.List.{flat_map}
use Rattle.std.specs.Prelude.{Bool, List, Option, is_some, map, cond, [], ◌∷◌, None, Some, ℕ, fold}
use Rattle.sleepers.specs.declared.keys.Shape.{Shape}
use Rattle.sleepers.specs.declared.patterns.Pattern.{Pattern}
use Rattle.std.specs.Hash as fed
use Rattle.enf_data.specs.declared.seeds.Seed.{Seed}
use Rattle.enf_data.specs.machine.SeededHashes.{seeded_hasher, seeded_write}

-- which of the arguments are fixed
abbrev pub fixed_of : List (Option Value) → List Bool
fixed_of args = map is_some args

abbrev pub shape_of : Pattern → Shape
shape_of pattern = record { name = pattern.name; fixed = fixed_of pattern.args }

-- of the values those that are fixed
abbrev pub masked_values : List Bool → List Value → List (Option Value)
masked_values [] values = []
masked_values (is_fixed ∷ fixed) [] = []
masked_values (is_fixed ∷ fixed) (value ∷ values) = cond is_fixed (Some value) None ∷ masked_values fixed values

-- what is hashed of them
abbrev pub arg_writes : Option Value → HashWrites
arg_writes None = fed.u8 0
arg_writes (Some (Num number)) = fed.i64 number
arg_writes (Some (Text bytes)) = bytes ∷ []

abbrev pub args_writes : List (Option Value) → HashWrites
args_writes args = flat_map arg_writes args

unfoldable pub pattern_key : Seed → NameId → List (Option Value) → ℕ
pattern_key seed name args =
    (fold seeded_write (fold seeded_write (seeded_hasher seed) (fed.u32 name.0)) (args_writes args)).state
