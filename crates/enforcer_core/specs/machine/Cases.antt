-- Small lists of what is pending, on which the definitions can be checked by eye.
use Rattle.enf_data.specs.meaning.Valuations.{no_values}
use Rattle.std.specs.Prelude.{ℕ}
use Rattle.obligations.specs.declared.instances.Instance.{Instance}

-- the node that each_soon begins is pending, until a time
abbrev pub due_by : ℕ → Instance
due_by high = record { rule = 0; node = 1; valuation = no_values; origin = 0; low = 0; high = high }
