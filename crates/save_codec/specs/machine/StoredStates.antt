-- Rows, instances and numbers as memory has them.
use Rattle.enf_data.specs.meaning.Valuations.{bindings}
use Rattle.enf_data.specs.meaning.Values.{IsValue}
use Rattle.std.specs.Prelude.{◌<◌, ◌^◌, All}
use Rattle.past_state.specs.declared.kept_rows.KeptRow.{KeptRow}
use Rattle.obligations.specs.declared.instances.Instance.{Instance}
use Rattle.save_codec.specs.declared.snapshots.Snapshot.{Snapshot}
use Rattle.save_codec.specs.meaning.SavedTexts.{IsSmallNumber, IsSmallTime}

-- a row and an instance in memory: numbers of 32 bits, and values of the program
abbrev pub IsStoredRow : KeptRow → Type 0
IsStoredRow r = (r.window < 2 ^ 32) × All IsValue r.row

abbrev pub IsStoredInstance : Instance → Type 0
IsStoredInstance i = (i.rule < 2 ^ 32) × (i.node < 2 ^ 32)
    × All (λ binding. IsValue binding.1) (bindings i.valuation)

-- the numbers that have 64 bits in memory are below 2^63, as the lines have them
pub record HasSmallNumbers (s : Snapshot) : Type 0 where
  pub clock : IsSmallNumber s.clock
  pub last : IsSmallTime s.last
  pub position : IsSmallNumber s.position
  pub times : All (λ r. IsSmallNumber r.time) s.kept
  pub windows : All (λ i. IsSmallNumber i.origin × IsSmallNumber i.low × IsSmallNumber i.high) s.pending
