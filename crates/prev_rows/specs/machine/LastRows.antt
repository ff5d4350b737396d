-- What is kept of the last step for `prev`, as the slot that it stands for.
use Rattle.windows.specs.machine.Slots.{Slot}
use Rattle.prev_rows.specs.declared.last_rows.Kept.{Kept}
use Rattle.prev_rows.specs.declared.last_rows.Kept.TheVariants.{Told, Grown}

abbrev pub kept_slot : Kept → Slot
kept_slot (Told slot) = slot
kept_slot (Grown slot) = slot
