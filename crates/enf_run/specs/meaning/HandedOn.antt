-- What a run holds back of what it gave to the gate.
use Rattle.std.specs.Prelude.{◌≡◌, ◌⊎◌}
use Rattle.enf_io.specs.meaning.Exchange.{Stream}
use Rattle.enf_run.specs.declared.refusals.Status.{Status}
use Rattle.enf_run.specs.declared.refusals.Status.TheVariants as statuses

-- nothing was held back at any read of the gate, and nothing is at the end, unless a write failed
pub record IsHandedOn (failed : Type 0) (before after : Stream) : Type 0 where
  pub at_each_read : after.late_reads ≡ before.late_reads
  pub at_the_end : (after.held ≡ 0) ⊎ failed

-- so it is where nothing was held back before the call
abbrev pub HandsOnAll : (before after : Stream) → Status → Type 0
HandsOnAll before after result = before.held ≡ 0 → IsHandedOn (result ≡ statuses.WriteFault) before after
