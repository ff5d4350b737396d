use Rattle.std.specs.Prelude.{◌≡◌}
use Rattle.enf_io.proofs.Interruptions.{InterruptedSoFar}
use Rattle.enf_io.proofs.adapters.write_again.Given as goal

abbrev pub invariant-loop-count : goal.invariant-loop-count
invariant-loop-count g l =
    InterruptedSoFar (λ given. given ≡ l.bytes) g.O.WriteOnce.write_gives (g.O.WriteOnce.held l.fn.output) (g.O.WriteOnce.held l.output) l.fn.output l.output l._count
