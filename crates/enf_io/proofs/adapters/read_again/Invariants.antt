use Rattle.std.specs.Prelude.{⊤}
use Rattle.enf_io.proofs.Interruptions.{InterruptedSoFar}
use Rattle.enf_io.proofs.adapters.read_again.Given as goal

abbrev pub invariant-loop-count : goal.invariant-loop-count
invariant-loop-count g l = InterruptedSoFar (λ left. ⊤) g.I.ReadOnce.read_gives (g.I.ReadOnce.left l.fn.input) (g.I.ReadOnce.left l.input) l.fn.input l.input l._count
