use Rattle.rank_check.proofs.ClosureLemmas.{IsClosing}
use Rattle.rank_check.proofs.chains.closure.Given as goal

abbrev pub invariant-loop-number : goal.invariant-loop-number
invariant-loop-number l = IsClosing l.edges l.number l.closed
