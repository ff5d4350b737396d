use Rattle.trace_audit.proofs.Vocabulary.{IsTrue, List, length, take, Step, LinksMean}
use Rattle.std.proofs.Common.{◌↔◌}
use Rattle.trace_audit.proofs.residuals.+meeting.Given as goal

abbrev pub invariant-is_chain_met-loop-link : goal.invariant-is_chain_met-loop-link
invariant-is_chain_met-loop-link l =
    (trace : List Step) → IsTrue l.met ↔ LinksMean trace (length trace) (Unit {0}) (take l.link-index l.links.items)
