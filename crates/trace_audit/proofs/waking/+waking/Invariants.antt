use Rattle.trace_audit.proofs.Vocabulary.{take, LinksWait}
use Rattle.trace_audit.proofs.waking.+waking.Given as goal

abbrev pub invariant-wakes_of_chain-loop-link : goal.invariant-wakes_of_chain-loop-link
invariant-wakes_of_chain-loop-link l = LinksWait (take l.link-index l.links.items) l.wakes.patterns
