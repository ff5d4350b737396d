use Rattle.trace_audit.proofs.Vocabulary.{◌≡◌, ◌<◌, IsTrue, List, get_or, length, sym, subst, Means, Link}
use Rattle.std.proofs.Common.{◌↔◌}
use Rattle.trace_audit.proofs.ResidualLemmas.{both_ways, chain_means, link_more}
use Rattle.trace_audit.proofs.residuals.+meeting.Goals as goal

pub is_met_at_end-returns-in-Chain : goal.is_met_at_end-returns-in-Chain
is_met_at_end-returns-in-Chain t c = λ trace.
    subst (λ r. IsTrue c.is_chain_met.result ↔ Means trace (length trace) r) (sym c.in-Chain.is)
    (let m = chain_means trace (length trace) c.in-Chain.links in both_ways _ _ _ (c.is_chain_met.ensures trace) (m.1, m.0))

pub is_chain_met-loop-link-preserved : goal.is_chain_met-loop-link-preserved
is_chain_met-loop-link-preserved t c = λ trace.
    let links = c.args.links.now.items in
    let all : c.deref-link-items.result.now ≡ links = c.deref-link-items.ensures.value in
    let one = c.link-item.result in
    link_more trace (length trace) c.loop-link.met links c.loop-link.link-index one
    (subst (λ (l : List Link). c.loop-link.link-index < length l) all c.loop-link-test.true)
    (subst (λ (l : List Link). one ≡ get_or l c.loop-link.link-index one) all c.link-item.is)
    (c.loop-link.invariant trace) c.is_link_met-met.result (c.is_link_met-met.ensures trace)
