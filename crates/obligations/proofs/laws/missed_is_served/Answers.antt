use Rattle.obligations.proofs.Vocabulary.{arith, obligation, last_position}
use Rattle.obligations.proofs.LawLemmas.{something_missed_is_lost}
use Rattle.obligations.proofs.PendingLeadLemmas.{pending_is_served}
use Rattle.obligations.proofs.LiteralLeadLemmas.{missed_is_served, served_at}
use Rattle.obligations.proofs.laws.missed_is_served.Goals as goal

pub returns-clause-begun : goal.returns-clause-begun
returns-clause-begun c plans rule trace clock plan v literals literal stands some missing there =
    served_at c.owed_stays_owed.ensures.leads trace clock (obligation plan v (last_position trace)) literal stands.back (omega (arith, some))
    (missed_is_served (something_missed_is_lost c.dependence.ensures.steps) plans rule trace some plan stands v literals literal missing there)

pub returns-clause-pending : goal.returns-clause-pending
returns-clause-pending c plans trace step clock pending i node forced literals literal stand is_trace pend none_over there named ends due misses at =
    pending_is_served (something_missed_is_lost c.dependence.ensures.steps) c.lost_stays_lost.ensures c.owed_stays_owed.ensures.owed c.owed_stays_owed.ensures.more
    c.nodes_have_scopes.ensures.found c.last_time_of_trace.ensures.at_the_end plans stand trace step is_trace.ordered i c.owed_stays_owed.ensures.leads
    clock pending node forced literals literal pend none_over there named ends due misses at
