use Rattle.rank_check.proofs.Vocabulary.{arith}
use Rattle.rank_check.proofs.ClosureLemmas.{closing_all, closing_more}
use Rattle.rank_check.proofs.chains.closure.Goals as goal

pub loop-number-preserved : goal.loop-number-preserved
loop-number-preserved c = closing_more c.args.edges.now c.loop-number.closed c.lead_through.new.edges (record { 0 = c.loop-number.number }) c.loop-number.invariant c.lead_through.ensures

pub returns : goal.returns
returns c = closing_all c.args.edges.now c.loop-number.closed c.loop-number.number (omega arith) c.loop-number.invariant
