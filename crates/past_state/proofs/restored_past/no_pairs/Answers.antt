use Rattle.past_state.proofs.RestoredRowLemmas.{lists_more}
use Rattle.past_state.proofs.restored_past.no_pairs.Goals as goal

pub loop-preserved : goal.loop-preserved
loop-preserved c = lists_more c.loop.counter c.loop.lists.items c.push.new.self.items c.new.result c.loop.invariant c.new.ensures.items c.in_ok-push.ensures.items
