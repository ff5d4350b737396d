use Rattle.valuations.proofs.JoinLemmas.{joined_more}
use Rattle.valuations.proofs.Vocabulary.{shown_rows}
use Rattle.valuations.proofs.joining.joined_rows.Goals as goal

pub loop-row-preserved : goal.loop-row-preserved
loop-row-preserved c = joined_more c.args.left.now c.args.right.now c.args.rest.now c.args.rows.now (shown_rows c.args.order.now) c.loop-row.joined.items _ c.loop-row.row-index
    c.row-item.result (shown_rows c.partners.result.now) c.loop-row.invariant c.loop-row-test.true c.row-item.is c.partners.ensures c.in_ok-push_joined.ensures
