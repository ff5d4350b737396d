use Rattle.std.proofs.Common.{ap, max, ◌∙◌}
use Rattle.stream_mux.specs.meaning.MergedStreams.{shown_time}
use Rattle.stream_mux.proofs.GreatestTimes.{greatest_more}
use Rattle.stream_mux.proofs.releasing.greatest_of.Goals as goal

pub loop-item-preserved : goal.loop-item-preserved
loop-item-preserved c =
    c.max-greatest.ensures ∙ ap (max c.loop-item.greatest) c.time_of.ensures
    ∙ ap (λ greatest. max greatest (shown_time c.item-item.result)) c.loop-item.invariant
    ∙ greatest_more c.args.greatest c.args.items.now c.loop-item.item-index c.item-item.result c.loop-item-test.true c.item-item.is
