use Rattle.std.proofs.Common.{ap, set, ◌∙◌}
use Rattle.stream_mux.proofs.MuxStands.{first_mark, marks_filled}
use Rattle.stream_mux.proofs.mux.Mux.new.Goals as goal

pub loop-stream-preserved : goal.loop-stream-preserved
loop-stream-preserved c =
    c.set_time.ensures ∙ ap (λ marks. set marks c.loop-stream.stream first_mark) c.loop-stream.invariant
    ∙ marks_filled c.args.streams c.loop-stream.stream c.loop-stream-test.true
