use Rattle.std.proofs.Common.{None, ap, arith, replicate, ◌≡◌, ◌∙◌}
use Rattle.stream_mux.proofs.QueueEdits.{fronts_of_empty}
use Rattle.stream_mux.proofs.waiting.Waiting.new.Goals as goal

pub invariant_of-result : goal.invariant_of-result
invariant_of-result c =
    let all : c.args.streams ≡ c.loop.counter = omega (arith, c.loop-test.false, c.loop.auto.counter-end) in
    c.in_ok-new.ensures ∙ ap (λ n. replicate n None) all
    ∙ fronts_of_empty c.loop.queues.items (λ queue. queue.items) c.loop.counter c.loop.invariant
