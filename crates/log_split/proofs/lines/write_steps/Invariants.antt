use Rattle.std.proofs.Common.{◌≡◌, ◌++◌}
use Rattle.log_split.specs.machine.Splitting.{split_plan}
use Rattle.log_split.specs.meaning.Streams.{events_to, lines_below, tagged_step}
use Rattle.log_split.proofs.lines.write_steps.Given as goal

abbrev pub invariant-loop-stream : goal.invariant-loop-stream
invariant-loop-stream l = l.out.items ≡ l.fn.out.items ++ lines_below
    (λ stream. tagged_step (split_plan l.split) l.time stream (events_to (split_plan l.split) stream l.events)) l.stream
