-- The line of one stream more.
use Rattle.std.proofs.Common.{ap, List, ℕ, ◌∙◌}
use Rattle.log_split.proofs.StreamLemmas.{more_lines, no_line, no_more_lines}
use Rattle.log_split.specs.machine.Splitting.{split_plan}
use Rattle.log_split.specs.meaning.Streams.{events_to, tagged_step}
use Rattle.log_split.proofs.lines.write_steps.Goals as goal
use Rattle.log_split.proofs.lines.write_steps.Goals.{then-goes_some+in_ok-write_step_to, else-goes_some}

pub loop-stream-preserved : goal.loop-stream-preserved
loop-stream-preserved c =
    let plan = split_plan c.args.split.now in
    let line : ℕ → List ℕ = λ stream. tagged_step plan c.args.time stream (events_to plan stream c.args.events.now) in
    let before = c.loop-stream.out.items in
    elim c.if-goes_some.branch [
      | then-goes_some+in_ok-write_step_to w ↦ more_lines line c.loop-stream.stream c.args.out.now.items before _
          c.loop-stream.invariant (ap (λ out. out.items) w.out-is ∙ w.in_ok-write_step_to.ensures)
      | else-goes_some w ↦ no_more_lines line c.loop-stream.stream c.args.out.now.items before _ c.loop-stream.invariant
          (ap (λ out. out.items) w.out-is)
          (no_line plan c.args.time c.loop-stream.stream c.args.events.now c.args.own.now c.requires
          (c.goes_some.ensures.none w.if-goes_some.false))
    ]
