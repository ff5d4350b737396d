-- The line is whole once the events are.
use Rattle.std.proofs.Common.{ap, arith, ◌∙◌}
use Rattle.log_split.proofs.StreamLemmas.{IsNextEvent, line_more, line_same, whole_line}
use Rattle.log_split.specs.machine.Splitting.{split_plan}
use Rattle.log_split.proofs.lines.write_step_to.Goals as goal
use Rattle.log_split.proofs.lines.write_step_to.Goals.{then-goes+in_ok-print_event, else-goes}

pub returns : goal.returns
returns c =
    whole_line (split_plan c.args.split.now) c.args.time c.args.stream c.loop-place.place c.args.events.now c.args.own.now
    c.args.out.now.items c.loop-place.out.items _ c.loop-place.invariant (omega (arith, c.loop-place-test.false))
    c.in_ok-print_bytes.ensures.ok c.requires.own c.requires.some

pub loop-place-preserved : goal.loop-place-preserved
loop-place-preserved c =
    let plan = split_plan c.args.split.now in
    let place = c.loop-place.place in
    let event = c.index-events-place.result in
    let next : IsNextEvent plan c.args.stream place c.args.events.now c.args.own.now event c.goes.result = record {
      of_events = c.requires.own;
      within = omega (arith, c.loop-place-test.true);
      at = c.index-events-place.is;
      goes_is = c.goes.ensures;
    } in
    elim c.if-goes.branch [
      | then-goes+in_ok-print_event w ↦ line_more plan c.args.time c.args.stream place c.args.events.now c.args.own.now event
          c.goes.result next c.args.out.now.items c.loop-place.out.items _ w.if-goes.true c.loop-place.invariant
          (ap (λ out. out.items) w.out-is ∙ w.in_ok-print_event.ensures.ok)
      | else-goes w ↦ line_same plan c.args.time c.args.stream place c.args.events.now c.args.own.now event
          c.goes.result next c.args.out.now.items c.loop-place.out.items _ w.if-goes.false c.loop-place.invariant
          (ap (λ out. out.items) w.out-is)
    ]
