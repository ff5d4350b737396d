use Rattle.std.proofs.Common.{◌≡◌, take, map}
use Rattle.log_split.specs.machine.Splitting.{own_stream, split_plan}
use Rattle.log_split.proofs.lines.find_streams.Given as goal

abbrev pub invariant-loop-event : goal.invariant-loop-event
invariant-loop-event l =
    l.own.items ≡ map (own_stream (split_plan l.split).keying l.split.streams) (take l.event-index l.events)
