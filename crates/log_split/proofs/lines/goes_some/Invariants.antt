use Rattle.std.proofs.Common.{◌≡◌, take, []}
use Rattle.std.specs.List.{filter}
use Rattle.log_split.specs.machine.Splitting.{goes_to}
use Rattle.log_split.proofs.lines.goes_some.Given as goal

abbrev pub invariant-loop-each : goal.invariant-loop-each
invariant-loop-each l = filter (goes_to l.stream) (take l.each-index l.own) ≡ []
