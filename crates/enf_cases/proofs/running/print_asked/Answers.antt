use Rattle.std.proofs.Common.{subst}
use Rattle.enf_cases.specs.machine.GuardRuns.{CanAskQuestion}
use Rattle.enf_cases.proofs.RunningLemmas.{copy_closed}
use Rattle.enf_cases.proofs.running.print_asked.Goals as goal

pub print_held-requires-clause-test : goal.print_held-requires-clause-test
print_held-requires-clause-test c =
    let can = subst (CanAskQuestion c.args.run.now.guard.now) c.in-Holds.is c.requires.asked in
    copy_closed c.args.run.now.guard.now c.args.tables.now.guards c.requires.of can.0
