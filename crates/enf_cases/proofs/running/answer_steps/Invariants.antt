use Rattle.enf_cases.specs.machine.GuardRuns.{IsPastOfGuard, StandsUpTo}
use Rattle.enf_cases.proofs.running.answer_steps.Given as goal

abbrev pub invariant-loop : goal.invariant-loop
invariant-loop l = IsPastOfGuard l.run.guard.now l.running.state × StandsUpTo l.running.last l.running.state
