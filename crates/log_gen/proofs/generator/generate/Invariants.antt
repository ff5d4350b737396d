use Rattle.std.proofs.Common.{◌≡◌, ◌++◌, ◌-◌, ◌≤◌}
use Rattle.log_gen.specs.meaning.GeneratedLogs.{generated_text}
use Rattle.log_gen.proofs.generator.generate.Given as goal

abbrev pub invariant-loop-log : goal.invariant-loop-log
invariant-loop-log l = record {
  start : l.log.start ≡ l.fn.start;
  steps : l.log.steps ≡ l.fn.steps;
  within : l.log.made ≤ l.fn.steps;
  appended : l.out.items ≡ l.fn.out.items ++ generated_text l.fn.start l.log.made;
}

abbrev pub decreases-loop-log : goal.decreases-loop-log
decreases-loop-log l = l.fn.steps - l.log.made
