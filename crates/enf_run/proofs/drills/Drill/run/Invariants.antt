use Rattle.enf_run.proofs.Vocabulary.{◌≡◌, ◌-◌, ◌≤◌}
use Rattle.enf_run.proofs.DrillLemmas.{Runs}
use Rattle.enf_run.proofs.drills.Drill.run.Given as goal

abbrev pub invariant-loop-step : goal.invariant-loop-step
invariant-loop-step l = record {
  start : l.log.start ≡ l.fn.log.start;
  steps : l.log.steps ≡ l.fn.log.steps;
  within : l.log.made ≤ l.fn.log.steps;
  runs : Runs l.fn.log.start l.fn.self.enforcer l.log.made l.self;
}

abbrev pub decreases-loop-step : goal.decreases-loop-step
decreases-loop-step l = l.fn.log.steps - l.log.made
