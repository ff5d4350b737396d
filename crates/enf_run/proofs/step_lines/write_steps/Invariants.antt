use Rattle.enf_run.proofs.Vocabulary.{◌≡◌, take, acted_steps, policy_rules_of, GivesSteps, seen_of}
use Rattle.enf_run.proofs.step_lines.write_steps.Given as goal

abbrev pub invariant-loop-step : goal.invariant-loop-step
invariant-loop-step g l =
    let gate = g.G.Sink.seen in
    let report = g.R.Sink.seen in
    record {
      given : GivesSteps l.names.signature.now (policy_rules_of l.names.policy.now) (acted_steps (take l.step-index l.steps))
          (seen_of (gate l.fn.gate) (report l.fn.report)) (seen_of (gate l.gate) (report l.report));
      late : (gate l.gate).late_reads ≡ (gate l.fn.gate).late_reads;
    }
