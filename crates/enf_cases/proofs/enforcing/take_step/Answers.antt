use Rattle.std.proofs.Common.{◌+◌, ◌-◌, ◌≤◌, arith, length}
use Rattle.trace_meaning.specs.meaning.Traces.{StepRecord}
use Rattle.enforcer_core.specs.machine.MadeSteps.{acted_steps}
use Rattle.enf_cases.proofs.EnforcingLemmas.{stays_standing}
use Rattle.enf_cases.proofs.enforcing.take_step.Goals as goal

pub returns-in-Ok-clause-further : goal.returns-in-Ok-clause-further
returns-in-Ok-clause-further c =
    let t = c.in-Ok.ensures.takes in
    let few : length c.in-Ok.made.steps ≤ 1 + (c.args.time - c.args.enforcer.now.clock) =
    c.takes_are_few.ensures c.args.enforcer.now (StepRecord (record { time = c.args.time; events = c.args.events })) c.in-Ok.made c.step.new.self t in
    record {
      steps = omega (arith, few, t.goes_on.position, t.goes_on.clock_is, t.in_time.not_over);
      in_time = omega (arith, t.goes_on.clock_is, c.if-time-gt-MOST_TIME.false);
    }

pub returns-in-Ok-clause-stands : goal.returns-in-Ok-clause-stands
returns-in-Ok-clause-stands c =
    stays_standing c.args.enforcer.now c.step.new.self c.args.time (length c.in-Ok.made.steps) (acted_steps c.in-Ok.made.steps)
    c.in-Ok.ensures.takes.goes_on c.in-Ok.ensures.takes.stands
