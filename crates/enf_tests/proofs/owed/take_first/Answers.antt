use Rattle.std.proofs.Common.{◌+◌, ◌-◌, ◌≤◌, arith, length}
use Rattle.trace_meaning.specs.meaning.Traces.{StepRecord}
use Rattle.enf_tests.proofs.owed.take_first.Goals as goal

pub returns-in-Ok : goal.returns-in-Ok
returns-in-Ok c =
    let t = c.in-Ok.ensures.takes in
    let few : length c.in-Ok.stepped.steps ≤ 1 + (9 - c.args.enforcer.now.clock) =
    c.takes_are_few.ensures c.args.enforcer.now (StepRecord (record { time = 9; events = c.args.events })) c.in-Ok.stepped c.step.new.self t in
    omega (
      arith,
      c.requires,
      t.goes_on.position,
      few,
    )
