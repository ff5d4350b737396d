use Rattle.std.proofs.Common.{◌+◌, ◌-◌, ◌≤◌, arith, length}
use Rattle.trace_meaning.specs.meaning.Traces.{Tick}
use Rattle.enf_tests.proofs.owed.pass_deadline.Goals as goal

pub returns-in-Ok : goal.returns-in-Ok
returns-in-Ok c =
    let t = c.in-Ok.ensures.takes in
    let few : length c.in-Ok.passed.steps ≤ 0 + (40 - c.args.enforcer.now.clock) =
    c.takes_are_few.ensures c.args.enforcer.now (Tick 40) c.in-Ok.passed c.tick.new.self t in
    omega (
      arith,
      c.requires,
      t.goes_on.position,
      few,
    )
