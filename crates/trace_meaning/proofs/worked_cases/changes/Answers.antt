use Rattle.std.proofs.Common.{◌≤◌, [], arith, refl, lit<}
use Rattle.trace_meaning.specs.machine.Cases.{system_at}
use Rattle.trace_meaning.proofs.worked_cases.changes.Goals as goal

pub returns-clause-changed_twice : goal.returns-clause-changed_twice
returns-clause-changed_twice c lawful = (lawful.once 0 (system_at 0 [] []) (lit< tt)).0 (0, lit< tt, refl)

pub returns-clause-falling : goal.returns-clause-falling
returns-clause-falling c lawful =
    let falls : 3 ≤ 2 = lawful.in_order.0 0 (system_at 0 [] []) (lit< tt) in omega arith
