use Rattle.std.proofs.Common.{◌≡◌, ◌<◌, List, [], ◌∷◌, length, ap, arith, lit<}
use Rattle.enf_data.specs.declared.events.Event.{Event}
use Rattle.enf_formula.specs.machine.Cases.{event_p}
use Rattle.trace_meaning.specs.machine.Cases.{system_at}
use Rattle.trace_meaning.specs.meaning.Traces.{Cause}
use Rattle.trace_meaning.proofs.worked_cases.insertions.Goals as goal

pub returns-clause-system_at_the_same_time : goal.returns-clause-system_at_the_same_time
returns-clause-system_at_the_same_time c lawful =
    let later : 3 < 3 = lawful.in_order.0 0 (system_at 0 [] []) (lit< tt) in omega arith

pub returns-clause-with_a_suppress : goal.returns-clause-with_a_suppress
returns-clause-with_a_suppress c lawful = (lawful.inserted 0 (system_at 0 [] []) (lit< tt)).1 1 (Cause event_p) (lit< tt)

pub returns-clause-with_an_event_of_its_own : goal.returns-clause-with_an_event_of_its_own
returns-clause-with_an_event_of_its_own c lawful =
    let none : event_p ∷ [] ≡ [] = (lawful.inserted 0 (system_at 0 [] []) (lit< tt)).0 in
    let lengths : length (event_p ∷ []) ≡ 0 = ap (λ (es : List Event). length es) none in
    omega arith
