-- What was printed of the events before memory ran out.
use Rattle.log_stream.proofs.Vocabulary.{◌∷◌, on_err_from, part_of_items, entry_names as names_of, spelled_event}
use Rattle.log_stream.proofs.lines.print_events.Goals as goal

pub returns-in_err-print_event-clause-err : goal.returns-in_err-print_event-clause-err
returns-in_err-print_event-clause-err c =
    on_err_from _ (part_of_items (λ event. 32 ∷ spelled_event (names_of c.args.signature.now) event) c.args.events.now c.loop-event.event-index c.event-item.result
    _ _ _ c.loop-event-test.true c.event-item.is c.loop-event.invariant c.in_err-print_event.ensures.err)
