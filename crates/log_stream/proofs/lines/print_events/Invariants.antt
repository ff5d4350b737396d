use Rattle.log_stream.proofs.Vocabulary.{◌≡◌, ◌++◌, ◌∷◌, take, flat_map, spelled_event, entry_names as names_of}
use Rattle.log_stream.proofs.lines.print_events.Given as goal

abbrev pub invariant-loop-event : goal.invariant-loop-event
invariant-loop-event l =
    l.out.items ≡ l.fn.out.items ++ flat_map (λ event. 32 ∷ spelled_event (names_of l.signature) event) (take l.event-index l.events)
