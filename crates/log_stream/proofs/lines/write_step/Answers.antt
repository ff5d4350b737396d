-- What was printed of a line before memory ran out.
use Rattle.log_stream.proofs.Vocabulary.{AppendsPart, Event, on_err_from, List, [], subst, ◌++◌, ◌∷◌, ap, ◌∙◌, decimal, flat_map, entry_names as names_of, spelled_event, mark_of}
use Rattle.log_stream.proofs.TextFronts.{part_in_line}
use Rattle.log_stream.proofs.lines.write_step.Goals as goal

pub returns-in_err-print_events-clause-err : goal.returns-in_err-print_events-clause-err
returns-in_err-print_events-clause-err c =
    on_err_from _ (part_in_line (mark_of c.args.kind) (decimal c.args.time) (flat_map (λ event. 32 ∷ spelled_event (names_of c.args.signature.now) event) c.args.events.now)
    c.args.out.now.items c.print_byte.new.out.items c.print_number.new.out.items c.print_events.new.out.items
    (c.in_ok-print_byte.ensures.ok ∙ ap (λ byte. c.args.out.now.items ++ byte ∷ []) c.mark.ensures) c.in_ok-print_number.ensures.ok
    (subst (λ (events : List Event). AppendsPart (flat_map (λ event. 32 ∷ spelled_event (names_of c.args.signature.now) event) events) c.print_number.new.out.items c.print_events.new.out.items)
    c.as_slice.ensures.events c.in_err-print_events.ensures.err))
