-- What was printed of an event before memory ran out.
use Rattle.log_stream.proofs.Vocabulary.{List, slice_index_or, [], subst, AppendsPart, Value, on_err_from, entry_names as names_of, spelled_row}
use Rattle.log_stream.proofs.TextFronts.{part_at_paren, part_in_row}
use Rattle.log_stream.proofs.lines.print_event.Goals as goal

pub returns-in_err-print_byte-2-clause-err : goal.returns-in_err-print_byte-2-clause-err
returns-in_err-print_byte-2-clause-err c =
    on_err_from _ (part_at_paren (slice_index_or (names_of c.args.signature.now) c.args.event.now.name.0 []) (spelled_row c.args.event.now.args)
    c.args.out.now.items c.print_byte.new.out.items c.print_name.new.out.items c.print_byte-2.new.out.items
    c.in_ok-print_byte.ensures.ok c.in_ok-print_name.ensures.ok c.in_err-print_byte-2.ensures.err)

pub returns-in_err-print_row-clause-err : goal.returns-in_err-print_row-clause-err
returns-in_err-print_row-clause-err c =
    on_err_from _ (part_in_row (slice_index_or (names_of c.args.signature.now) c.args.event.now.name.0 []) (spelled_row c.args.event.now.args)
    c.args.out.now.items c.print_byte.new.out.items c.print_name.new.out.items c.print_byte-2.new.out.items c.print_row.new.out.items
    c.in_ok-print_byte.ensures.ok c.in_ok-print_name.ensures.ok c.in_ok-print_byte-2.ensures.ok
    (subst (λ (row : List Value). AppendsPart (spelled_row row) c.print_byte-2.new.out.items c.print_row.new.out.items) c.as_slice.ensures c.in_err-print_row.ensures.err))
