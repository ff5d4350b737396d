use Rattle.formula_reader.proofs.Vocabulary.{◌++◌, ◌∷◌, [], decimal, on_err_from, part_none, part_behind, end_text}
use Rattle.formula_reader.proofs.printing.print_interval.Goals as goal

pub returns-in_err-print_end-clause-err : goal.returns-in_err-print_end-clause-err
returns-in_err-print_end-clause-err c =
    on_err_from _ (part_behind (91 ∷ []) ((decimal c.args.interval.now.low) ++ ((44 ∷ []) ++ ((end_text c.args.interval.now.high) ++ ((93 ∷ []))))) c.args.out.now.items
    c.print_bytes.new.out.items c.print_end.new.out.items c.in_ok-print_bytes.ensures.ok
    (part_behind (decimal c.args.interval.now.low) ((44 ∷ []) ++ ((end_text c.args.interval.now.high) ++ ((93 ∷ [])))) c.print_bytes.new.out.items c.print_number.new.out.items
    c.print_end.new.out.items c.in_ok-print_number.ensures.ok (part_behind (44 ∷ []) ((end_text c.args.interval.now.high) ++ ((93 ∷ []))) c.print_number.new.out.items
    c.print_bytes-2.new.out.items c.print_end.new.out.items c.in_ok-print_bytes-2.ensures.ok
    (part_none ((end_text c.args.interval.now.high) ++ ((93 ∷ []))) c.print_bytes-2.new.out.items c.print_end.new.out.items c.in_err-print_end.ensures.err))))
