use Rattle.formula_reader.proofs.Vocabulary.{◌++◌, ◌∷◌, [], on_err_from, part_first, part_behind, part_last, none_last, name_text, separated_text, term_text}
use Rattle.formula_reader.proofs.printing.Printer.print_atom.Goals as goal

pub returns-in_err-print_terms-clause-err : goal.returns-in_err-print_terms-clause-err
returns-in_err-print_terms-clause-err c =
    on_err_from _ (part_behind (name_text c.args.self.now.signature.now c.args.name) ((40 ∷ []) ++
    ((separated_text (term_text c.args.self.now.vars.now) (44 ∷ []) c.args.terms.now) ++ ((41 ∷ [])))) c.args.out.now.items c.print_name.new.out.items c.print_terms.new.out.items
    c.in_ok-print_name.ensures.ok (part_behind (40 ∷ []) ((separated_text (term_text c.args.self.now.vars.now) (44 ∷ []) c.args.terms.now) ++ ((41 ∷ [])))
    c.print_name.new.out.items c.print_bytes.new.out.items c.print_terms.new.out.items c.in_ok-print_bytes.ensures.ok
    (part_first ((separated_text (term_text c.args.self.now.vars.now) (44 ∷ []) c.args.terms.now)) (41 ∷ []) c.print_bytes.new.out.items c.print_terms.new.out.items
    c.in_err-print_terms.ensures.err)))

pub returns-clause-err : goal.returns-clause-err
returns-clause-err c =
    part_last c.print_bytes-2.result (name_text c.args.self.now.signature.now c.args.name)
    ((40 ∷ []) ++ ((separated_text (term_text c.args.self.now.vars.now) (44 ∷ []) c.args.terms.now) ++ ((41 ∷ [])))) c.args.out.now.items c.print_name.new.out.items
    c.print_bytes-2.new.out.items c.in_ok-print_name.ensures.ok (part_last c.print_bytes-2.result (40 ∷ [])
    ((separated_text (term_text c.args.self.now.vars.now) (44 ∷ []) c.args.terms.now) ++ ((41 ∷ []))) c.print_name.new.out.items c.print_bytes.new.out.items
    c.print_bytes-2.new.out.items c.in_ok-print_bytes.ensures.ok (part_last c.print_bytes-2.result ((separated_text (term_text c.args.self.now.vars.now) (44 ∷ []) c.args.terms.now))
    (41 ∷ []) c.print_bytes.new.out.items c.print_terms.new.out.items c.print_bytes-2.new.out.items c.in_ok-print_terms.ensures.ok
    (none_last c.print_bytes-2.result (41 ∷ []) c.print_terms.new.out.items c.print_bytes-2.new.out.items c.print_bytes-2.ensures.err)))
