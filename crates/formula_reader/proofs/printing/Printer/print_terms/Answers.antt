use Rattle.formula_reader.proofs.Vocabulary.{◌-◌, ◌∷◌, [], drop, length, take, ◌+◌, on_err_from, drop_at_item, term_text}
use Rattle.formula_reader.proofs.TextFronts.{first_part, separator_part, item_part}
use Rattle.formula_reader.proofs.printing.Printer.print_terms.Goals as goal

pub returns-in_err-print_term-clause-err : goal.returns-in_err-print_term-clause-err
returns-in_err-print_term-clause-err c =
    on_err_from _ (first_part (term_text c.args.self.now.vars.now) (44 ∷ []) c.args.terms.now c.first-item.result c.first-item.result c.args.out.now.items c.print_term.new.out.items
    c.in-len1-up.len_at_least c.first-item.is c.in_err-print_term.ensures.err)

pub returns-in_err-print_bytes-clause-err : goal.returns-in_err-print_bytes-clause-err
returns-in_err-print_bytes-clause-err c =
    on_err_from _
    (separator_part (term_text c.args.self.now.vars.now) (44 ∷ []) c.args.terms.now c.first-item.result c.first-item.result c.loop-term.term-index c.args.out.now.items
    c.print_term.new.out.items c.loop-term.out.items c.print_bytes.new.out.items
    c.in-len1-up.len_at_least c.first-item.is c.in_ok-print_term.ensures.ok c.loop-term.invariant c.in_err-print_bytes.ensures.err)

pub returns-in_err-print_term-2-clause-err : goal.returns-in_err-print_term-2-clause-err
returns-in_err-print_term-2-clause-err c =
    on_err_from _
    (item_part (term_text c.args.self.now.vars.now) (44 ∷ []) c.args.terms.now c.first-item.result c.first-item.result c.loop-term.term-index c.term-item.result
    (drop (c.loop-term.term-index + 1) (take (length c.args.terms.now - 1) (drop 1 c.args.terms.now)))
    c.args.out.now.items c.print_term.new.out.items c.loop-term.out.items c.print_bytes.new.out.items c.print_term-in-loop-term.new.out.items
    c.in-len1-up.len_at_least c.first-item.is c.in_ok-print_term.ensures.ok c.loop-term.invariant c.in_ok-print_bytes.ensures.ok
    (drop_at_item (take (length c.args.terms.now - 1) (drop 1 c.args.terms.now)) c.loop-term.term-index c.term-item.result c.loop-term-test.true c.term-item.is)
    c.in_err-print_term-2.ensures.err)
