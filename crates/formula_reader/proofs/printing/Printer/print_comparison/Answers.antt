use Rattle.formula_reader.proofs.Vocabulary.{◌++◌, on_err_from, part_first, part_last, term_text}
use Rattle.formula_reader.proofs.printing.Printer.print_comparison.Goals as goal

pub returns-in_err-print_term-clause-err : goal.returns-in_err-print_term-clause-err
returns-in_err-print_term-clause-err c =
    on_err_from _ (part_first (term_text c.args.self.now.vars.now c.args.left.now) (c.args.sign.now ++ ((term_text c.args.self.now.vars.now c.args.right.now))) c.args.out.now.items
    c.print_term.new.out.items c.in_err-print_term.ensures.err)

pub returns-clause-err : goal.returns-clause-err
returns-clause-err c =
    part_last c.print_term-2.result (term_text c.args.self.now.vars.now c.args.left.now) (c.args.sign.now ++ ((term_text c.args.self.now.vars.now c.args.right.now))) c.args.out.now.items
    c.print_term.new.out.items c.print_term-2.new.out.items c.in_ok-print_term.ensures.ok
    (part_last c.print_term-2.result c.args.sign.now (term_text c.args.self.now.vars.now c.args.right.now) c.print_term.new.out.items c.print_bytes.new.out.items
    c.print_term-2.new.out.items c.in_ok-print_bytes.ensures.ok c.print_term-2.ensures.err)
