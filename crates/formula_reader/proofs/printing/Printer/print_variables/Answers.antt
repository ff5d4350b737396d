use Rattle.formula_reader.proofs.Vocabulary.{◌-◌, ◌∷◌, [], drop, length, take, get_or, suc, refl, drop-cons, on_err_from, part_none, variable_text, variable_numbered}
use Rattle.formula_reader.proofs.TextFronts.{separator_part, item_part}
use Rattle.formula_reader.proofs.printing.Printer.print_variables.Goals as goal

pub returns-in_err-print_bytes-clause-err : goal.returns-in_err-print_bytes-clause-err
returns-in_err-print_bytes-clause-err c =
    on_err_from _
    (separator_part (variable_text c.args.self.now.vars.now) (44 ∷ 32 ∷ []) c.args.variables.now (get_or c.args.variables.now 0 (variable_numbered 0)) (variable_numbered 0)
    c.loop-variable.variable-index c.args.out.now.items c.print_variable.new.out.items c.loop-variable.out.items c.print_bytes.new.out.items
    c.in-len1-up.len_at_least refl c.in_ok-print_variable.ensures.ok c.loop-variable.invariant c.in_err-print_bytes.ensures.err)

pub returns-in_err-print_variable-2-clause-err : goal.returns-in_err-print_variable-2-clause-err
returns-in_err-print_variable-2-clause-err c =
    on_err_from _
    (item_part (variable_text c.args.self.now.vars.now) (44 ∷ 32 ∷ []) c.args.variables.now (get_or c.args.variables.now 0 (variable_numbered 0)) (variable_numbered 0)
    c.loop-variable.variable-index (get_or (take (length c.args.variables.now - 1) (drop 1 c.args.variables.now)) c.loop-variable.variable-index (variable_numbered 0))
    (drop (suc c.loop-variable.variable-index) (take (length c.args.variables.now - 1) (drop 1 c.args.variables.now)))
    c.args.out.now.items c.print_variable.new.out.items c.loop-variable.out.items c.print_bytes.new.out.items c.print_variable-in-loop-variable.new.out.items
    c.in-len1-up.len_at_least refl c.in_ok-print_variable.ensures.ok c.loop-variable.invariant c.in_ok-print_bytes.ensures.ok
    (drop-cons (take (length c.args.variables.now - 1) (drop 1 c.args.variables.now)) c.loop-variable.variable-index (variable_numbered 0) c.loop-variable-test.true)
    (part_none (variable_text c.args.self.now.vars.now (get_or (take (length c.args.variables.now - 1) (drop 1 c.args.variables.now)) c.loop-variable.variable-index (variable_numbered 0)))
    c.print_bytes.new.out.items c.print_variable-in-loop-variable.new.out.items c.in_err-print_variable-2.ensures.err))
