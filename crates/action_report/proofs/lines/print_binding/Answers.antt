-- What was printed before memory ran out.
use Rattle.action_report.proofs.Vocabulary.{codes, ap, ◌∙◌, ◌++◌, List, ℕ, on_err_from, part_behind, part_last, part_none, variable_text}
use Rattle.action_report.proofs.lines.print_binding.Goals as goal

pub returns-in_err-print_bytes-clause-err : goal.returns-in_err-print_bytes-clause-err
returns-in_err-print_bytes-clause-err c =
    on_err_from _ (part_behind (codes " ") _ _ _ _ c.in_ok-print_byte.ensures.ok (part_none _ _ _ c.in_err-print_bytes.ensures.err))

pub returns-in_err-print_byte-2-clause-err : goal.returns-in_err-print_byte-2-clause-err
returns-in_err-print_byte-2-clause-err c =
    on_err_from _ (part_behind (codes " ") _ _ _ _ c.in_ok-print_byte.ensures.ok (part_behind (variable_text c.args.vars.now c.args.variable) _ _ _ _
    (c.in_ok-print_bytes.ensures.ok ∙ ap (λ (t : List ℕ). c.print_byte.new.out.items ++ t) c.variable_name.ensures) (part_none _ _ _ c.in_err-print_byte-2.ensures.err)))

pub returns-clause-err : goal.returns-clause-err
returns-clause-err c =
    part_last _ (codes " ") _ _ _ _ c.in_ok-print_byte.ensures.ok (part_last _ (variable_text c.args.vars.now c.args.variable) _ _ _ _
    (c.in_ok-print_bytes.ensures.ok ∙ ap (λ (t : List ℕ). c.print_byte.new.out.items ++ t) c.variable_name.ensures)
    (part_last _ (codes "=") _ _ _ _ c.in_ok-print_byte-2.ensures.ok c.print_value.ensures.err))
