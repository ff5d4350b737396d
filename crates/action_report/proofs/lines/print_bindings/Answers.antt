-- What was printed of the bindings before memory ran out.
use Rattle.action_report.proofs.Vocabulary.{on_err_from, part_of_items, binding_text}
use Rattle.action_report.proofs.lines.print_bindings.Goals as goal

pub returns-in_err-print_binding-clause-err : goal.returns-in_err-print_binding-clause-err
returns-in_err-print_binding-clause-err c =
    on_err_from _ (part_of_items (binding_text c.args.vars.now) c.args.bindings.now c.loop-binding.binding-index c.binding-item.result
    _ _ _ c.loop-binding-test.true c.binding-item.is c.loop-binding.invariant c.in_err-print_binding.ensures.err)
