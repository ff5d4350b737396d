-- What was printed before memory ran out.
use Rattle.action_report.proofs.Vocabulary.{codes, on_err_from, part_first, part_last, labelled}
use Rattle.action_report.proofs.lines.print_when.Goals as goal

pub returns-in_err-print_labelled-clause-err : goal.returns-in_err-print_labelled-clause-err
returns-in_err-print_labelled-clause-err c =
    on_err_from _ (part_first (labelled (codes " at ") c.args.action.now.time) (labelled (codes " step ") c.args.action.now.position) _ _ c.in_err-print_labelled.ensures.err)

pub returns-clause-err : goal.returns-clause-err
returns-clause-err c =
    part_last _ (labelled (codes " at ") c.args.action.now.time) (labelled (codes " step ") c.args.action.now.position) _ _ _ c.in_ok-print_labelled.ensures.ok c.print_labelled-2.ensures.err
