-- What was printed of a row before memory ran out.
use Rattle.log_stream.proofs.Vocabulary.{◌∷◌, spelled, on_err_from, part_of_items}
use Rattle.log_stream.proofs.TextFronts.{part_of_first, part_of_rest}
use Rattle.log_stream.proofs.lines.print_row.Goals as goal

pub returns-in_err-print_value-clause-err : goal.returns-in_err-print_value-clause-err
returns-in_err-print_value-clause-err c =
    on_err_from _ (part_of_first c.args.row.now c.first-item.result _ _ c.in-len1-up.len_at_least c.first-item.is c.in_err-print_value.ensures.err)

pub returns-in_err-print_next-clause-err : goal.returns-in_err-print_next-clause-err
returns-in_err-print_next-clause-err c =
    on_err_from _ (part_of_rest c.args.row.now c.first-item.result _ _ _ c.in-len1-up.len_at_least c.first-item.is c.in_ok-print_value.ensures.ok
    (part_of_items (λ next. 44 ∷ spelled next) _ c.loop-value.value-index c.value-item.result _ _ _ c.loop-value-test.true c.value-item.is c.loop-value.invariant c.in_err-print_next.ensures.err))
