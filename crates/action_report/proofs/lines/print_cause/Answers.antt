-- What was printed before memory ran out.
use Rattle.action_report.proofs.Vocabulary.{codes, ℕ, ◌++◌, ap, subst, ◌∙◌, AppendsPart, on_err_from, part_behind, part_first, part_last, part_none, labelled}
use Rattle.action_report.proofs.lines.print_cause.Goals as goal

pub returns-in_err-print_bytes-2-clause-err : goal.returns-in_err-print_bytes-2-clause-err
returns-in_err-print_bytes-2-clause-err c =
    on_err_from _ (part_behind (codes " rule ") _ _ _ _ c.in_ok-print_bytes.ensures.ok (part_none _ _ _ c.in_err-print_bytes-2.ensures.err))

pub returns-in_err-print_labelled-clause-err : goal.returns-in_err-print_labelled-clause-err
returns-in_err-print_labelled-clause-err c =
    on_err_from _ (part_behind (codes " rule ") _ _ _ _ c.in_ok-print_bytes.ensures.ok (part_behind c.args.name.now _ _ _ _ c.in_ok-print_bytes-2.ensures.ok
    (part_first (labelled (codes " node ") c.args.action.now.node) _ _ _
    (subst (λ (n : ℕ). AppendsPart (labelled (codes " node ") n) c.print_bytes-2.new.out.items c.print_labelled.new.out.items) c.from.ensures c.in_err-print_labelled.ensures.err))))

pub returns-in_err-print_labelled-2-clause-err : goal.returns-in_err-print_labelled-2-clause-err
returns-in_err-print_labelled-2-clause-err c =
    on_err_from _ (part_behind (codes " rule ") _ _ _ _ c.in_ok-print_bytes.ensures.ok (part_behind c.args.name.now _ _ _ _ c.in_ok-print_bytes-2.ensures.ok
    (part_behind (labelled (codes " node ") c.args.action.now.node) _ _ _ _
    (c.in_ok-print_labelled.ensures.ok ∙ ap (λ (n : ℕ). c.print_bytes-2.new.out.items ++ labelled (codes " node ") n) c.from.ensures)
    (part_first (labelled (codes " leaf ") c.args.action.now.leaf) _ _ _
    (subst (λ (n : ℕ). AppendsPart (labelled (codes " leaf ") n) c.print_labelled.new.out.items c.print_labelled-2.new.out.items) c.from-2.ensures c.in_err-print_labelled-2.ensures.err)))))

pub returns-clause-err : goal.returns-clause-err
returns-clause-err c =
    part_last _ (codes " rule ") _ _ _ _ c.in_ok-print_bytes.ensures.ok (part_last _ c.args.name.now _ _ _ _ c.in_ok-print_bytes-2.ensures.ok
    (part_last _ (labelled (codes " node ") c.args.action.now.node) _ _ _ _
    (c.in_ok-print_labelled.ensures.ok ∙ ap (λ (n : ℕ). c.print_bytes-2.new.out.items ++ labelled (codes " node ") n) c.from.ensures)
    (part_last _ (labelled (codes " leaf ") c.args.action.now.leaf) _ _ _ _
    (c.in_ok-print_labelled-2.ensures.ok ∙ ap (λ (n : ℕ). c.print_labelled.new.out.items ++ labelled (codes " leaf ") n) c.from-2.ensures) c.print_labelled-3.ensures.err)))
