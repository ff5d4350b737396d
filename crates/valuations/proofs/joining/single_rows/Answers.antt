use Rattle.valuations.proofs.Vocabulary.{◌++◌, ◌∷◌, [], ap, sym, ◌∙◌, shown_rows}
use Rattle.valuations.proofs.JoinLemmas.{single_pushed, single_passed}
use Rattle.valuations.proofs.joining.single_rows.Goals.{then-is_empty+in_ok-duplicate+in_ok-push, else-is_empty}
use Rattle.valuations.proofs.joining.single_rows.Goals as goal

pub loop-row-preserved : goal.loop-row-preserved
loop-row-preserved c =
    let pushed = single_pushed c.args.left.now c.args.right.now c.args.rows.now (shown_rows c.args.order.now) c.loop-row.single.items c.if-is_empty.single.items c.loop-row.row-index
    c.row-item.result c.partners.result.now c.loop-row.invariant c.loop-row-test.true c.row-item.is c.partners.ensures in
    let passed = single_passed c.args.left.now c.args.right.now c.args.rows.now (shown_rows c.args.order.now) c.loop-row.single.items c.if-is_empty.single.items c.loop-row.row-index
    c.row-item.result c.partners.result.now c.loop-row.invariant c.loop-row-test.true c.row-item.is c.partners.ensures in
    elim c.if-is_empty.branch [
      | then-is_empty+in_ok-duplicate+in_ok-push w ↦ pushed (sym c.is_empty.ensures ∙ w.if-is_empty.true)
          (ap (λ v. v.items) w.single-is ∙ w.in_ok-push.ensures.items ∙ ap (λ r. c.loop-row.single.items ++ r ∷ []) w.in_ok-duplicate.ensures)
      | else-is_empty w ↦ passed (sym c.is_empty.ensures ∙ w.if-is_empty.false) (ap (λ v. v.items) w.single-is)
    ]
