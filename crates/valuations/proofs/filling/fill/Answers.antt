use Rattle.valuations.proofs.Vocabulary.{sym, ◌∙◌, zip_end}
use Rattle.valuations.proofs.FrameLemmas.{filled_end}
use Rattle.valuations.proofs.filling.fill.Goals as goal

pub returns : goal.returns
returns c =
    let all = zip_end c.args.columns.now c.args.row.now c.loop-column.yielded c.into_iter-column-iterator.result c.loop-column.column-iterator c.next.new.self c.next.result (cc) (cc)
    c.loop-column.yielded_by c.in-None.is c.next.ensures.steps in
    sym (c.loop-column.invariant ∙ filled_end c.loop-column.filling c.args.columns.now c.args.row.now _ all)
