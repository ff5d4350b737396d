use Rattle.valuations.proofs.Vocabulary.{sym, ◌∙◌, zip_end}
use Rattle.valuations.proofs.ArgumentLemmas.{cell_end}
use Rattle.valuations.proofs.frame.cell_of.Goals as goal

pub returns : goal.returns
returns c =
    let all = zip_end c.args.columns.now c.args.row.now c.loop-column.yielded c.into_iter-column-iterator.result c.loop-column.column-iterator c.next.new.self c.next.result (cc) (cc)
    c.loop-column.yielded_by c.in-None.is c.next.ensures.steps in
    sym (c.loop-column.invariant ∙ cell_end c.args.columns.now c.args.row.now c.args.variable _ all)
