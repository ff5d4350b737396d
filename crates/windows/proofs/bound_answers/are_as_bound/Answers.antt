use Rattle.windows.proofs.Vocabulary.{sym, ◌∙◌, zip_end, value_at}
use Rattle.windows.proofs.BoundAnswerLemmas.{used_up}
use Rattle.windows.proofs.bound_answers.are_as_bound.Goals as goal

pub returns : goal.returns
returns g c =
    let all = zip_end c.args.columns.now c.args.row.now c.loop-column.yielded c.into_iter-column-iterator.result c.loop-column.column-iterator c.next.new.self c.next.result (cc) (cc)
    c.loop-column.yielded_by c.in-None.is c.next.ensures.steps in
    sym (c.loop-column.invariant ∙ used_up (value_at (g.V.Lookup.valuation c.args.v.now)) c.args.columns.now c.args.row.now _ all)
