use Rattle.valuations.proofs.Vocabulary.{sym, ◌∙◌, option_copied, zip_end}
use Rattle.valuations.proofs.ComparisonLemmas.{used_up}
use Rattle.valuations.proofs.comparing.is_as_bound.Goals as goal

pub returns : goal.returns
returns c =
    let all = zip_end c.args.bounds.now c.args.row.now c.loop-bound.yielded c.into_iter-bound-iterator.result c.loop-bound.bound-iterator c.next.new.self c.next.result (cc) (cc)
    c.loop-bound.yielded_by c.in-None.is c.next.ensures.steps in
    sym (c.loop-bound.invariant ∙ used_up option_copied c.args.bounds.now c.args.row.now _ all)
