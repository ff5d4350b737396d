use Rattle.count_guard.proofs.Vocabulary.{sym, ◌∙◌}
use Rattle.std.specs.Option.{option_copied}
use Rattle.std.proofs.lemmas.Slice.Zip.{zip_end}
use Rattle.count_guard.proofs.GivenTerms.{last_end}
use Rattle.count_guard.proofs.substitution.last_in.Goals as goal

pub returns : goal.returns
returns c =
    let all = zip_end c.args.xs.now c.args.terms.now c.loop-x.yielded c.into_iter-x-iterator.result c.loop-x.x-iterator c.next.new.self c.next.result (cc) (cc)
    c.loop-x.yielded_by c.in-None.is c.next.ensures.steps in
    sym (c.loop-x.invariant ∙ last_end c.args.xs.now c.args.terms.now c.args.variable (option_copied c.loop-x.found) _ all)
