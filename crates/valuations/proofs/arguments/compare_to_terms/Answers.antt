use Rattle.valuations.proofs.Vocabulary.{sym, ◌∙◌, zip_end, value_of_term}
use Rattle.valuations.proofs.LookupLemmas.{lengths_tell}
use Rattle.valuations.proofs.arguments.compare_to_terms.Goals as goal

pub returns : goal.returns
returns g c =
    let all = zip_end c.args.row.now c.args.terms.now c.loop-value.yielded c.into_iter-value-iterator.result c.loop-value.value-iterator c.next.new.self c.next.result (cc) (cc)
    c.loop-value.yielded_by c.in-None.is c.next.ensures.steps in
    c.cmp.ensures ∙ sym (c.loop-value.invariant ∙ lengths_tell (value_of_term (g.V.Lookup.valuation c.args.v.now)) c.args.row.now c.args.terms.now _ all)
