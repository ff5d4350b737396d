use Rattle.obligations.proofs.Vocabulary.{sym, ◌∙◌, bound_in}
use Rattle.obligations.proofs.LeafLemmas.{are_values, has_values}
use Rattle.obligations.proofs.leaves.has_arguments.Goals as goal

pub returns : goal.returns
returns c = (
  λ equal. has_values (bound_in c.args.v.now) c.args.terms.now c.as_slice.result.now c.args.event.now.args c.as_slice.ensures c.compare_to_terms.result c.compare_to_terms.ensures
      (sym c.is_eq.ensures ∙ equal),
  λ it. c.is_eq.ensures ∙ are_values (bound_in c.args.v.now) c.args.terms.now c.as_slice.result.now c.args.event.now.args c.as_slice.ensures c.compare_to_terms.result c.compare_to_terms.ensures it,
)
