use Rattle.obligations.proofs.Vocabulary.{◌∙◌, sym, subst, tree_of, AnswersOwn}
use Rattle.std.proofs.lemmas.Slice.Eq.{slice_eq-Decides}
use Rattle.obligations.proofs.MovedTests.{derived_term_eq-Decides, named_is}
use Rattle.obligations.proofs.moved_plans.+answers_own.Goals as goal

pub returns-then-other-name : goal.returns-then-other-name
returns-then-other-name t c = λ same.
    subst (λ f. AnswersOwn c.args.name c.args.terms.now (tree_of f)) (sym c.in-Atom.is) (
      named_is c.args.name c.in-Atom.other c.if-other-name.true,
      sym c.as_slice.ensures ∙ (slice_eq-Decides derived_term_eq-Decides c.as_slice.result.now c.args.terms.now c.eq.result c.eq.ensures).0 same,
    )
