use Rattle.obligations.proofs.Vocabulary.{◌∙◌, sym, subst, plan_of, SuppressesWith}
use Rattle.std.proofs.lemmas.Slice.Eq.{slice_eq-Decides}
use Rattle.obligations.proofs.MovedTests.{derived_term_eq-Decides, named_is}
use Rattle.obligations.proofs.moved_plans.+suppresses_with.Goals as goal

pub returns-then-other-name : goal.returns-then-other-name
returns-then-other-name t c = λ same.
    subst (λ p. SuppressesWith c.args.name c.args.terms.now (plan_of p)) (sym c.in-Suppress.is) (
      named_is c.args.name c.in-Suppress.other c.if-other-name.true,
      sym c.as_slice.ensures ∙ (slice_eq-Decides derived_term_eq-Decides c.as_slice.result.now c.args.terms.now c.eq.result c.eq.ensures).0 same,
    )
