use Rattle.plan_terms.proofs.Vocabulary.{[], ◌∷◌, refl, variable_x, here, later, none_in_nil, Var, plan_terms_y}
use Rattle.std.specs.List.Sorted.{IsStrictlySortedBy}
use Rattle.plan_terms.proofs.CaseLemmas.{apart, known, known_second, only}
use Rattle.plan_terms.proofs.worked_cases.scopes.Goals as goal

pub returns-clause-scoped : goal.returns-clause-scoped
unfolding IsStrictlySortedBy
returns-clause-scoped c = (((tt, tt), known), (tt, (here variable_x [], tt)))

pub returns-clause-scoped_twice : goal.returns-clause-scoped_twice
unfolding IsStrictlySortedBy
returns-clause-scoped_twice c = (
  ((tt, tt), known),
  (
    (((refl, tt), (tt, tt)), known_second),
    (here variable_x (plan_terms_y ∷ []), (later plan_terms_y variable_x (plan_terms_y ∷ []) (here plan_terms_y []), tt)),
  ),
)

pub returns-clause-not_in_scope : goal.returns-clause-not_in_scope
returns-clause-not_in_scope c = λ scoped. none_in_nil variable_x scoped.1.0

pub returns-clause-bound_again : goal.returns-clause-bound_again
unfolding IsStrictlySortedBy
returns-clause-bound_again c = λ scoped. let less = scoped.1.0.0.0.0 in cc

pub returns-clause-bound_twice : goal.returns-clause-bound_twice
unfolding IsStrictlySortedBy
returns-clause-bound_twice c = λ scoped. let less = scoped.0.0.0.0 in cc

pub returns-clause-falling : goal.returns-clause-falling
unfolding IsStrictlySortedBy
returns-clause-falling c = λ scoped. let less = scoped.0.0.0.0 in cc

pub returns-clause-guard_not_in_scope : goal.returns-clause-guard_not_in_scope
returns-clause-guard_not_in_scope c = λ scoped. apart (only variable_x plan_terms_y (scoped.0.1 plan_terms_y (here (Var plan_terms_y) [])))

pub returns-clause-test_not_in_scope : goal.returns-clause-test_not_in_scope
returns-clause-test_not_in_scope c = λ scoped. none_in_nil variable_x (scoped.0 variable_x (here (Var variable_x) []))
