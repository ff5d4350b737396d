use Rattle.formula_reader.proofs.Vocabulary.{◌<◌, [], ◌∷◌, refl, arith, lit≤, new_apart, variable_id}
use Rattle.std.specs.List.Sorted.{IsStrictlySortedBy}
use Rattle.formula_reader.proofs.worked_cases.well_formed.Goals as goal

pub returns-clause-scoped : goal.returns-clause-scoped
unfolding IsStrictlySortedBy
returns-clause-scoped c = ((tt, tt), ((0, lit≤ tt, refl), tt))

pub returns-clause-free : goal.returns-clause-free
returns-clause-free c = λ scoped. let below : scoped.0.0 < 0 = scoped.0.1 in absurd (omega arith)

pub returns-clause-bound_again : goal.returns-clause-bound_again
returns-clause-bound_again c = λ scoped. new_apart (variable_id 0 ∷ []) (variable_id 0 ∷ []) scoped.1.0 (variable_id 0) (0, lit≤ tt, refl) (0, lit≤ tt, refl)

pub returns-clause-bound_twice : goal.returns-clause-bound_twice
unfolding IsStrictlySortedBy
returns-clause-bound_twice c = λ scoped. let h = scoped.0.0.0 in cc

pub returns-clause-falling : goal.returns-clause-falling
unfolding IsStrictlySortedBy
returns-clause-falling c = λ scoped. let h = scoped.0.0.0 in cc

pub returns-clause-last_end : goal.returns-clause-last_end
returns-clause-last_end c = ((lit≤ tt, lit≤ tt), refl)
