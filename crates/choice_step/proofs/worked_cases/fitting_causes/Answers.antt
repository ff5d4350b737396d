use Rattle.choice_step.proofs.Vocabulary.{◌≡◌, Bool, true, ◌&&◌, IsTrue, List, [], ◌∷◌, Option, None, Some, refl, ap, subst, list_all, false≢true, none-some, same_Some, here, no_values, onto_values}
use Rattle.choice_step.proofs.Vocabulary.{value_at, with_values, value_at-insert, Value, Text, variable_x, is_number}
use Rattle.choice_step.proofs.worked_cases.fitting_causes.Goals as goal

pub returns-clause-of_numbers : goal.returns-clause-of_numbers
returns-clause-of_numbers c v args right is = by (value_at v variable_x) refl is
  where
    by : (o : Option Value) → value_at v variable_x ≡ o → onto_values o (Some []) ≡ Some args → IsTrue (list_all is_number args)
    by None at got = absurd (none-some args got)
    by (Some a) at got =
        subst (λ (l : List Value). IsTrue (list_all is_number l)) (same_Some (a ∷ []) args got)
        (ap (λ (b : Bool). b && true) (right variable_x a (here variable_x []) at))

pub returns-clause-not_of_all : goal.returns-clause-not_of_all
returns-clause-not_of_all c all =
    false≢true
    (all (with_values (variable_x ∷ []) (Text [] ∷ []) no_values) (Text [] ∷ []) (λ y value there at. refl)
    (ap (λ (o : Option Value). onto_values o (Some [])) (value_at-insert no_values variable_x (Text []) variable_x)))
