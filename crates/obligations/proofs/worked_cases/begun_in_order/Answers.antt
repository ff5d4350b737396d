use Rattle.obligations.proofs.Vocabulary.{rules, ◌≡◌, [], ◌∷◌, List, refl, ap, arith, inr, slice_index_or, event_p, no_values, at_5, begun_at_5, next_p, cause_literal, Instance, Both, AlwaysPlan}
use Rattle.obligations.proofs.UniquenessLemmas.{begun_is_one}
use Rattle.obligations.proofs.RowsLemmas.{rows_are_one}
use Rattle.obligations.proofs.worked_cases.begun_in_order.Goals as goal

-- lists whose first instances are of other nodes are not the same
apart : (i j : Instance) (is js : List Instance) → (i.node ≡ j.node → ⊥) → i ∷ is ≡ j ∷ js → ⊥
apart i j is js other same = other (ap (λ (l : List Instance). (slice_index_or l 0 i).node) same)

pub returns-clause-both : goal.returns-clause-both
returns-clause-both c = (begun_at_5 1 5 15 ∷ [], begun_at_5 3 5 15 ∷ [], refl, refl, refl)

pub returns-clause-both_not_turned : goal.returns-clause-both_not_turned
returns-clause-both_not_turned c turned =
    apart (begun_at_5 3 5 15) (begun_at_5 1 5 15) _ _ (λ is. omega (arith, is)) (begun_is_one rows_are_one (at_5 []) 0 (Both 0 (next_p 1) (next_p 3)) no_values _ _ turned (returns-clause-both c))

pub returns-clause-always_before_its_body : goal.returns-clause-always_before_its_body
returns-clause-always_before_its_body c = (begun_at_5 1 5 15 ∷ [], refl, refl)

pub returns-clause-always_not_behind_it : goal.returns-clause-always_not_behind_it
returns-clause-always_not_behind_it c turned =
    apart (begun_at_5 1 5 15) (begun_at_5 0 5 15) _ _ (λ is. omega (arith, is)) (begun_is_one rows_are_one (at_5 []) 0 (AlwaysPlan 0 0 0 10 (next_p 1)) no_values _ _ turned
    (returns-clause-always_before_its_body c))

pub returns-clause-until_before_its_left_side : goal.returns-clause-until_before_its_left_side
returns-clause-until_before_its_left_side c = inr ((cause_literal event_p 3, [], search rules), (begun_at_5 1 5 15 ∷ [], refl, refl))
