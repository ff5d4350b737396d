use Rattle.sleepers.proofs.Vocabulary.{[], ◌∷◌, ⊎_elim, arith, here, beginning_at}
use Rattle.sleepers.proofs.OrderLemmas.{not_itself}
use Rattle.sleepers.proofs.worked_cases.places.Goals as goal

pub returns-clause-not_itself : goal.returns-clause-not_itself
returns-clause-not_itself c = not_itself (beginning_at 2 0 ∷ [])

pub returns-clause-not_its_front : goal.returns-clause-not_its_front
returns-clause-not_its_front c = λ before. ⊎_elim (λ t. ⊎_elim (λ l. omega (arith, l)) (λ l. let m = l.1 in omega (arith, m)) t) (λ on. on.1) before

pub returns-clause-falling : goal.returns-clause-falling
returns-clause-falling c = λ order. ⊎_elim (λ t. ⊎_elim (λ l. omega (arith, l)) (λ l. let m = l.0 in omega (arith, m)) t) (λ on. on.1)
    (order.0 (beginning_at 1 0 ∷ []) (here (beginning_at 1 0 ∷ []) []))

pub returns-clause-repeated : goal.returns-clause-repeated
returns-clause-repeated c = λ order. not_itself (beginning_at 2 0 ∷ []) (order.0 (beginning_at 2 0 ∷ []) (here (beginning_at 2 0 ∷ []) []))
