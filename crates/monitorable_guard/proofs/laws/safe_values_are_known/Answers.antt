use Rattle.monitorable_guard.proofs.Vocabulary.{inl, inr, ◌⊎◌, Contains, IsFree, Classically, IsKnown}
use Rattle.monitorable_guard.proofs.KnownValues.{known}
use Rattle.monitorable_guard.proofs.laws.safe_values_are_known.Goals as goal

pub returns : goal.returns
returns c = λ trace i f bound v safe fresh sat x value free is.
    known (λ value. Classically (IsKnown trace i f bound v value)) (λ value h n. h (λ k. k n)) trace i v f (Contains bound) (λ y. Contains bound y ⊎ IsFree y f) safe fresh
    (λ y b. inl b) (λ y b. inr b)
    (λ value argument n. n (inl argument)) (λ value constant n. n (inr (inl constant))) (λ y b value is n. n (inr (inr (y, b, is)))) sat x free value is
