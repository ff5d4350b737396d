use Rattle.std.specs.Prelude.{◌≤◌, [], ◌∷◌, refl}
use Rattle.std.specs.List.Sorted.{IsStrictlySortedBy}
use Rattle.std.proofs.Common.{arith}
use Rattle.std.proofs.lemmas.List.Elements.{All-cons, All-head, All-nil}
use Rattle.deadline_queue.proofs.worked_cases.queues.Goals as goal

pub returns-clause-empty : goal.returns-clause-empty
unfolding IsStrictlySortedBy
returns-clause-empty c = record { rising = tt; some = All-nil (λ count. 1 ≤ count) }

pub returns-clause-rising : goal.returns-clause-rising
unfolding IsStrictlySortedBy
returns-clause-rising c = record {
  rising = ((refl, tt), (tt, tt));
  some = All-cons (λ count. 1 ≤ count) 2 (1 ∷ []) (omega arith) (All-cons (λ count. 1 ≤ count) 1 [] (omega arith) (All-nil (λ count. 1 ≤ count)));
}

pub returns-clause-falling : goal.returns-clause-falling
unfolding IsStrictlySortedBy
returns-clause-falling c = λ queue. grind (arith, queue.rising.0.0)

pub returns-clause-repeated : goal.returns-clause-repeated
unfolding IsStrictlySortedBy
returns-clause-repeated c = λ queue. grind (arith, queue.rising.0.0)

pub returns-clause-held_no_more : goal.returns-clause-held_no_more
returns-clause-held_no_more c = λ queue. omega (arith, All-head (λ count. 1 ≤ count) 0 [] queue.some)
