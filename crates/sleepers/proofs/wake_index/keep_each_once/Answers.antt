use Rattle.sleepers.proofs.Vocabulary.{◌≡◌, ℕ, List, Contains, nat_eq, sym, subst, dedup, dedup_is, Contains-dedup_nat, Contains-permutation, IsStrictlyIncreasing-dedup, IsPermutation-sym}
use Rattle.sleepers.proofs.Vocabulary.{sorted_from_strictly_increasing, HasNoRepeats}
use Rattle.std.proofs.lemmas.List.Kept.{Contains-from_dedup}
use Rattle.sleepers.proofs.PairLemmas.{rising_once}
use Rattle.sleepers.proofs.wake_index.keep_each_once.Goals as goal

pub returns-clause-once : goal.returns-clause-once
returns-clause-once c =
    let sorted = c.sort_unstable.new.self.items in
    let left : c.dedup.new.self.items ≡ dedup nat_eq sorted = dedup_is nat_eq sorted c.dedup.new.self.items c.dedup.ensures.filtered in
    subst HasNoRepeats (sym left)
    (rising_once (dedup nat_eq sorted) (sorted_from_strictly_increasing (dedup nat_eq sorted) (IsStrictlyIncreasing-dedup sorted c.sort_unstable.ensures.sorted)))

pub returns-clause-same : goal.returns-clause-same
returns-clause-same c = λ n there.
    let sorted = c.sort_unstable.new.self.items in
    let left : c.dedup.new.self.items ≡ dedup nat_eq sorted = dedup_is nat_eq sorted c.dedup.new.self.items c.dedup.ensures.filtered in
    subst (λ (l : List ℕ). Contains l n) (sym left)
    (Contains-dedup_nat sorted n (Contains-permutation c.args.numbers.now.items sorted n c.sort_unstable.ensures.permutation there))

pub returns-clause-among : goal.returns-clause-among
returns-clause-among c = λ n there.
    let sorted = c.sort_unstable.new.self.items in
    let left : c.dedup.new.self.items ≡ dedup nat_eq sorted = dedup_is nat_eq sorted c.dedup.new.self.items c.dedup.ensures.filtered in
    Contains-permutation sorted c.args.numbers.now.items n (IsPermutation-sym c.args.numbers.now.items sorted c.sort_unstable.ensures.permutation)
    (Contains-from_dedup nat_eq sorted n (subst (λ (l : List ℕ). Contains l n) left there))
