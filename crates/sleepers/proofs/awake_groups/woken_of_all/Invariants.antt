use Rattle.sleepers.proofs.Vocabulary.{◌≡◌, ℕ, List, shown, entries_of}
use Rattle.sleepers.proofs.GroupLookLemmas.{AreAwakeBelow}
use Rattle.sleepers.proofs.awake_groups.woken_of_all.Given as goal

abbrev pub invariant-loop-number : goal.invariant-loop-number
invariant-loop-number g l =
    (numbers : List ℕ) × AreAwakeBelow l.events l.time l.groups l.number numbers × (shown l.woken.items ≡ entries_of l.groups numbers)
